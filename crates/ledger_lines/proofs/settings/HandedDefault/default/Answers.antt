-- A ledger's counts are 0 by default, as those of a fresh one.
use Rattle.std.proofs.Common.{◌≡◌, ℕ, List, replicate, refl, sym, ◌∙◌}
use Rattle.std.proofs.lemmas.List.{get_or-replicate}
use Rattle.std.specs.Array.{AllOfLen}
use Rattle.codec_stats.specs.Ledger.{fresh}
use Rattle.lists.proofs.Tabulate.{tabulate_get_d, tabulate-same}
use Rattle.ledger_lines.proofs.settings.HandedDefault.default.Goals as goal

zeros : (xs : List ℕ) → AllOfLen (λ n. n ≡ 0) xs 10 → xs ≡ replicate 10 0
zeros xs all =
    sym (tabulate_get_d xs 0) ∙ rw all.long (tabulate-same _ _ 10 (λ i h. all.at i 0 h ∙ sym (get_or-replicate 10 i 0 0 h)) ∙ tabulate_get_d (replicate 10 0) 0)

pub returns : goal.returns
returns c =
    let l = c.default-ledger.result in
    let none = c.default-ledger.ensures in
    let reasons : l.reasons ≡ replicate 10 0 = zeros l.reasons none.1.1.0 in
    let counts : l ≡ fresh = λ k.
    record {
      families = none.0 k;
      records = none.1.0 k;
      reasons = reasons k;
      passed_over = none.1.1.1.0 k;
      no_strand = none.1.1.1.1.0 k;
      used = none.1.1.1.1.1.0 k;
      disagreement_rejected = none.1.1.1.1.1.1.0 k;
      duplexes = none.1.1.1.1.1.1.1.0 k;
      bases = none.1.1.1.1.1.1.1.1.0 k;
      duplex_bases = none.1.1.1.1.1.1.1.1.1.0 k;
      disagreements = none.1.1.1.1.1.1.1.1.1.1 k;
    } in
    rw counts refl
