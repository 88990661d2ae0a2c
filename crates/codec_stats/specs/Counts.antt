-- The ledger as its 20 counts, in the order of its fields.
use Rattle.std.specs.Prelude.{List, [], ◌∷◌, ◌++◌, ℕ, ◌+◌, get_or}
use Rattle.lists.specs.Tabulate.{tabulate}
use Rattle.codec_stats.specs.declared.ledger.Ledger.{Ledger}

-- the 20 counts of a ledger, in its order
unfoldable pub counts_of : Ledger → List ℕ
counts_of l =
    l.families ∷ l.records ∷ tabulate (λ i. get_or l.reasons i 0) 10
    ++ (
    l.passed_over ∷ l.no_strand ∷ l.used ∷ l.disagreement_rejected ∷ l.duplexes ∷ l.bases ∷ l.duplex_bases ∷ l.disagreements ∷ [])

-- the ledger whose 20 counts, in its order, are given by their places
unfoldable pub ledger_by : (ℕ → ℕ) → Ledger
ledger_by place =
    record {
      families = place 0;
      records = place 1;
      reasons = tabulate (λ i. place (i + 2)) 10;
      passed_over = place 12;
      no_strand = place 13;
      used = place 14;
      disagreement_rejected = place 15;
      duplexes = place 16;
      bases = place 17;
      duplex_bases = place 18;
      disagreements = place 19;
    }

-- the ledger of 20 counts
abbrev pub ledger_of : List ℕ → Ledger
ledger_of counts = ledger_by (λ j. get_or counts j 0)
