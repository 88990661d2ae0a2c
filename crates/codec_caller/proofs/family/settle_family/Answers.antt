-- All is read off the fates that `settle` leaves.
use mathlib.Core.List.{List}
use mathlib.Core.Path.{◌≡◌, ◌∙◌, ap}
use Prim.Native.Nat.{ℕ, ◌≤◌}
use lib.ListN.{length}
use Rattle.codec_rejects.specs.Fates.{settled}
use Rattle.codec_rejects.proofs.Settling.{length-settled}
use Rattle.codec_family.specs.Counted.{counted_by}
use Rattle.codec_family.specs.Fates.{fate_by}
use Rattle.codec_family.proofs.Counting.{few_downsampled, few_marks, listed-length}
use Rattle.codec_caller.proofs.family.settle_family.Goals as goal
use Rattle.codec_caller.proofs.family.settle_family.Goals.{After-settle}

abbrev own_of : After-settle → List ℕ
own_of c = settled (fate_by c.args.verdict.ending) c.args.fates.now

-- what `settle` leaves
own-fates : (c : After-settle) → c.settle.new.fates ≡ own_of c
own-fates c = c.settle.ensures ∙ ap (λ (fate : ℕ). settled fate c.args.fates.now) c.fate_by.ensures

few_own : (c : After-settle) → length (own_of c) ≤ 512
few_own c = rw (length-settled (fate_by c.args.verdict.ending) c.args.fates.now) c.requires.fates_len_bound.0

pub list_length-requires : goal.list_length-requires
list_length-requires c =
    let at = (goal.at.list_length-requires c).After-settle in (
      rw c.write_marks.auto.marks c.requires.fates_len_bound.3,
      rw (c.write_marks.ensures, own-fates at) (few_marks (own_of at) c.args.marks.now (few_own at)),
      rw (c.counted-counted.ensures, own-fates at) (few_downsampled (own_of at) c.args.verdict.ending c.args.verdict.tally (few_own at)),
    )

pub returns : goal.returns
returns c =
    let at = (goal.at.returns c).After-settle in
    let now = own-fates at in
    let counts = c.counted-counted.ensures ∙ ap (λ (fates : List ℕ). counted_by (length fates) fates c.args.verdict.ending c.args.verdict.tally) now in
    record {
      list_length = c.list_length.ensures ∙ rw (c.write_marks.ensures, now, counts) (listed-length (own_of at) c.args.verdict.ending c.args.verdict.tally c.args.marks.now (few_own at));
      counted = counts;
      records_written = rw now at c.write_list.ensures.records_after;
      reasons_written = rw now at c.write_list.ensures.reasons_after;
      marks-written = rw now at c.write_marks.ensures;
    }
