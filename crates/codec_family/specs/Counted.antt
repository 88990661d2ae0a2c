-- Document 01, 'Demand 3': what a call that is not refused counts, by its fates, its ending and step 7's length.
use Rattle.std.specs.Prelude.{Bool, cond, List, ℕ, suc, eqb, length, is_err}
use Rattle.lists.specs.Tabulate.{tabulate}
use Rattle.caller.specs.Fates.{passed_over_number, no_strand_number, used_number}
use Rattle.caller.specs.Reasons.{number_of}
use Rattle.caller.specs.declared.reason.RejectionReason.TheVariants.{HighDuplexDisagreement}
use Rattle.codec_rejects.specs.Fates.{with_fate}
use Rattle.codec_stats.specs.Ledger.{Counts, plus}
use Rattle.codec_duplex.specs.declared.tally.DuplexBaseTally.{DuplexBaseTally}
use Rattle.codec_family.specs.Call.{Call}
use Rattle.codec_family.specs.Ending.{is_called, called_length, ending, tally}
use Rattle.codec_family.specs.Fates.{fate_by, fates}
use Rattle.codec_family.specs.Refusals.{refusal}
use Rattle.codec_family.specs.declared.ending.Ending.{Ending}

-- ended by HighDuplexDisagreement
abbrev pub ended_by_disagreement : Ending → Bool
ended_by_disagreement e = eqb (fate_by e) (number_of HighDuplexDisagreement)

-- what a call that is not refused adds, 'by its fates and ending in steps 1 to 9 and step 7's length'
unfoldable pub counted_by : (records : ℕ) (fates : List ℕ) → Ending → DuplexBaseTally → Counts
counted_by records fates ending tally =
    record {
      families = 1;
      records = records;
      reasons = tabulate (λ i. with_fate (suc i) fates) 10;
      passed_over = with_fate passed_over_number fates;
      no_strand = with_fate no_strand_number fates;
      used = with_fate used_number fates;
      disagreement_rejected = cond (ended_by_disagreement ending) 1 0;
      duplexes = cond (is_called ending) 1 0;
      bases = called_length ending;
      duplex_bases = tally.bases;
      disagreements = tally.disagreements;
    }

unfoldable pub counted : Call → Counts
counted c = counted_by (length c.records) (fates c) (ending c) (tally c)

-- 'A call that must be refused, 10 and 11 read on the history's counts, changes none; any other adds what demand 3 counts'
unfoldable pub after_call : Call → Counts → Counts
after_call c counts = cond (is_err (refusal c counts)) counts (plus counts (counted c))
