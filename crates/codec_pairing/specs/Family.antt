-- The words of steps 1 and 2, and of the refusals, on a family that is lent.
use Rattle.std.specs.Prelude.{Bool, List, ℕ, get_or}
use Rattle.codec_records.specs.declared.family.Family.{Family}
use Rattle.codec_pairing.specs.Pairing as columns
use Rattle.codec_pairing.specs.Refusals as refusals
use Rattle.codec_pairing.specs.Search as search

abbrev pub name_of : Family → ℕ → ℕ
name_of f i = get_or f.names.now i 0

abbrev pub is_namesake : Family → ℕ → ℕ → Bool
is_namesake f name i = columns.is_namesake f.flags.now f.names.now name i

abbrev pub namesakes_from : Family → ℕ → ℕ → List ℕ
namesakes_from f name from = columns.namesakes_from f.flags.now f.names.now name from

abbrev pub has_namesake : Family → ℕ → ℕ → Bool
has_namesake f name from = search.has_namesake f.flags.now f.names.now name from

abbrev pub is_pair : Family → ℕ → Bool
is_pair f i = columns.is_pair f.verdicts.now (columns.namesakes f.flags.now f.names.now i)

abbrev pub later_of : Family → ℕ → ℕ
later_of f i = columns.later_of f.flags.now f.names.now i

abbrev pub opens_pair : Family → ℕ → Bool
opens_pair f i = columns.opens_pair f.flags.now f.names.now f.verdicts.now i

abbrev pub fate_of : Family → ℕ → ℕ
fate_of f i = columns.fate_of f.flags.now f.names.now f.verdicts.now i

abbrev pub side_r1 : Family → List ℕ
side_r1 f = columns.side_r1 f.flags.now f.names.now f.verdicts.now

abbrev pub side_r2 : Family → List ℕ
side_r2 f = columns.side_r2 f.flags.now f.names.now f.verdicts.now

abbrev pub reads : List ℕ → Family → refusals.Reads
reads fates f = refusals.reads fates f.clipped.now f.positions.now f.starts.now f.counts.now f.ops.now
