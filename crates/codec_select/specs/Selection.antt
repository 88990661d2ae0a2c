-- Document 01, 'Selection alone': what the steps make of a family's records.
use Rattle.std.specs.Prelude.{List, ℕ}
use Rattle.codec_records.specs.Records.{column}
use Rattle.codec_records.specs.declared.options.Options.{Options}
use Rattle.codec_records.specs.declared.records.Record.{Record}
use Rattle.codec_select.specs.Alignments.{alignments_of}
use Rattle.codec_select.specs.Steps.{Course, selected}

-- steps 1 to 7 of a family's records; how many they are is given beside them, since the columns have room for 512
abbrev pub course_of : Options → ℕ → List Record → List ℕ → Course
course_of o count records ops =
    selected o count (column Record.name records) (column Record.verdict records) (column Record.rank records) (alignments_of records ops)
