-- The text form: RECORDS such lines.
use Rattle.std.specs.Prelude.{List, [], ◌∷◌, ℕ, zero, suc, Ok}
use Rattle.codec_records.specs.declared.records.Record.{Record}
use Rattle.table_text.specs.Parts.{Parts}
use Rattle.line_text.specs.Reading.{Reading, and_next, got_after, one_line}
use Rattle.record_lines.specs.Record.{record_of}

-- the records of as many lines
unfoldable pub records_from : ℕ → Parts → Reading (List Record)
records_from zero text = Ok ([], text)
records_from (suc count) text = and_next (one_line record_of text) λ r rest. got_after (r ∷ []) (records_from count rest)
