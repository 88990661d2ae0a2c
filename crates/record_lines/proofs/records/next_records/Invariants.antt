-- The first places of the room hold the records of the lines passed; the lines left are those of the records left.
use Rattle.std.proofs.Common.{◌≡◌, ◌-◌, ◌≤◌, List, length, take}
use Rattle.codec_records.specs.declared.records.Record.{Record}
use Rattle.line_text.specs.Reading.{got_after, lines_from}
use Rattle.record_lines.specs.Records.{records_from}
use Rattle.record_lines.proofs.records.next_records.Given as goal

abbrev pub invariant-loop-i : goal.invariant-loop-i
invariant-loop-i l =
    (length l.room ≡ 512) × (l.at ≤ length l.text) × (done : List Record) × (length done ≡ l.i) × (take l.i l.room ≡ take 512 done) × (records_from l.count (lines_from l.text l.start) ≡ got_after done (records_from (l.count - l.i) (lines_from l.text l.at)))
