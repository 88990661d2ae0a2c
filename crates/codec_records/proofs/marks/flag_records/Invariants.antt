-- Flagging the records from place k on gives what flagging all of them gives.
use Rattle.std.proofs.Common.{◌≡◌, length, drop}
use Rattle.codec_records.specs.Marks.{flagged}
use Rattle.codec_records.proofs.marks.flag_records.Given as goal

abbrev pub invariant-loop-record : goal.invariant-loop-record
invariant-loop-record l = (flagged (drop l.record-index l.side) l.flags ≡ flagged l.side l.initial.flags) × (length l.flags ≡ length l.initial.flags)
