-- The first i records stand in every column.
use Rattle.std.proofs.Common.{◌≡◌, take}
use Rattle.lists.specs.Written.{written}
use Rattle.codec_records.specs.Records.{column}
use Rattle.codec_records.specs.declared.records.Record.{Record}
use Rattle.codec_records.proofs.columns.gather.Given as goal

abbrev pub invariant-loop-i : goal.invariant-loop-i
invariant-loop-i l =
    record {
      given_is : l.columns.given ≡ l.given;
      flags_are : l.columns.flags ≡ written (column Record.flags (take l.i l.record-items)) l.initial.columns.flags;
      names_are : l.columns.names ≡ written (column Record.name (take l.i l.record-items)) l.initial.columns.names;
      verdicts_are : l.columns.verdicts ≡ written (column Record.verdict (take l.i l.record-items)) l.initial.columns.verdicts;
      ranks_are : l.columns.ranks ≡ written (column Record.rank (take l.i l.record-items)) l.initial.columns.ranks;
      clipped_are : l.columns.clipped ≡ written (column Record.clipped (take l.i l.record-items)) l.initial.columns.clipped;
      positions_are : l.columns.positions ≡ written (column Record.position (take l.i l.record-items)) l.initial.columns.positions;
      starts_are : l.columns.starts ≡ written (column Record.start (take l.i l.record-items)) l.initial.columns.starts;
      counts_are : l.columns.counts ≡ written (column Record.count (take l.i l.record-items)) l.initial.columns.counts;
    }
