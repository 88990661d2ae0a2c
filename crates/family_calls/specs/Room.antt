-- How much a family call is lent.
use Rattle.std.specs.Prelude.{ℕ, ◌≤◌, length}
use Rattle.codec_duplex.specs.Columns.{strand}
use Rattle.codec_family.specs.Call.{Lent}
use Rattle.codec_family.specs.declared.room.Room.{Room}
use Rattle.codec_family.specs.declared.room.Widths.{Widths}
use Rattle.record_lines.specs.declared.header.Header.{Header}
use Rattle.answer_text.specs.FamilyText.{Holding}

abbrev pub alike : ℕ → Widths
alike n = record { bases = n; quals = n; depths = n; errors = n }

abbrev pub room_for : Header → Room
room_for h =
    record {
      duplex = alike h.columns;
      r1 = alike h.columns;
      r2 = alike h.columns;
      listed_records = h.list;
      listed_reasons = h.list;
      marks = h.marks;
    }

-- as much as any header announces
pub record Roomy (lent : Lent) : Type 0 where
  pub duplex : Holding 2100 (strand lent.duplex.bases lent.duplex.quals lent.duplex.depths lent.duplex.errors)
  pub r1 : Holding 2100 lent.r1
  pub r2 : Holding 2100 lent.r2
  pub records : 600 ≤ length lent.listed_records
  pub reasons : 600 ≤ length lent.listed_reasons
  pub marks : 16 ≤ length lent.marks
