-- Document 01, 'A family' and 'The answers': what a family call is given, and what is lent to it.
use Rattle.std.specs.Prelude.{Bool, List, [], ℕ, length, Option, unwrap_or}
use Rattle.std.specs.Bool.{then_some}
use Rattle.codec_duplex.specs.Columns.{Strand, strand}
use Rattle.codec_duplex.specs.Duplex.{Duplex}
use Rattle.codec_records.specs.declared.options.Options.{Options}
use Rattle.codec_records.specs.declared.records.Record.{Record}
use Rattle.codec_family.specs.declared.room.Room.{Room}
use Rattle.codec_family.specs.declared.room.Widths.{Widths}

-- what the call writes to: 'Duplex and both strands fill the first positions of four columns each'; 'two columns, record and reason'; the marks
pub record Lent : Type 0 where
  pub duplex : Duplex
  pub r1 : Strand
  pub r2 : Strand
  pub listed_records : List ℕ
  pub listed_reasons : List ℕ
  pub marks : List ℕ

abbrev pub widths_of : Strand → Widths
widths_of s = record { bases = length s.bases; quals = length s.quals; depths = length s.depths; errors = length s.errors }

abbrev pub duplex_widths_of : Duplex → Widths
duplex_widths_of d = record { bases = length d.bases; quals = length d.quals; depths = length d.depths; errors = length d.errors }

-- how long these are
abbrev pub room_of : Lent → Room
room_of lent =
    record {
      duplex = duplex_widths_of lent.duplex;
      r1 = widths_of lent.r1;
      r2 = widths_of lent.r2;
      listed_records = length lent.listed_records;
      listed_reasons = length lent.listed_reasons;
      marks = length lent.marks;
    }

-- 'A strand may be absent': its columns are then none
abbrev pub columns_of : Option Strand → Strand
columns_of s = unwrap_or s (strand [] [] [] [])

-- every argument of a family call but the ledger: 'all else is given anew at each'
pub record Call : Type 0 where
  pub records : List Record
  pub ops : List ℕ
  pub options : Options
  pub r1 : Option Strand
  pub r2 : Option Strand
  pub room : Room

-- what is lent, and the arguments, as a function has them
abbrev pub lent_of : Duplex → (r1 r2 : Strand) → (listed_records listed_reasons marks : List ℕ) → Lent
lent_of duplex r1 r2 listed_records listed_reasons marks =
    record { duplex = duplex; r1 = r1; r2 = r2; listed_records = listed_records; listed_reasons = listed_reasons; marks = marks }

abbrev pub call_of : List Record → (ops : List ℕ) → Options → (has_r1 : Bool) → Strand → (has_r2 : Bool) → Strand → Lent → Call
call_of records ops options has_r1 r1 has_r2 r2 lent =
    record { records = records; ops = ops; options = options; r1 = then_some has_r1 r1; r2 = then_some has_r2 r2; room = room_of lent }
