-- What a family call is given and lent, as its parts hold it.
use Rattle.std.specs.Prelude.{List, ◌≡◌, ℕ, Option, option_map}
use Rattle.codec_duplex.specs.Columns.{Strand, strand}
use Rattle.codec_duplex.specs.Duplex.{duplex}
use Rattle.codec_duplex.specs.Lent.{strand_of}
use Rattle.codec_records.specs.declared.options.Options.{Options}
use Rattle.codec_records.specs.declared.records.Record.{Record}
use Rattle.codec_family.specs.Call.{Call, Lent, room_of}
use Rattle.codec_family.specs.declared.lent.Lent.{Lent as LentMut}
use Rattle.codec_family.specs.declared.strands.Strands.{Strands}

abbrev pub lent_in : LentMut → Lent
lent_in l =
    record {
      duplex = duplex l.duplex_bases.now l.duplex_quals.now l.duplex_depths.now l.duplex_errors.now;
      r1 = strand l.r1_bases.now l.r1_quals.now l.r1_depths.now l.r1_errors.now;
      r2 = strand l.r2_bases.now l.r2_quals.now l.r2_depths.now l.r2_errors.now;
      listed_records = l.listed_records.now;
      listed_reasons = l.listed_reasons.now;
      marks = l.marks.now;
    }

-- the slices stay the same ones, whatever is written into them
pub record SameLent (old new : LentMut) : Type 0 where
  pub duplex_bases : new.duplex_bases.ghost_name ≡ old.duplex_bases.ghost_name
  pub duplex_quals : new.duplex_quals.ghost_name ≡ old.duplex_quals.ghost_name
  pub duplex_depths : new.duplex_depths.ghost_name ≡ old.duplex_depths.ghost_name
  pub duplex_errors : new.duplex_errors.ghost_name ≡ old.duplex_errors.ghost_name
  pub r1_bases : new.r1_bases.ghost_name ≡ old.r1_bases.ghost_name
  pub r1_quals : new.r1_quals.ghost_name ≡ old.r1_quals.ghost_name
  pub r1_depths : new.r1_depths.ghost_name ≡ old.r1_depths.ghost_name
  pub r1_errors : new.r1_errors.ghost_name ≡ old.r1_errors.ghost_name
  pub r2_bases : new.r2_bases.ghost_name ≡ old.r2_bases.ghost_name
  pub r2_quals : new.r2_quals.ghost_name ≡ old.r2_quals.ghost_name
  pub r2_depths : new.r2_depths.ghost_name ≡ old.r2_depths.ghost_name
  pub r2_errors : new.r2_errors.ghost_name ≡ old.r2_errors.ghost_name
  pub listed_records : new.listed_records.ghost_name ≡ old.listed_records.ghost_name
  pub listed_reasons : new.listed_reasons.ghost_name ≡ old.listed_reasons.ghost_name
  pub marks : new.marks.ghost_name ≡ old.marks.ghost_name

-- a family's strands
abbrev pub r1_of : Strands → Option Strand
r1_of strands = option_map strand_of strands.r1

abbrev pub r2_of : Strands → Option Strand
r2_of strands = option_map strand_of strands.r2

-- a family's call by its strands
abbrev pub call_in : List Record → (ops : List ℕ) → Options → Strands → Lent → Call
call_in records ops options strands lent =
    record {
      records = records;
      ops = ops;
      options = options;
      r1 = r1_of strands;
      r2 = r2_of strands;
      room = room_of lent;
    }
