-- Document 01, 'The answers': 'a family not called touches none of these twelve'. Only inner contracts need it.
use Rattle.std.specs.Prelude.{Bool, true, false, ◌≡◌, Option, is_some}
use Rattle.codec_duplex.specs.Columns.{Strand}
use Rattle.codec_framing.specs.Framing.{Framable, Framed}
use Rattle.codec_framing.specs.declared.frame.Frame.{Frame}
use Rattle.codec_strands.specs.declared.mask.Masks.{Masks}
use Rattle.codec_family.specs.Call.{Lent, columns_of}

-- both strands are there, and what is lent has room for their duplex
pub record Writable (f : Frame) (r1 r2 : Option Strand) (lent : Lent) : Type 0 where
  pub has_r1 : is_some r1 ≡ true
  pub has_r2 : is_some r2 ≡ true
  pub framable : Framable f (columns_of r1) (columns_of r2) lent.duplex lent.r1 lent.r2

-- what is lent before and after, by whether the family is called
pub record WrittenIf (called : Bool) (f : Frame) (masks : Masks) (r1 r2 : Strand) (before after : Lent) : Type 0 where
  pub filled : called ≡ true → Framed f masks r1 r2 before.duplex after.duplex before.r1 after.r1 before.r2 after.r2
  pub untouched : called ≡ false → (after.duplex ≡ before.duplex) × (after.r1 ≡ before.r1) × (after.r2 ≡ before.r2)
  pub list_records : after.listed_records ≡ before.listed_records
  pub list_reasons : after.listed_reasons ≡ before.listed_reasons
  pub marks : after.marks ≡ before.marks
