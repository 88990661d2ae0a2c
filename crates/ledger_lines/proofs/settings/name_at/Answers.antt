-- One number of 32 bits, and no field after it.
use Rattle.std.proofs.Common.{◌≡◌, Bool, true, false, refl, sym, arith}
use Rattle.std.specs.Bool.{then_some}
use Rattle.std.specs.Option.{option_map}
use Rattle.table_text.proofs.FieldLists.{alone-fields, number_field_le}
use Rattle.ledger_lines.proofs.settings.name_at.Goals as goal

mapped : {A B : Type 0} (f : A → B) (t : Bool) (a : A) → then_some t (f a) ≡ option_map f (then_some t a)
mapped f true a = refl
mapped f false a = refl

pub overflow_cast-sample : goal.overflow_cast-sample
overflow_cast-sample c = omega (arith, number_field_le _ _ _ _ (sym c.in_ok-sample.ensures))

pub returns : goal.returns
returns c = rw (c.then_some.ensures, ← c.in_ok-sample.ensures, alone-fields) (mapped _ _ _)
