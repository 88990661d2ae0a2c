-- The first field goes up to the first space or the end, and is compared with the tag.
use Rattle.std.proofs.Common.{◌≡◌, ◌-◌, Bool, true, false, cond, refl, arith, Some, None}
use Rattle.std.specs.Bool.{then_some}
use Rattle.std.specs.Option.{option_map}
use Rattle.table_text.proofs.FieldLists.{fields_whole, fields_next}
use Rattle.line_text.specs.Line.{behind_tag}
use Rattle.line_text.proofs.line.read_tag.Goals as goal

mapped-then : {A B : Type 0} (f : A → B) (t : Bool) (a : A) → option_map f (then_some t a) ≡ cond t (Some (f a)) None
mapped-then f true a = refl
mapped-then f false a = refl

pub returns : goal.returns
unfolding behind_tag
returns c =
    let found = c.part_end-end.ensures in
    let first : c.part_end-end.result - 0 ≡ c.part_end-end.result = omega arith in
    rw (c.then_some.ensures, fields_whole c.args.line.now, fields_next c.args.line.now 0 _ (omega arith) found.0 found.1, first, c.eq.ensures, mapped-then)
