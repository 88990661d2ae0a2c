-- Reading the fields left, behind those passed, gives what reading all of them gives.
use Rattle.std.proofs.Common.{◌<◌, ◌≤◌, sym, length, length-set, append-nil, arith}
use Rattle.std.proofs.lemmas.List.{length-replicate, take_all}
use Rattle.table_text.proofs.FieldLists.{alone-fields}
use Rattle.line_text.proofs.Layouts.{front_none, values_next, values_stop, values_end}
use Rattle.line_text.specs.declared.value.Kind.TheVariants.{Plain}
use Rattle.line_text.proofs.line.read_fields.Goals as goal

pub loop-i-init : goal.loop-i-init
loop-i-init g c = (length-replicate _ _, sym (front_none _))

pub returns-in_err-value : goal.returns-in_err-value
returns-in_err-value g c =
    let here : c.loop-i.i < length c.args.layout.now = omega arith in
    rw (c.from_residual.ensures, values_stop _ _ _ _ _ _ c.loop-i.invariant.1 here c.in_err-value.ensures)

pub loop-i-preserved : goal.loop-i-preserved
loop-i-preserved g c =
    let inv = c.loop-i.invariant in
    let here : c.loop-i.i < length c.args.layout.now = omega arith in
    let room : c.loop-i.i < length c.loop-i.values = omega arith in
    (simp length-set inv.0, values_next _ _ _ _ _ _ inv.1 here room _ _ c.in_ok-value.ensures)

pub returns : goal.returns
returns g c =
    let inv = c.loop-i.invariant in
    let past : length c.args.layout.now ≤ c.loop-i.i = omega arith in
    let whole : length c.loop-i.values ≤ c.loop-i.i = omega arith in
    rw (c.then_some.ensures, values_end _ _ (Plain 0) _ _ _ inv.1 past, take_all _ c.loop-i.values whole, append-nil) (sym (alone-fields _ _ _))
