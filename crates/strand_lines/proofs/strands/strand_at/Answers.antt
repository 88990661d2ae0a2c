-- Four columns, each read where the one before it ends.
use Rattle.std.proofs.Common.{◌≡◌, rules, [], ◌∷◌, Err}
use Rattle.strand_lines.proofs.Columns.{column_read}
use Rattle.strand_lines.specs.Strands.{strand_from}
use Rattle.strand_lines.proofs.strands.strand_at.Goals as goal

pub returns-in_err-bases : goal.returns-in_err-bases
unfolding strand_from
returns-in_err-bases c =
    let is : c.from_residual.result ≡ Err c.in_err-bases.field-0.0 = search rules in
    rw is (record { same = rw (← c.in_err-bases.ensures.same); within = c.in_err-bases.ensures.within })

pub returns-in_err-quals : goal.returns-in_err-quals
unfolding strand_from
returns-in_err-quals c =
    let is : c.from_residual-in_err-quals.result ≡ Err c.in_err-quals.field-0.0 = search rules in
    let quals = column_read (81 ∷ []) 255 _ _ c.in_err-quals.ensures (search rules) in
    rw is (record { same = rw (← c.in_ok-bases.ensures.same, ← quals.same); within = quals.within })

pub returns-in_err-depths : goal.returns-in_err-depths
unfolding strand_from
returns-in_err-depths c =
    let is : c.from_residual-in_err-depths.result ≡ Err c.in_err-depths.field-0.0 = search rules in
    let quals = column_read (81 ∷ []) 255 _ _ c.in_ok-quals.ensures (search rules) in
    let depths = column_read (68 ∷ []) 65535 _ _ c.in_err-depths.ensures (search rules) in
    rw is (record { same = rw (← c.in_ok-bases.ensures.same, ← quals.same, ← depths.same); within = depths.within })

pub returns-in_err-errors : goal.returns-in_err-errors
unfolding strand_from
returns-in_err-errors c =
    let is : c.from_residual-in_err-errors.result ≡ Err c.in_err-errors.field-0.0 = search rules in
    let quals = column_read (81 ∷ []) 255 _ _ c.in_ok-quals.ensures (search rules) in
    let depths = column_read (68 ∷ []) 65535 _ _ c.in_ok-depths.ensures (search rules) in
    let errors = column_read (69 ∷ []) 65535 _ _ c.in_err-errors.ensures (search rules) in
    rw is (record { same = rw (← c.in_ok-bases.ensures.same, ← quals.same, ← depths.same, ← errors.same); within = errors.within })

pub returns : goal.returns
unfolding strand_from
returns c =
    let quals = column_read (81 ∷ []) 255 _ _ c.in_ok-quals.ensures (search rules) in
    let depths = column_read (68 ∷ []) 65535 _ _ c.in_ok-depths.ensures (search rules) in
    let errors = column_read (69 ∷ []) 65535 _ _ c.in_ok-errors.ensures (search rules) in
    record { same = rw (← c.in_ok-bases.ensures.same, ← quals.same, ← depths.same, ← errors.same); within = errors.within }
