-- The base and a space, and then three numbers.
use Rattle.std.proofs.Common.{[], ◌∷◌, ◌++◌}
use Rattle.table_text.specs.OutputTable.{number_text, position_text}
use Rattle.table_text.proofs.Pages.{appends_then}
use Rattle.table_text.proofs.output_table.write_position.Goals as goal

pub returns-clause-appended : goal.returns-clause-appended
unfolding position_text
returns-clause-appended c =
    let p = c.args.p in
    let quality = rw c.from.ensures at c.write_short.ensures.appended in
    let front = appends_then (p.base ∷ []) (32 ∷ []) c.push.ensures c.push-2.ensures in
    let back = appends_then (number_text p.depth 32) (number_text p.error 10) c.write_short-2.ensures.appended c.write_short-3.ensures.appended in
    let numbers = appends_then (number_text p.quality 32) (number_text p.depth 32 ++ number_text p.error 10) quality back in
    appends_then (p.base ∷ 32 ∷ []) (number_text p.quality 32 ++ (number_text p.depth 32 ++ number_text p.error 10)) front numbers
