use Rattle.std.proofs.Common.{[], ◌∷◌, ◌++◌, length, drop}
use Rattle.table_text.specs.Page.{HasRoom, Appends}
use Rattle.table_text.specs.declared.page.Page.{Page}
use Rattle.sheet_text.specs.SheetText.{numbers_text}
use Rattle.sheet_text.proofs.line.write_numbers.Given as goal

abbrev pub invariant-loop-n : goal.invariant-loop-n
invariant-loop-n l =
    let left = numbers_text (drop l.n-index l.others ++ (l.last ∷ [])) in
    record {
      room : HasRoom (length left) l.page;
      completes : (page : Page) → Appends left l.page page → Appends (numbers_text l.numbers) l.fn.page page;
    }
