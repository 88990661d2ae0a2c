-- The text form, 'Output of selection alone': a line for how it ends, and the records that stay as mark words.
use Rattle.std.specs.Prelude.{Bool, cond, List, [], ◌∷◌, ◌++◌, ◌≡◌, ℕ}
use Rattle.caller.specs.Reasons.{number_of}
use Rattle.caller.specs.Refusals as refusals
use Rattle.codec_select.specs.declared.selection.Decision.{Decision}
use Rattle.codec_select.specs.declared.selection.Decision.TheVariants.{Kept, Empty, Rejected, Refused}
use Rattle.codec_select.specs.declared.selection.Selection.{Selection}
use Rattle.table_text.specs.Text.{bytes_of}
use Rattle.answer_text.specs.Line.{line_text}

-- a yes is written as 1, a no as 0
abbrev pub flag_number : Bool → ℕ
flag_number b = cond b 1 0

-- `kept START END LENGTH NEGATIVE` and the two lines of mark words, or one line alone
unfoldable pub decision_text : Decision → List ℕ → List ℕ → List ℕ
decision_text (Kept start end length r1_negative r2_negative) r1 r2 =
    line_text (bytes_of "S kept") (start ∷ end ∷ length ∷ flag_number r1_negative ∷ []) ++ (line_text (bytes_of "K1") r1 ++ line_text (bytes_of "K2") r2)
decision_text Empty r1 r2 = line_text (bytes_of "S empty") []
decision_text (Rejected reason) r1 r2 = line_text (bytes_of "S rejected") (number_of reason ∷ [])
decision_text (Refused refusal) r1 r2 = line_text (bytes_of "S refused") (refusals.number_of refusal ∷ refusals.given_of refusal ∷ [])

-- the answer of selection alone
abbrev pub selection_text : Selection → List ℕ
selection_text selection = decision_text selection.decision selection.r1 selection.r2

-- the text is that of some answer of a kind
pub record WritesSelection (OfKind : Selection → Type 0) (text : List ℕ) : Type 0 where
  pub selection : Selection
  pub of_kind : OfKind selection
  pub is_text : text ≡ selection_text selection
