-- Document 02, Req 01: once a line has named a sample each answer ends in the ledger of its sample after the call.
use Rattle.std.specs.Prelude.{cond, List, [], ◌∷◌, ℕ, ◌*◌, leb, take, drop, Option, Some, None}
use Rattle.table_text.specs.Text.{bytes_of}
use Rattle.answer_text.specs.Line.{line_text}

-- `TS SAMPLE and 20 numbers`: ledger s is the places 20 s to 20 s + 19; a sample above 95 has none
unfoldable pub sample_text : (sample : Option ℕ) → List ℕ → List ℕ
sample_text None samples = []
sample_text (Some sample) samples = cond (leb sample 95) (line_text (bytes_of "TS") (sample ∷ take 20 (drop (20 * sample) samples))) []
