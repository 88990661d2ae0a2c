-- The text form: `B BASES`, the bases as text; `B` alone for a strand of no bases.
use Rattle.std.specs.Prelude.{cond, ◌&&◌, List, [], ◌∷◌, ℕ, leb, length, Option, Some, None}
use Prim.Native.Char.{code}
use Rattle.table_text.specs.Fields.{fields_of}
use Rattle.line_text.specs.Line.{behind_tag}

-- no field, or one of 1 to 1,100 bytes
unfoldable pub bases_of : List (List ℕ) → Option (List ℕ)
bases_of [] = Some []
bases_of (field ∷ []) = cond (leb 1 (length field) && leb (length field) 1100) (Some field) None
bases_of (field ∷ other ∷ more) = None

abbrev pub bases_after : Option (List (List ℕ)) → Option (List ℕ)
bases_after (Some fields) = bases_of fields
bases_after None = None

-- a line of bases
unfoldable pub bases_line : List ℕ → Option (List ℕ)
bases_line line = bases_after (behind_tag (code "B" ∷ []) (fields_of line))
