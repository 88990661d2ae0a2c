-- An output table that is written reads back.
use mathlib.Core.Bool.{Bool, true, false, not}
use mathlib.Core.List.{List, [], ◌∷◌, ◌++◌, append_assoc}
use mathlib.Core.Path.{◌≡◌, refl, sym, ◌∙◌, ap}
use Prim.Native.Nat.{ℕ, ◌+◌, ◌≤◌, ◌<◌}
use native.Mathlib.Omega.{arith}
use borrow.Author.Tests.{le-leb, leb-true, ne_eqb, not-true, eq-eqb}
use lib.Dec.{leb, eqb}
use lib.ListN.{length}
use Rattle.std.specs.Prelude.{Some, Ok}
use Rattle.std.specs.List.{list_all}
use Rattle.std.proofs.lemmas.Bool.{and_parts}
use Rattle.codec_duplex.specs.Position.{combined}
use Rattle.codec_duplex.specs.declared.position.Position.{Position}
use Rattle.table_text.specs.Decimal.{is_digit, decimal}
use Rattle.table_text.specs.Fields.{is_base, listed, fields_of, base_field, number_field}
use Rattle.table_text.specs.Reading.{same_bytes}
use Rattle.table_text.specs.OutputTable.{number_text, position_text, rows_text, output_table}
use Rattle.table_text.specs.Parts.{last, ended, in_front, parts}
use Rattle.table_text.specs.Rows.{position_fields, position_line}
use Rattle.partner_table.specs.Check.{combined_rows}
use Rattle.table_text.specs.OutputReading.{partner_names, partner_table}
use Rattle.partner_table.specs.Promises.{InRange, RowsInRange}
use Rattle.table_text.specs.Reading.{Table, lines_from, read_table}
use Rattle.partner_table.proofs.Digits.{list_all-append, decimal_digits, decimal-reads}
use Rattle.partner_table.proofs.InRange.{combined_in}

-- the byte stands nowhere in the text
abbrev without : ℕ → List ℕ → Bool
without byte text = list_all (λ b. not (eqb b byte)) text

-- a text without the byte is one part
pub part_ended_by : (byte : ℕ) (xs ys : List ℕ) → without byte xs ≡ true → parts byte (xs ++ (byte ∷ ys)) ≡ ended xs (parts byte ys)
unfolding parts in_front
part_ended_by byte [] ys h = rw (eq-eqb byte byte refl)
part_ended_by byte (x ∷ xs) ys h =
    let both = and_parts (not (eqb x byte)) (without byte xs) h in
    rw (not-true (eqb x byte) both.0, part_ended_by byte xs ys both.1)

pub part_alone : (byte : ℕ) (xs : List ℕ) → without byte xs ≡ true → parts byte xs ≡ last xs
unfolding parts in_front
part_alone byte [] h = refl
part_alone byte (x ∷ xs) h =
    let both = and_parts (not (eqb x byte)) (without byte xs) h in
    rw (not-true (eqb x byte) both.0, part_alone byte xs both.1)

-- digits are neither spaces nor line feeds
digits_without : (byte : ℕ) (xs : List ℕ) → byte < 48 → list_all is_digit xs ≡ true → without byte xs ≡ true
digits_without byte [] h all = refl
digits_without byte (x ∷ xs) h all =
    let both = and_parts (is_digit x) (list_all is_digit xs) all in
    let above : 48 ≤ x = leb-true 48 x (and_parts (leb 48 x) (leb x 57) both.0).0 in
    rw (ne_eqb x byte (λ e. omega arith), digits_without byte xs h both.1)

number-without : (byte n : ℕ) → byte < 48 → n ≤ 65535 → without byte (decimal n) ≡ true
number-without byte n h short = digits_without byte (decimal n) h (decimal_digits n short)

base_without : (byte b : ℕ) → byte < 65 → is_base b ≡ true → eqb b byte ≡ false
base_without byte b h is = ne_eqb b byte (λ e. mathlib.Core.Bool.false≢true (sym (never e) ∙ is))
  where
    never : b ≡ byte → is_base b ≡ false
    never e =
        rw (
          ne_eqb b 65 (λ f. omega arith),
          ne_eqb b 67 (λ f. omega arith),
          ne_eqb b 71 (λ f. omega arith),
          ne_eqb b 84 (λ f. omega arith),
          ne_eqb b 78 (λ f. omega arith),
          ne_eqb b 110 (λ f. omega arith),
        )

-- a position's line without its line feed
abbrev pub numbers_text : ℕ → ℕ → ℕ → List ℕ
numbers_text q d e = decimal q ++ (32 ∷ (decimal d ++ (32 ∷ decimal e)))

abbrev pub line_text : Position → List ℕ
line_text p = p.base ∷ 32 ∷ numbers_text p.quality p.depth p.error

numbers_joined : (q d e rest : List ℕ) → (q ++ (32 ∷ [])) ++ ((d ++ (32 ∷ [])) ++ (e ++ (10 ∷ []))) ++ rest ≡ (q ++ (32 ∷ (d ++ (32 ∷ e)))) ++ (10 ∷ rest)
numbers_joined q d e rest = simp append_assoc

pub position-joined : (p : Position) (rest : List ℕ) → position_text p ++ rest ≡ line_text p ++ (10 ∷ rest)
unfolding position_text number_text
position-joined p rest = ap (λ (xs : List ℕ). p.base ∷ 32 ∷ xs) (numbers_joined (decimal p.quality) (decimal p.depth) (decimal p.error) rest)

module _ (p : Position) (range : InRange p) where
  line_without : without 10 (line_text p) ≡ true
  line_without =
      let q = number-without 10 p.quality (omega arith) (omega (arith, range.quality_le)) in
      let d = number-without 10 p.depth (omega arith) range.depth_le in
      let e = number-without 10 p.error (omega arith) range.error_le in
      let de : without 10 (decimal p.depth ++ (32 ∷ decimal p.error)) ≡ true = list_all-append (λ b. not (eqb b 10)) (decimal p.depth) (32 ∷ decimal p.error) d e in
      let qde : without 10 (numbers_text p.quality p.depth p.error) ≡ true = list_all-append (λ b. not (eqb b 10)) (decimal p.quality) (32 ∷ (decimal p.depth ++ (32 ∷ decimal p.error))) q de in
      rw (base_without 10 p.base (omega arith) range.a_base, qde)

  line_fields : fields_of (line_text p) ≡ (p.base ∷ []) ∷ decimal p.quality ∷ decimal p.depth ∷ decimal p.error ∷ []
  unfolding listed
  line_fields =
      let b : without 32 (p.base ∷ []) ≡ true = rw (base_without 32 p.base (omega arith) range.a_base) in
      rw (
        part_ended_by 32 (p.base ∷ []) (numbers_text p.quality p.depth p.error) b,
        part_ended_by 32 (decimal p.quality) (decimal p.depth ++ (32 ∷ decimal p.error)) (number-without 32 p.quality (omega arith) (omega (arith, range.quality_le))),
        part_ended_by 32 (decimal p.depth) (decimal p.error) (number-without 32 p.depth (omega arith) range.depth_le),
        part_alone 32 (decimal p.error) (number-without 32 p.error (omega arith) range.error_le),
      )

  -- a position's line reads as the position
  pub line_reads : position_line (line_text p) ≡ Some p
  unfolding position_line position_fields base_field number_field
  line_reads =
      rw (
        line_fields,
        range.a_base,
        decimal-reads 255 p.quality range.quality_le (omega arith),
        decimal-reads 65535 p.depth range.depth_le (omega arith),
        decimal-reads 65535 p.error range.error_le (omega arith),
      )

-- what is read of a table that holds these
abbrev whole : List Position → Table Position
whole positions = record { rows = positions; ending = Ok tt }

rows-read : (line : ℕ) (rows : List (Position × Position)) → RowsInRange rows → line + length rows ≤ 2050 → lines_from position_line line (parts 10 (rows_text rows)) ≡ whole (combined_rows rows)
unfolding rows_text lines_from parts
rows-read line [] range h = refl
rows-read line (r ∷ more) range h =
    let p : Position = combined r.0 r.1 in
    let fits : InRange p = combined_in r.0 r.1 range.0 range.1 in
    rw (
      position-joined p (rows_text more),
      part_ended_by 10 (line_text p) (rows_text more) (line_without p fits),
      le-leb line 2049 (omega arith),
      line_reads p fits,
      rows-read (line + 1) more range.2 (omega arith),
    )

same_bytes_lem : (xs : List ℕ) → same_bytes xs xs ≡ true
unfolding same_bytes
same_bytes_lem [] = refl
same_bytes_lem (x ∷ xs) = rw (eq-eqb x x refl, same_bytes_lem xs)

-- an output table reads as the positions that it was written from
pub output_reads : (rows : List (Position × Position)) → RowsInRange rows → length rows ≤ 2048 → partner_table (output_table rows) ≡ whole (combined_rows rows)
unfolding read_table output_table
output_reads rows range h =
    let names : parts 10 (partner_names ++ (10 ∷ rows_text rows)) ≡ ended partner_names (parts 10 (rows_text rows)) = part_ended_by 10 partner_names (rows_text rows) refl in
    rw (names, same_bytes_lem partner_names) (rows-read 2 rows range (omega arith))
