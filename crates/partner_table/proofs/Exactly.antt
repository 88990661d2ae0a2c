-- An answer is given exactly where what it says holds.
use Rattle.std.proofs.Common.{◌≡◌, ℕ, ◌<◌, Bool, true, false, List, Some, Result, Ok, Err, refl, sym, ◌∙◌, ap, subst, ltb, arith}
use Rattle.std.proofs.lemmas.Bool.{ltb-true, ltb-false, eq-eqb, ne_eqb}
use Rattle.codec_duplex.specs.declared.position.Position.{Position}
use Rattle.table_text.specs.InputTable.{table_of}
use Rattle.table_text.specs.OutputReading.{partner_table}
use Rattle.table_text.specs.Reading.{Table}
use Rattle.table_text.specs.declared.reading.Malformed as reading
use Rattle.partner_table.specs.Check.{first_wrong_field, checked, WellFormed, MalformedAt}
use Rattle.partner_table.specs.declared.fault.Fault.{Fault}
use Rattle.partner_table.specs.declared.fault.Fault.TheVariants.{Malformed, UnequalLines, Wrong}
use Rattle.partner_table.specs.declared.fault.Field.{Field}
use Rattle.partner_table.specs.declared.fault.Field.TheVariants.{Base, Quality, Depth, Error}
use Rattle.partner_table.specs.declared.fault.Whose.TheVariants.{Ours, Theirs}
use Rattle.partner_table.specs.Promises.{right_at, given_at, SameFields, FirstField, Comparable, Right, FirstWrong, Says}
use Rattle.partner_table.proofs.Accepting.{checked_says}

-- no field is wrong where all four are right
right_not_wrong : (right given : Position) (field : Field) → SameFields right given → FirstField right given field → ⊥
right_not_wrong right given Base same first = first same.0
right_not_wrong right given Quality same first = first.1 same.1
right_not_wrong right given Depth same first = first.2 same.2
right_not_wrong right given Error same first = first.3 same.3

-- the first wrong field is the one that is found
pub first_found : (right given : Position) (field : Field) → FirstField right given field → first_wrong_field right given ≡ Some field
unfolding first_wrong_field
first_found right given Base first = rw (ne_eqb right.base given.base first)
first_found right given Quality first = rw (eq-eqb right.base given.base first.0, ne_eqb right.quality given.quality first.1)
first_found right given Depth first = rw (eq-eqb right.base given.base first.0, eq-eqb right.quality given.quality first.1, ne_eqb right.depth given.depth first.2)
first_found right given Error first =
    rw (eq-eqb right.base given.base first.0, eq-eqb right.quality given.quality first.1, eq-eqb right.depth given.depth first.2, ne_eqb right.error given.error first.3)

field_one : (right given : Position) (f g : Field) → FirstField right given f → FirstField right given g → f ≡ g
field_one right given f g x y =
    let one = first_found right given f x in
    let two = first_found right given g y in
    cc

formed_not : {A : Type 0} (t : Table A) (line : ℕ) → WellFormed t → MalformedAt t line → ⊥
formed_not t line e f = cc

line_one : {A : Type 0} (t : Table A) (l m : ℕ) → MalformedAt t l → MalformedAt t m → l ≡ m
line_one t l m e f =
    let same : ◌≡◌ {A = reading.Malformed} (record { line = l }) (record { line = m }) = cc in
    ap (λ (r : reading.Malformed). r.line) same

module _ (ours theirs : List ℕ) where
  right_not : (line : ℕ) (field : Field) → Right ours theirs → FirstWrong ours theirs line field → ⊥
  right_not line field right first = right_not_wrong _ _ field (right.every_line first.place first.inside) first.first_field

  not-before : (l m : ℕ) (f g : Field) (x : FirstWrong ours theirs l f) (y : FirstWrong ours theirs m g) → x.place < y.place → ⊥
  not-before l m f g x y h = right_not_wrong _ _ f (y.lines_before_that x.place h) x.first_field

  same_place : (l m : ℕ) (f g : Field) (x : FirstWrong ours theirs l f) (y : FirstWrong ours theirs m g) → x.place ≡ y.place
  same_place l m f g x y = go (ltb x.place y.place) (ltb y.place x.place) refl refl
    where
      go : (t u : Bool) → ltb x.place y.place ≡ t → ltb y.place x.place ≡ u → x.place ≡ y.place
      go true u d e = absurd (not-before l m f g x y (ltb-true x.place y.place d))
      go false true d e = absurd (not-before m l g f y x (ltb-true y.place x.place e))
      go false false d e = omega (arith, ltb-false x.place y.place d, ltb-false y.place x.place e)

  wrong_one : (l m : ℕ) (f g : Field) → FirstWrong ours theirs l f → FirstWrong ours theirs m g → Wrong l f ≡ Wrong m g
  wrong_one l m f g x y =
      let same : x.place ≡ y.place = same_place l m f g x y in
      let line : l ≡ m = omega (arith, x.counted, y.counted) in
      let fields : f ≡ g =
      field_one (right_at ours y.place) (given_at theirs y.place) f g
      (subst (λ (k : ℕ). FirstField (right_at ours k) (given_at theirs k) f) same x.first_field) y.first_field in
      rw (line, fields)

  -- each fault that is said of comparable tables is a wrong line
  not-refused : (fault : Fault) → Comparable ours theirs → Says ours theirs (Err fault) → (line : ℕ) × (field : Field) × (fault ≡ Wrong line field) × FirstWrong ours theirs line field
  not-refused (Malformed Ours line) c said = absurd (formed_not (table_of ours) line c.ours_formed said)
  not-refused (Malformed Theirs line) c said = absurd (formed_not (partner_table theirs) line c.theirs_formed said.1)
  not-refused UnequalLines c said = absurd (said.lines c.lines)
  not-refused (Wrong line field) c said = (line, field, refl, said)

  not_both : (fault : Fault) → Right ours theirs → Says ours theirs (Err fault) → ⊥
  not_both fault right said = let wrong = not-refused fault right.comparable said in right_not wrong.0 wrong.1 right wrong.3

  fault_one : (a b : Fault) → Says ours theirs (Err a) → Says ours theirs (Err b) → a ≡ b
  fault_one (Malformed Ours l) (Malformed Ours m) x y = let same : l ≡ m = line_one (table_of ours) l m x y in rw same
  fault_one (Malformed Ours l) (Malformed Theirs m) x y = absurd (formed_not (table_of ours) l y.0 x)
  fault_one (Malformed Ours l) UnequalLines x y = absurd (formed_not (table_of ours) l y.ours_formed x)
  fault_one (Malformed Theirs l) (Malformed Ours m) x y = absurd (formed_not (table_of ours) m x.0 y)
  fault_one (Malformed Theirs l) (Malformed Theirs m) x y = let same : l ≡ m = line_one (partner_table theirs) l m x.1 y.1 in rw same
  fault_one (Malformed Theirs l) UnequalLines x y = absurd (formed_not (partner_table theirs) l y.theirs_formed x.1)
  fault_one UnequalLines (Malformed Ours m) x y = absurd (formed_not (table_of ours) m x.ours_formed y)
  fault_one UnequalLines (Malformed Theirs m) x y = absurd (formed_not (partner_table theirs) m x.theirs_formed y.1)
  fault_one UnequalLines UnequalLines x y = refl
  fault_one (Wrong l f) (Wrong m g) x y = wrong_one l m f g x y
  fault_one (Wrong l f) other x y = let wrong = not-refused other x.comparable y in wrong_one l wrong.0 f wrong.1 x wrong.3 ∙ sym wrong.2
  fault_one other (Wrong m g) x y = let wrong = not-refused other y.comparable x in wrong.2 ∙ wrong_one wrong.0 m wrong.1 g wrong.3 y

  -- two answers that both hold are one
  pub says_one : (a b : Result Unit Fault) → Says ours theirs a → Says ours theirs b → a ≡ b
  says_one (Ok p) (Ok q) x y = refl
  says_one (Ok p) (Err b) x y = absurd (not_both b x y)
  says_one (Err a) (Ok q) x y = absurd (not_both a y x)
  says_one (Err a) (Err b) x y = ap Err (fault_one a b x y)

  -- an answer is given if and only if what it says holds
  pub given_says : (a : Result Unit Fault) → checked ours theirs ≡ a → Says ours theirs a
  given_says a e = subst (λ (b : Result Unit Fault). Says ours theirs b) e (checked_says ours theirs)

  pub says_given : (a : Result Unit Fault) → Says ours theirs a → checked ours theirs ≡ a
  says_given a says = says_one (checked ours theirs) a (checked_says ours theirs) says

  -- accepted if and only if both are well formed, have equally many lines, and every line is what the position rules give
  pub accepted_right : checked ours theirs ≡ Ok tt → Right ours theirs
  accepted_right e = given_says (Ok tt) e

  pub right_accepted : Right ours theirs → checked ours theirs ≡ Ok tt
  right_accepted right = says_given (Ok tt) right
