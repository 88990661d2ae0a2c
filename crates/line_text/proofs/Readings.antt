-- Laws of reading a text line by line.
use Rattle.std.proofs.Common.{◌≡◌, ◌≤◌, ℕ, List, [], ◌++◌, length, refl, sym, ◌∙◌, ap, append_assoc, Option, Some, None, Result, Ok, Err}
use Rattle.std.specs.Borrow.{Bor}
use Rattle.std.specs.Option.{option_map, ok_or}
use Rattle.table_text.specs.Parts.{Parts, last, ended}
use Rattle.line_text.specs.Reading.{Unread, wrong, cut, Reading, got_after, one_line, any_line, lines_from, unread_in, Reads, ReadsLine, LineSaid, says, says_nothing, is_cut}
use Rattle.line_text.specs.declared.lines.Stop.{Stop}
use Rattle.line_text.specs.declared.lines.Stop.TheVariants.{Malformed, Cut}

-- it is ended, and other lines are after it
line_is : (p : Parts) (line : List ℕ) (rest : Parts) → Ok (line, rest) ≡ any_line p → p ≡ ended line rest
unfolding one_line
line_is (last part) line rest e = absurd cc
line_is (ended text more) line rest e =
    let both : ◌≡◌ {A = List ℕ × Parts} (line, rest) (text, more) = cc in
    rw (ap (λ (r : List ℕ × Parts). r.0) both, ap (λ (r : List ℕ × Parts). r.1) both)

-- or nothing is after it
last_is : (p : Parts) (unread : Unread) → Err unread ≡ any_line p → (part : List ℕ) × (p ≡ last part) × (unread ≡ cut p)
unfolding one_line
last_is (last part) unread e = (part, refl, cc)
last_is (ended line more) unread e = absurd cc

module _ (text : List ℕ) (at : ℕ) where
  pub line_ended : (line : Bor (List ℕ)) (after : ℕ) → ReadsLine text at (Ok (line, after)) → lines_from text at ≡ ended line.now (lines_from text after)
  line_ended line after read = line_is (lines_from text at) line.now (lines_from text after) read.same

  pub line_last : (stop : Stop) → ReadsLine text at (Err stop) → (part : List ℕ) × (lines_from text at ≡ last part) × (unread_in text stop ≡ cut (lines_from text at))
  line_last stop read = last_is (lines_from text at) (unread_in text stop) read.same

module _ {A B : Type 0} (of : List ℕ → Option A) (shown : B → A) (text : List ℕ) (at : ℕ) where
  -- the text ends in the line
  pub line_stops : (stop : Stop) → ReadsLine text at (Err stop) → Reads shown text (Err stop) (one_line of (lines_from text at))
  unfolding one_line
  line_stops stop read =
      let found = line_last text at stop read in
      record { same = ap Err found.2 ∙ rw found.1; within = read.within }

  module _ (line : Bor (List ℕ)) (after : ℕ) (read : ReadsLine text at (Ok (line, after))) where
    -- the line says nothing
    pub line_wrong : at ≤ length text → of line.now ≡ None → Reads shown text (Err (Malformed at)) (one_line of (lines_from text at))
    unfolding one_line
    line_wrong inside e = record { same = rw (line_ended text at line after read, e); within = inside }

    -- the line says what is shown
    pub line_says : (b : B) → of line.now ≡ Some (shown b) → Reads shown text (Ok (b, after)) (one_line of (lines_from text at))
    unfolding one_line
    line_says b e = record { same = rw (line_ended text at line after read, e); within = read.within }

-- a line that is not ended is not read
pub line_unended : {T : Type 0} (said : Bor (List ℕ) → Option T → Type 0) (text : List ℕ) (at : ℕ) (stop : Stop) → ReadsLine text at (Err stop) → LineSaid said text at (Err stop)
line_unended said text at (Malformed place) read = absurd (never (line_last text at (Malformed place) read).2)
  where
    never : wrong (lines_from text place) ≡ cut (lines_from text at) → ⊥
    never e = cc
line_unended said text at (Cut place) read = is_cut read

-- what is said of a line is what the line says
pub line_reads : {A T : Type 0} {said : Bor (List ℕ) → Option T → Type 0} (of : List ℕ → Option A) (shown : T → A) {text : List ℕ} {at : ℕ} {r : Result (T × ℕ) Stop}
    → ((line : Bor (List ℕ)) (a : Option T) → said line a → option_map shown a ≡ of line.now) → at ≤ length text → LineSaid said text at r → Reads shown text r (one_line of (lines_from text at))
line_reads of shown {text} {at} means inside (says {line} {a} {after} read p) = line_says of shown text at line after read a (sym (means line (Some a) p))
line_reads of shown {text} {at} means inside (says_nothing {line} {after} read p) = line_wrong of shown text at line after read inside (sym (means line None p))
line_reads of shown {text} {at} means inside (is_cut {place} read) = line_stops of shown text at (Cut place) read

pub got_none : {A : Type 0} (r : Reading (List A)) → got_after [] r ≡ r
got_none (Ok (xs, rest)) = refl
got_none (Err unread) = refl

pub got_more : {A : Type 0} (xs ys : List A) (r : Reading (List A)) → got_after xs (got_after ys r) ≡ got_after (xs ++ ys) r
got_more {A} xs ys (Ok (zs, rest)) = ap (λ (l : List A). Ok (l, rest)) (sym (append_assoc xs ys zs))
got_more xs ys (Err unread) = refl

-- an option that gives the error is none
pub ok_or_err : {A E : Type 0} (o : Option A) (d e : E) → Err e ≡ ok_or o d → (o ≡ None) × (e ≡ d)
ok_or_err (Some x) d e f = absurd cc
ok_or_err None d e f = (refl, cc)

pub ok_or_ok : {A E : Type 0} (o : Option A) (d : E) (x : A) → Ok x ≡ ok_or o d → o ≡ Some x
ok_or_ok (Some y) d x f = cc
ok_or_ok None d x f = absurd cc
