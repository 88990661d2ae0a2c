-- Laws of how far a reading goes: a family takes at least a line.
use Rattle.std.proofs.Common.{◌≡◌, ◌+◌, ◌-◌, ◌≤◌, ◌<◌, ℕ, zero, suc, Bool, true, false, cond, eqb, leb, List, [], ◌∷◌, drop, refl, arith, Option, Some, None, Ok, Err}
use Rattle.std.specs.Bool.{⊤}
use Rattle.std.proofs.lemmas.Bool.{leb-true, leb-false}
use Rattle.std.proofs.Math.Nat.{le_of_lt}
use Rattle.std.proofs.Math.Seq.{drop-drop}
use Rattle.table_text.specs.Parts.{Parts, last, ended, in_front, parts}
use Rattle.line_text.specs.Reading.{Unread, wrong, Reading, and_next, mapped, line_then, one_line, lines_from}
use Rattle.ledger_lines.specs.Ledgers.{by_setting, ledgers_from}
use Rattle.ledger_lines.specs.Settings.{set_by, setting_of}
use Rattle.ledger_lines.specs.declared.settings.Handed.{Handed}
use Rattle.ledger_lines.specs.declared.settings.Setting.{Setting}
use Rattle.record_lines.specs.Header.{header_of}
use Rattle.record_lines.specs.Record.{record_of}
use Rattle.record_lines.specs.Records.{records_from}
use Rattle.strand_lines.specs.Strands.{column_from, strand_from, strand_if}
use Rattle.family_text.specs.Family.{Family, family_from, family_of, Call, call, family_or_end, call_of}

-- the lines that are ended
line_count : Parts → ℕ
line_count (last part) = 0
line_count (ended part more) = suc (line_count more)

-- what holds of a value, where one is read, and of the lines after it
data Gives {A : Type 0} (P : A → Parts → Type 0) : Reading A → Type 0 where
  value : {a : A} {rest : Parts} → P a rest → Gives P (Ok (a, rest))
  none : {unread : Unread} → Gives P (Err unread)

-- fewer lines are left
abbrev Left : {A : Type 0} → ℕ → A → Parts → Type 0
Left n a rest = line_count rest < n

value_of_lem : {A : Type 0} {P : A → Parts → Type 0} {a : A} {rest : Parts} → Gives P (Ok (a, rest)) → P a rest
value_of_lem (value h) = h

gives-next : {A B : Type 0} (P : A → Parts → Type 0) (Q : B → Parts → Type 0) (first : Reading A) (second : A → Parts → Reading B)
    → Gives P first → ((a : A) (rest : Parts) → P a rest → Gives Q (second a rest)) → Gives Q (and_next first second)
gives-next P Q first second (value h) k = k _ _ h
gives-next P Q first second none k = none

gives-mapped : {A B : Type 0} (P : A → Parts → Type 0) (Q : B → Parts → Type 0) (f : A → B) (r : Reading A)
    → Gives P r → ((a : A) (rest : Parts) → P a rest → Q (f a) rest) → Gives Q (mapped f r)
gives-mapped P Q f r (value h) k = value (k _ _ h)
gives-mapped P Q f r none k = none

module _ (n : ℕ) where
  -- a line is taken
  line_left : {A : Type 0} (of : List ℕ → Option A) (p : Parts) → line_count p ≤ n → Gives (Left n) (one_line of p)
  unfolding one_line line_count
  line_left of (last text) h = none
  line_left {A} of (ended text more) h = go (of text)
    where
      go : (x : Option A) → Gives (Left n) (line_then (ended text more) more x)
      go (Some a) = value {a = a} {rest = more} (omega arith)
      go None = none

  mapped-left : {A B : Type 0} (f : A → B) (r : Reading A) → Gives (Left n) r → Gives (Left n) (mapped f r)
  mapped-left f r l = gives-mapped (Left n) (Left n) f r l (λ a rest k. k)

  next-left : {A B : Type 0} (first : Reading A) (second : A → Parts → Reading B) → Gives (Left n) first → ((a : A) (rest : Parts) → line_count rest < n → Gives (Left n) (second a rest)) → Gives (Left n) (and_next first second)
  next-left first second l k = gives-next (Left n) (Left n) first second l k

  records_left : (count : ℕ) (p : Parts) → line_count p < n → Gives (Left n) (records_from count p)
  unfolding records_from
  records_left zero p h = value h
  records_left (suc count) p h = next-left (one_line record_of p) _ (line_left record_of p (le_of_lt h)) (λ r rest l. mapped-left _ (records_from count rest) (records_left count rest l))

  column-left : (tag : List ℕ) (limit : ℕ) (p : Parts) → line_count p < n → Gives (Left n) (column_from tag limit p)
  unfolding column_from
  column-left tag limit p h = line_left _ p (le_of_lt h)

  strand-left : (follows : Bool) (p : Parts) → line_count p < n → Gives (Left n) (strand_if follows p)
  unfolding strand_if strand_from
  strand-left true p h =
      mapped-left _ _
      (next-left _ _ (line_left _ p (le_of_lt h)) λ bases at_quals h1.
      next-left _ _ (column-left _ _ at_quals h1) λ quals at_depths h2.
      next-left _ _ (column-left _ _ at_depths h2) λ depths at_errors h3.
      next-left _ _ (column-left _ _ at_errors h3) λ errors rest h4. value h4)
  strand-left false p h = value h

  family-left : (p : Parts) → line_count p ≤ n → Gives (Left n) (family_of p)
  unfolding family_of family_from
  family-left p h =
      next-left _ _ (line_left header_of p h) λ header at_records h1.
      next-left _ _ (mapped-left _ _ (records_left header.records at_records h1)) λ records at_words h2.
      next-left _ _ (line_left _ at_words (le_of_lt h2)) λ words at_r1 h3.
      next-left _ _ (strand-left header.r1_follows at_r1 h3) λ r1 at_r2 h4.
      next-left _ _ (strand-left header.r2_follows at_r2 h4) λ r2 rest h5. value h5

  -- a call takes a line, where there is a family
  abbrev Took : Call → Parts → Type 0
  Took (handed, Some family) rest = line_count rest < n
  Took (handed, None) rest = ⊤

  ledgers_left : (before : Handed) (p : Parts) → line_count p ≤ n → Gives (λ _ rest. line_count rest ≤ n) (ledgers_from before p)
  unfolding ledgers_from line_count
  ledgers_left before (last text) h = value h
  ledgers_left before (ended text more) h = go (λ after. ledgers_left after more (omega arith)) (setting_of text)
    where
      go : ((after : Handed) → Gives (λ _ rest. line_count rest ≤ n) (ledgers_from after more)) → (said : Option (Option Setting))
          → Gives (λ _ rest. line_count rest ≤ n) (by_setting said (λ setting. ledgers_from (set_by before setting) more) (Err (wrong (ended text more))) (Ok (before, ended text more)))
      go left (Some (Some setting)) = left (set_by before setting)
      go left (Some None) = none
      go left None = value h

  call_took : (before : Handed) (p : Parts) → line_count p ≤ n → Gives Took (call_of before p)
  unfolding call_of family_or_end
  call_took before p h = gives-next (λ _ rest. line_count rest ≤ n) Took _ _ (ledgers_left before p h) go
    where
      go : (handed : Handed) (rest : Parts) → line_count rest ≤ n → Gives Took (family_or_end handed rest)
      go handed (last []) l = value tt
      go handed (last (b ∷ bs)) l = none
      go handed (ended line more) l = gives-mapped (Left n) Took (call handed) _ (family-left (ended line more) l) (λ family end k. k)

-- fewer lines are ended after a later place
lines_fall : (text : List ℕ) (k : ℕ) → line_count (parts 10 (drop k text)) ≤ line_count (parts 10 text)
unfolding parts in_front line_count
lines_fall text zero = omega arith
lines_fall [] (suc k) = omega arith
lines_fall (b ∷ bs) (suc k) = go (eqb b 10) (parts 10 bs) (lines_fall bs k)
  where
    go : (t : Bool) (p : Parts) → line_count (parts 10 (drop k bs)) ≤ line_count p → line_count (parts 10 (drop k bs)) ≤ line_count (cond t (ended [] p) (in_front b p))
    go true p h = omega arith
    go false (last part) h = h
    go false (ended part more) h = h

later : (text : List ℕ) (at after : ℕ) → line_count (lines_from text after) < line_count (lines_from text at) → at < after
later text at after h = go (leb after at) refl
  where
    go : (t : Bool) → leb after at ≡ t → at < after
    go true known =
        let split : at ≡ after + (at - after) = omega (arith, leb-true after at known) in
        let falls : line_count (lines_from text at) ≤ line_count (lines_from text after) = rw (split, ← drop-drop (at - after) after text) (lines_fall (drop after text) (at - after)) in
        absurd (omega arith)
    go false known = omega (arith, leb-false after at known)

-- the next family begins after this one
pub family_advances : (text : List ℕ) (before handed : Handed) (at after : ℕ) (f : Family) → Ok (call handed f, lines_from text after) ≡ call_of before (lines_from text at) → at < after
family_advances text before handed at after f e =
    later text at after (value_of_lem (rw (← e) at (call_took (line_count (lines_from text at)) before (lines_from text at) (omega arith))))
