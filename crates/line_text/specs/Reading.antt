-- Reading a text line by line: every line ends in a line feed.
use Rattle.std.specs.Prelude.{List, ◌++◌, ◌≡◌, ℕ, ◌≤◌, ◌==◌, length, take, drop, Option, Some, None, Result, Ok, Err, count_by}
use Rattle.std.specs.Borrow.{Bor}
use Rattle.table_text.specs.Parts.{Parts, last, ended, parts}
use Rattle.table_text.specs.Text.{line_feed}
use Rattle.line_text.specs.declared.lines.Stop.{Stop}
use Rattle.line_text.specs.declared.lines.Stop.TheVariants.{Malformed, Cut}

-- why nothing is read: the lines from the first malformed one on; or a line that is not ended
pub data Unread : Type 0 where
  wrong : Parts → Unread
  cut : Parts → Unread

-- a value with the lines after it
abbrev pub Reading : Type 0 → Type 0
Reading A = Result (A × Parts) Unread

-- a first reading, and a second one of the lines after it
abbrev pub and_next : {A B : Type 0} → Reading A → (A → Parts → Reading B) → Reading B
and_next (Ok (a, rest)) second = second a rest
and_next (Err unread) second = Err unread

-- another value in place of the one that is read
abbrev pub mapped : {A B : Type 0} → (A → B) → Reading A → Reading B
mapped f (Ok (a, rest)) = Ok (f a, rest)
mapped f (Err unread) = Err unread

-- entries in front of those that are read after them
abbrev pub got_after : {A : Type 0} → List A → Reading (List A) → Reading (List A)
got_after xs more = mapped (λ ys. xs ++ ys) more

abbrev pub line_then : {A : Type 0} → Parts → Parts → Option A → Reading A
line_then text more (Some a) = Ok (a, more)
line_then text more None = Err (wrong text)

-- one line, by what it says
unfoldable pub one_line : {A : Type 0} → (List ℕ → Option A) → Parts → Reading A
one_line of (last text) = Err (cut (last text))
one_line of (ended text more) = line_then (ended text more) more (of text)

-- one line, whatever it says
abbrev pub any_line : Parts → Reading (List ℕ)
any_line text = one_line Some text

-- the lines from a place of a text on
abbrev pub lines_from : List ℕ → ℕ → Parts
lines_from text at = parts line_feed (drop at text)

abbrev pub unread_in : List ℕ → Stop → Unread
unread_in text (Malformed at) = wrong (lines_from text at)
unread_in text (Cut at) = cut (lines_from text at)

-- an answer about a text, as a reading: what its value shows, with the lines from its place on
abbrev pub read_as : {A B : Type 0} → (B → A) → List ℕ → Result (B × ℕ) Stop → Reading A
read_as shown text (Ok (b, at)) = Ok (shown b, lines_from text at)
read_as shown text (Err stop) = Err (unread_in text stop)

abbrev pub stop_place : Stop → ℕ
stop_place (Malformed at) = at
stop_place (Cut at) = at

-- its place is in the text
abbrev pub PlaceWithin : {B : Type 0} → ℕ → Result (B × ℕ) Stop → Type 0
PlaceWithin size (Ok (b, at)) = at ≤ size
PlaceWithin size (Err stop) = stop_place stop ≤ size

-- an answer agrees with a reading
pub record Reads {A B : Type 0} (shown : B → A) (text : List ℕ) (r : Result (B × ℕ) Stop) (reading : Reading A) : Type 0 where
  pub same : read_as shown text r ≡ reading
  pub within : PlaceWithin (length text) r

-- a line is read, whatever it says
abbrev pub ReadsLine : List ℕ → ℕ → Result (Bor (List ℕ) × ℕ) Stop → Type 0
ReadsLine text at r = Reads (λ line. line.now) text r (any_line (lines_from text at))

-- a line is read, and what is said of it; a line of which nothing is said is malformed
pub data LineSaid {T : Type 0} (said : Bor (List ℕ) → Option T → Type 0) (text : List ℕ) (at : ℕ) : Result (T × ℕ) Stop → Type 0 where
  says : {line : Bor (List ℕ)} {a : T} {after : ℕ} → ReadsLine text at (Ok (line, after)) → said line (Some a) → LineSaid said text at (Ok (a, after))
  says_nothing : {line : Bor (List ℕ)} {after : ℕ} → ReadsLine text at (Ok (line, after)) → said line None → LineSaid said text at (Err (Malformed at))
  is_cut : {place : ℕ} → ReadsLine text at (Err (Cut place)) → LineSaid said text at (Err (Cut place))

-- the lines that end before a place
unfoldable pub lines_before : List ℕ → ℕ → ℕ
lines_before text place = count_by (λ b. b == line_feed) (take place text)
