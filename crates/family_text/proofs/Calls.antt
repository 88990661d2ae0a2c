-- Laws of reading a family call part by part.
use Rattle.std.proofs.Common.{◌≡◌, ◌≤◌, ◌<◌, ℕ, suc, Bool, true, false, cond, eqb, List, [], ◌∷◌, length, get_or, drop, take, refl, ap, ◌∙◌, arith, Option, Some, None, Result, Ok, Err, IfOk}
use Rattle.std.proofs.lemmas.Iterator.Adapters.{option_map_id}
use Rattle.std.proofs.lemmas.List.{drop_all, length-take-le}
use Rattle.std.proofs.Math.Seq.{drop-cons}
use Rattle.std.specs.Borrow.{Bor}
use Rattle.std.specs.Option.{option_map}
use Rattle.table_text.specs.Parts.{Parts, last, ended, in_front, parts}
use Rattle.line_text.specs.Fit.{Fitting}
use Rattle.line_text.specs.Line.{line_of}
use Rattle.line_text.specs.Numbers.{words_line}
use Rattle.line_text.specs.Reading.{Reading, cut, mapped, line_then, one_line, lines_from, Reads, LineSaid}
use Rattle.line_text.specs.declared.lines.Stop.{Stop}
use Rattle.line_text.specs.declared.value.Value.{Value}
use Rattle.line_text.proofs.Fits.{fit_line, plain_within}
use Rattle.line_text.proofs.Readings.{line_reads}
use Rattle.ledger_lines.specs.declared.settings.Handed.{Handed}
use Rattle.record_lines.specs.Header.{header_layout, header_from, header_of}
use Rattle.record_lines.specs.declared.header.Header.{Header}
use Rattle.family_text.specs.Announced.{Announced}
use Rattle.family_text.specs.Family.{family_of, call, no_more, family_or_end}

-- a header announces no more than there is room for
header_announced : (line : List ℕ) (h : Header) → header_of line ≡ Some h → Announced h
unfolding header_of header_from
header_announced line h = go (line_of (70 ∷ []) header_layout line) refl
  where
    go : (r : Option (List Value)) → line_of (70 ∷ []) header_layout line ≡ r → option_map header_from r ≡ Some h → Announced h
    go (Some values) said e =
        let fit : Fitting header_layout values = (fit_line header_layout values (70 ∷ []) line said).each in
        let same : header_from values ≡ h = cc in
        rw (← same)
        (record {
          words = plain_within 9000 _ (fit 1 (omega arith));
          columns = plain_within 2100 _ (fit 13 (omega arith));
          list = plain_within 600 _ (fit 14 (omega arith));
          marks = plain_within 16 _ (fit 15 (omega arith));
        })
    go None said e = absurd cc

pub read_announced : (text : List ℕ) (p : Parts) (r : Result (Header × ℕ) Stop) → Reads (λ header. header) text r (one_line header_of p) → IfOk r (λ r. Announced r.0)
unfolding one_line
read_announced text (last part) (Ok (h, at)) read = absurd (never read.same)
  where
    never : ◌≡◌ {A = Reading Header} (Ok (h, lines_from text at)) (Err (cut (last part))) → ⊥
    never e = cc
read_announced text (ended line more) (Ok (h, at)) read = go (header_of line) refl read.same
  where
    go : (said : Option Header) → header_of line ≡ said → Ok (h, lines_from text at) ≡ line_then (ended line more) more said → Announced h
    go (Some found) is e =
        let both : ◌≡◌ {A = Header × Parts} (h, lines_from text at) (found, more) = cc in
        rw (ap (λ (r : Header × Parts). r.0) both) (header_announced line found is)
    go None is e = absurd cc
read_announced text p (Err stop) read = tt

-- a line is read as the header that it says, which announces no more than there is room for
module _ {said : Bor (List ℕ) → Option Header → Type 0} {text : List ℕ} {at : ℕ} {r : Result (Header × ℕ) Stop} (inside : at ≤ length text) (read : LineSaid said text at r) (means : (line : Bor (List ℕ)) (h : Option Header) → said line h → h ≡ header_of line.now) where
  pub header_reads : Reads (λ header. header) text r (one_line header_of (lines_from text at))
  header_reads = line_reads header_of (λ header. header) (λ line h p. option_map_id h ∙ means line h p) inside read

  pub header_announces : IfOk r (λ r. Announced r.0)
  header_announces = read_announced _ _ _ header_reads

-- a part of the room is lent for as many words as the header announces
pub words_read : {text : List ℕ} (count : ℕ) (room : List ℕ) (p : Parts) {r : Result (Bor (List ℕ) × ℕ) Stop} → Reads (λ words. words.now) text r (one_line (words_line (length (take count room))) p) → count ≤ length room
    → Reads (λ words. words.now) text r (one_line (words_line count) p)
words_read count room p read h = rw (length-take-le count room h) at read

-- a text with nothing left holds no family more
pub none_more : (handed : Handed) (text : List ℕ) (at : ℕ) → length text ≤ at → family_or_end handed (lines_from text at) ≡ Ok (no_more handed, lines_from text at)
unfolding family_or_end parts
none_more handed text at h = rw (drop_all at text h)

-- a text with something left holds a family, or the beginning of one
pub one_more : (handed : Handed) (text : List ℕ) (at : ℕ) → at < length text → family_or_end handed (lines_from text at) ≡ mapped (call handed) (family_of (lines_from text at))
unfolding family_or_end family_of parts in_front one_line
one_more handed text at h = rw (drop-cons text at 0 h) (go (eqb (get_or text at 0) 10) (get_or text at 0) (parts 10 (drop (suc at) text)))
  where
    go : (t : Bool) (b : ℕ) (p : Parts) → family_or_end handed (cond t (ended [] p) (in_front b p)) ≡ mapped (call handed) (family_of (cond t (ended [] p) (in_front b p)))
    go true b p = refl
    go false b (last part) = refl
    go false b (ended part more) = refl
