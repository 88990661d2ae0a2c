-- Laws of the records of a family's lines, and of the room that they are read into.
use Rattle.std.proofs.Common.{◌≡◌, ◌+◌, ◌-◌, ◌≤◌, ◌<◌, ℕ, suc, min, Bool, true, false, List, [], ◌∷◌, ◌++◌, append-nil, length, take, set, length-append, refl, sym, ◌∙◌, arith, leb, Ok, Err}
use Rattle.std.proofs.lemmas.Bool.{leb-true, leb-false}
use Rattle.std.proofs.lemmas.List.{take_all, take_more_set, take-append-le}
use Rattle.codec_records.specs.declared.records.Record.{Record}
use Rattle.line_text.specs.Reading.{Unread, got_after, mapped, one_line, lines_from}
use Rattle.line_text.proofs.Readings.{got_more}
use Rattle.record_lines.specs.Record.{record_of}
use Rattle.record_lines.specs.Records.{records_from}

module _ (room done : List Record) (i : ℕ) (long : length room ≡ 512) (size : length done ≡ i) (so_far : take i room ≡ take 512 done) where
  -- a record more, where there is room
  pub room_more : (r : Record) → i < 512 → take (i + 1) (set room i r) ≡ take 512 (done ++ (r ∷ []))
  room_more r h =
      let inside : i < length room = omega arith in
      let few : length done ≤ 512 = omega arith in
      let one_more : length (done ++ (r ∷ [])) ≤ 512 = omega (arith, length-append done (r ∷ [])) in
      rw (take_more_set room i r inside, so_far, take_all 512 done few, take_all 512 (done ++ (r ∷ [])) one_more)

  -- and where there is none
  pub room_full : (r : Record) → 512 ≤ i → take (i + 1) room ≡ take 512 (done ++ (r ∷ []))
  room_full r h =
      let whole : length room ≤ i = omega arith in
      let after : length room ≤ i + 1 = omega arith in
      let many : 512 ≤ length done = omega arith in
      rw (take_all (i + 1) room after, take-append-le 512 done (r ∷ []) many) (sym (take_all i room whole) ∙ so_far)

  -- what is lent of it
  pub room_lent : take (min i 512) room ≡ take 512 done
  room_lent = go (leb i 512) refl
    where
      go : (t : Bool) → leb i 512 ≡ t → take (min i 512) room ≡ take 512 done
      go true e = let least : min i 512 ≡ i = omega (arith, leb-true i 512 e) in rw least so_far
      go false e =
          let least : min i 512 ≡ 512 = omega (arith, leb-false i 512 e) in
          let whole : length room ≤ i = omega (arith, leb-false i 512 e) in
          let all : length room ≤ 512 = omega arith in
          rw least (take_all 512 room all ∙ sym (take_all i room whole) ∙ so_far)

module _ (text : List ℕ) (start count at i : ℕ) (done : List Record)
    (so_far : records_from count (lines_from text start) ≡ got_after done (records_from (count - i) (lines_from text at))) where
  left : i < count → count - i ≡ suc (count - (i + 1))
  left h = omega arith

  pub records_next : i < count → (r : Record) (next : ℕ) → Ok (r, lines_from text next) ≡ one_line record_of (lines_from text at)
      → records_from count (lines_from text start) ≡ got_after (done ++ (r ∷ [])) (records_from (count - (i + 1)) (lines_from text next))
  unfolding records_from
  records_next h r next e = so_far ∙ rw (left h, ← e) (got_more done (r ∷ []) (records_from (count - (i + 1)) (lines_from text next)))

  pub records_stop : i < count → (unread : Unread) → Err unread ≡ one_line record_of (lines_from text at) → Err unread ≡ mapped (take 512) (records_from count (lines_from text start))
  unfolding records_from
  records_stop h unread e = rw (so_far, left h, ← e)

  pub records_end : count ≤ i → Ok (take 512 done, lines_from text at) ≡ mapped (take 512) (records_from count (lines_from text start))
  unfolding records_from
  records_end h =
      let none : count - i ≡ 0 = omega arith in
      rw (so_far, none, append-nil done)
