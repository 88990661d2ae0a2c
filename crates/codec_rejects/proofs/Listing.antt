-- The handover list is one entry for each rejection, and its columns are the rejected records and their fates.
use mathlib.Core.List.{List, [], ◌∷◌, ◌++◌, map, map-map, map-id}
use mathlib.Core.Bool.{cond}
use mathlib.Core.Path.{◌≡◌, ◌∙◌}
use Prim.Native.Nat.{ℕ, ◌+◌}
use native.Mathlib.Nat.{zero-add}
use lib.ListN.{length, get_or, length-map}
use Rattle.std.proofs.lemmas.List.FromFn.{filter_of_map_range_with_len_more}
use Rattle.lists.specs.Count.{count_below}
use Rattle.lists.specs.Numbers.{numbers_from}
use Rattle.lists.proofs.Counted.{count_places}
use Rattle.lists.proofs.Numbers.{length_numbers}
use Rattle.caller.specs.Fates.{is_rejection}
use Rattle.codec_rejects.specs.Fates.{rejections}
use Rattle.codec_rejects.specs.Handover.{Entry, entry_of, handover, listed_records, listed_reasons}

module _ (fates : List ℕ) where
  -- the rejected among the first n records
  abbrev pub rejected : ℕ → List ℕ
  rejected n = numbers_from (λ i. is_rejection (get_or fates i 0)) 0 n

  -- one record more
  pub rejected_more : (n : ℕ) → rejected (n + 1) ≡ rejected n ++ cond (is_rejection (get_or fates n 0)) (n ∷ []) []
  unfolding numbers_from
  rejected_more n = simp map-id at (filter_of_map_range_with_len_more (λ i. is_rejection (get_or fates i 0)) (λ i. i) 0 n n (zero-add n))

  pub length_entries : length (handover fates) ≡ length (rejected (length fates))
  unfolding handover
  length_entries = length-map (rejected (length fates)) (entry_of fates)

  pub length-handover : length (handover fates) ≡ rejections fates
  unfolding rejections count_below
  length-handover =
      length_entries
      ∙ (simp zero-add at (length_numbers (λ i. is_rejection (get_or fates i 0)) 0 (length fates)))
      ∙ count_places is_rejection fates 0

  pub records_rejected : listed_records fates ≡ rejected (length fates)
  unfolding listed_records handover
  records_rejected = map-map Entry.number (entry_of fates) (rejected (length fates)) ∙ map-id (rejected (length fates))

  pub reasons_rejected : listed_reasons fates ≡ map (λ i. get_or fates i 0) (rejected (length fates))
  unfolding listed_reasons handover
  reasons_rejected = map-map Entry.reason (entry_of fates) (rejected (length fates))
