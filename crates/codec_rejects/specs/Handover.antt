-- Document 01, 'The answers': the marks and the handover list; document 02, request 02: the list 'by record number, rising'.
use Rattle.std.specs.Prelude.{List, map, ℕ, length, get_or}
use Rattle.lists.specs.Numbers.{numbers_from}
use Rattle.caller.specs.Fates.{is_rejection, is_marked}
use Rattle.codec_records.specs.Marks.{marks}

-- 'Marks are one bit a record in eight 64-bit words', of the rejections other than Downsampled
unfoldable pub mark_words : (fates : List ℕ) → List ℕ
mark_words fates = marks (map is_marked fates)

-- an entry of the list: a record's number, and its reason's
pub record Entry : Type 0 where
  pub number : ℕ
  pub reason : ℕ

abbrev pub entry_of : (fates : List ℕ) (i : ℕ) → Entry
entry_of fates i = record { number = i; reason = get_or fates i 0 }

-- 'each rejected record once with its reason, Downsampled included', 'by record number, rising'
unfoldable pub handover : (fates : List ℕ) → List Entry
handover fates = map (entry_of fates) (numbers_from (λ i. is_rejection (get_or fates i 0)) 0 (length fates))

-- 'two columns, record and reason'
unfoldable pub listed_records : (fates : List ℕ) → List ℕ
listed_records fates = map Entry.number (handover fates)

unfoldable pub listed_reasons : (fates : List ℕ) → List ℕ
listed_reasons fates = map Entry.reason (handover fates)
