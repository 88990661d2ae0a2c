-- Document 01, the table of refusals: 1 to 11 of a family call. 'Lowest number first, then lowest record or strand'.
use Rattle.std.specs.Prelude.{Bool, false, not, ◌&&◌, ◌||◌, [], ◌∷◌, ℕ, eqb, leb, ltb, length, Option, Some, None, Result, Ok, Err, cond}
use Rattle.std.specs.List.{list_all}
use Rattle.std.specs.Result.{result_and}
use Rattle.caller.specs.declared.refusal.Refusal.{Refusal}
use Rattle.caller.specs.declared.refusal.ReadType.TheVariants.{R1, R2}
use Rattle.caller.specs.declared.refusal.Refusal.TheVariants.{BadColumns, BadBase, TooNarrow}
use Rattle.codec_duplex.specs.Columns.{Strand}
use Rattle.codec_select.specs.Alignments.{alignments_of}
use Rattle.codec_records.specs.Records.{column}
use Rattle.codec_select.specs.Steps.{refusal_of, fates_of}
use Rattle.codec_records.specs.declared.records.Record.{Record}
use Rattle.codec_select.specs.declared.selection.Decision.{Decision}
use Rattle.codec_select.specs.declared.selection.Decision.TheVariants as decisions
use Rattle.codec_stats.specs.Ledger.{Counts, of_counts}
use Rattle.codec_family.specs.Call.{Call}
use Rattle.codec_family.specs.declared.room.Room.{Room}
use Rattle.codec_family.specs.declared.room.Widths.{Widths}

-- 1 to 6, of the records
unfoldable pub of_records : Call → Result Unit Refusal
of_records c =
    refusal_of c.options (length c.records)
    (fates_of (column Record.flags c.records) (column Record.name c.records) (column Record.verdict c.records))
    (alignments_of c.records c.ops)

-- selection answers the same refusal
abbrev pub refusal_in : Decision → Result Unit Refusal
refusal_in (decisions.Kept start end length r1 r2) = Ok tt
refusal_in decisions.Empty = Ok tt
refusal_in (decisions.Rejected reason) = Ok tt
refusal_in (decisions.Refused refusal) = Err refusal

-- 7: 'strand columns of unequal length or above 1,024'
unfoldable pub bad_columns : Strand → Bool
bad_columns s =
    not (list_all (eqb (length s.bases)) (length s.quals ∷ length s.depths ∷ length s.errors ∷ [])) || ltb 1024 (length s.bases)

-- A C G T N n
abbrev pub is_base : ℕ → Bool
is_base base = eqb base 65 || eqb base 67 || eqb base 71 || eqb base 84 || eqb base 78 || eqb base 110

-- 8: 'strand base not A C G T N n'
unfoldable pub bad_bases : Strand → Bool
bad_bases s = not (list_all is_base s.bases)

-- the columns of an absent strand are 'unread'
abbrev pub in_strand : (bad : Strand → Bool) → Option Strand → Bool
in_strand bad None = false
in_strand bad (Some s) = bad s

-- 7, then 8
unfoldable pub of_strands : (r1 r2 : Option Strand) → Result Unit Refusal
of_strands r1 r2 =
    cond (in_strand bad_columns r1) (Err (BadColumns R1))
    (cond (in_strand bad_columns r2) (Err (BadColumns R2))
    (cond (in_strand bad_bases r1) (Err (BadBase R1))
    (cond (in_strand bad_bases r2) (Err (BadBase R2)) (Ok tt))))

-- four columns of at least 2,048 places
abbrev pub is_wide : Widths → Bool
is_wide w = list_all (leb 2048) (w.bases ∷ w.quals ∷ w.depths ∷ w.errors ∷ [])

-- 9: 'a result column under 2,048, a list column under 512, marks under 8'
unfoldable pub too_narrow : Room → Bool
too_narrow room =
    not (is_wide room.duplex && is_wide room.r1 && is_wide room.r2)
    || ltb room.listed_records 512
    || ltb room.listed_reasons 512
    || ltb room.marks 8

abbrev pub of_room : Room → Result Unit Refusal
of_room room = cond (too_narrow room) (Err TooNarrow) (Ok tt)

-- 1 to 9, of all but the ledger
unfoldable pub of_call : Call → Result Unit Refusal
of_call c =
    result_and (of_records c)
    (result_and (of_strands c.r1 c.r2)
    (of_room c.room))

-- the refusal of a call, or none
unfoldable pub refusal : Call → Counts → Result Unit Refusal
refusal c counts = result_and (of_call c) (of_counts counts)
