-- The claim is not empty: for every list of calls there is a chain.
use mathlib.Core.List.{List, [], ◌∷◌}
use mathlib.Core.Path.{◌≡◌, refl, sym, ap}
use Prim.Native.Nat.{ℕ}
use lib.ListN.{length, replicate, length-replicate}
use Rattle.std.specs.Prelude.{Result}
use Rattle.lists.specs.Written.{written}
use Rattle.caller.specs.declared.refusal.Refusal.{Refusal}
use Rattle.codec_duplex.specs.Columns.{Strand, strand}
use Rattle.codec_duplex.specs.Duplex.{Duplex, duplex}
use Rattle.codec_rejects.specs.Handover.{handover, listed_records, listed_reasons}
use Rattle.codec_stats.specs.Ledger.{fresh}
use Rattle.codec_stats.specs.declared.ledger.Ledger.{Ledger}
use Rattle.codec_family.specs.Answer.{reported}
use Rattle.codec_family.specs.Call.{Call, Lent, widths_of, room_of}
use Rattle.codec_family.specs.Counted.{after_call}
use Rattle.codec_family.specs.Ending.{duplex_of, strand_r1, strand_r2}
use Rattle.codec_family.specs.FamilyCalled.{ending_with, fates_with, marks_after, column_after, Results}
use Rattle.codec_family.specs.Refusals.{refusal}
use Rattle.codec_family.specs.declared.answer.FamilyAnswer.{FamilyAnswer}
use Rattle.codec_family.specs.declared.room.Widths.{Widths}
use Rattle.codec_conservation.specs.Chain.{Made, Handed, ChainFrom, Chain, calls_of}

-- columns of zeros
abbrev pub zeros : Widths → Strand
zeros w = strand (replicate w.bases 0) (replicate w.quals 0) (replicate w.depths 0) (replicate w.errors 0)

abbrev pub zero_duplex : Widths → Duplex
zero_duplex w = duplex (replicate w.bases 0) (replicate w.quals 0) (replicate w.depths 0) (replicate w.errors 0)

abbrev pub lent_to : Call → Lent
lent_to c =
    record {
      duplex = zero_duplex c.room.duplex;
      r1 = zeros c.room.r1;
      r2 = zeros c.room.r2;
      listed_records = replicate c.room.listed_records 0;
      listed_reasons = replicate c.room.listed_reasons 0;
      marks = replicate c.room.marks 0;
    }

-- what the contract makes of four columns
module _ (c : Call) (r : Result Unit Refusal) where
  abbrev pub strand_after : Strand → Strand → Strand
  strand_after result old =
      strand (column_after c r result.bases old.bases) (column_after c r result.quals old.quals)
      (column_after c r result.depths old.depths) (column_after c r result.errors old.errors)

  abbrev pub duplex_after : Duplex → Duplex → Duplex
  duplex_after result old =
      duplex (column_after c r result.bases old.bases) (column_after c r result.quals old.quals)
      (column_after c r result.depths old.depths) (column_after c r result.errors old.errors)

  abbrev pub answer_to : Ledger → FamilyAnswer
  answer_to ledger' = record { ending = reported (ending_with c r); listed = length (handover (fates_with c r)); ledger = ledger' }

  -- a call that does what the contract says, its refusal and the ledger after it given
  abbrev pub make_by : Ledger → Made
  make_by ledger' =
      record {
        call = c;
        before = lent_to c;
        answer = answer_to ledger';
        after = record {
          duplex = duplex_after (duplex_of c) (zero_duplex c.room.duplex);
          r1 = strand_after (strand_r1 c) (zeros c.room.r1);
          r2 = strand_after (strand_r2 c) (zeros c.room.r2);
          listed_records = written (listed_records (fates_with c r)) (replicate c.room.listed_records 0);
          listed_reasons = written (listed_reasons (fates_with c r)) (replicate c.room.listed_reasons 0);
          marks = marks_after c r (replicate c.room.marks 0);
        };
      }

  pub results_by : (ledger' : Ledger) → Results c r (lent_to c) (answer_to ledger') (make_by ledger').after
  results_by ledger' =
      record {
        ended = refl;
        marks = refl;
        list_length = refl;
        list_records = refl;
        list_reasons = refl;
        duplex_bases = refl;
        duplex_quals = refl;
        duplex-depths = refl;
        duplex_errors = refl;
        r1_bases = refl;
        r1_quals = refl;
        r1_depths = refl;
        r1_errors = refl;
        r2_bases = refl;
        r2_quals = refl;
        r2_depths = refl;
        r2_errors = refl;
      }

abbrev pub make : Ledger → Call → Made
make ledger c = make_by c (refusal c ledger) (after_call c ledger)

widths_zeros : (w : Widths) → w ≡ widths_of (zeros w)
widths_zeros w = λ i.
    record {
      bases = sym (length-replicate {A = ℕ} w.bases 0) i;
      quals = sym (length-replicate {A = ℕ} w.quals 0) i;
      depths = sym (length-replicate {A = ℕ} w.depths 0) i;
      errors = sym (length-replicate {A = ℕ} w.errors 0) i;
    }

-- what is lent has the lengths that the call says
pub room_lent : (c : Call) → c.room ≡ room_of (lent_to c)
room_lent c = λ i.
    record {
      duplex = widths_zeros c.room.duplex i;
      r1 = widths_zeros c.room.r1 i;
      r2 = widths_zeros c.room.r2 i;
      listed_records = sym (length-replicate {A = ℕ} c.room.listed_records 0) i;
      listed_reasons = sym (length-replicate {A = ℕ} c.room.listed_reasons 0) i;
      marks = sym (length-replicate {A = ℕ} c.room.marks 0) i;
    }

handed : (ledger : Ledger) (c : Call) → Handed ledger (make ledger c)
handed ledger c =
    record {
      lent = room_lent c;
      contract = record { results = results_by c (refusal c ledger) (after_call c ledger); ledger_after = refl };
    }

-- the calls in turn
abbrev make_from : Ledger → List Call → List Made
make_from ledger [] = []
make_from ledger (c ∷ calls) = make ledger c ∷ make_from (after_call c ledger) calls

chain_from : (ledger : Ledger) (calls : List Call) → ChainFrom ledger (make_from ledger calls)
chain_from ledger [] = tt
chain_from ledger (c ∷ calls) = (handed ledger c, chain_from (after_call c ledger) calls)

same_calls : (ledger : Ledger) (calls : List Call) → calls_of (make_from ledger calls) ≡ calls
same_calls ledger [] = refl
same_calls ledger (c ∷ calls) = ap (λ more. c ∷ more) (same_calls (after_call c ledger) calls)

-- every list of calls has a chain
pub chain_exists : (calls : List Call) → (made : List Made) × Chain made × (calls_of made ≡ calls)
chain_exists calls = (make_from fresh calls, chain_from fresh calls, same_calls fresh calls)
