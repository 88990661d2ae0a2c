-- What the words passed join to is written.
use Rattle.std.proofs.Common.{map, ◌≤◌, take}
use Rattle.raw_bam.proofs.Joining.{JoinedIn}
use Rattle.extended_cigar.specs.Plain.{plain_word, both_m}
use Rattle.extended_cigar.proofs.back.write_plain.Given as goal

abbrev pub invariant-loop-word : goal.invariant-loop-word
invariant-loop-word l =
    record {
      done : JoinedIn both_m (map plain_word (take l.word-index l.words)) l.initial.output l.output l.n;
      few : l.n ≤ l.word-index;
    }
