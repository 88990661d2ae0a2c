-- Of the local flags the first n are those of the fates.
use Rattle.std.proofs.Common.{◌≡◌, ◌∙◌, false, length, map, take, replicate, sym, arith}
use Rattle.std.proofs.lemmas.List.{length-map}
use Rattle.std.proofs.Math.Seq.{take_all}
use Rattle.lists.proofs.Map.{written-map_put}
use Rattle.lists.proofs.Written.{take_count}
use Rattle.caller.specs.Fates.{is_marked}
use Rattle.codec_rejects.specs.Handover.{mark_words}
use Rattle.codec_rejects.proofs.Marking.{length-mark_words}
use Rattle.codec_rejects.proofs.rejects.write_marks.Goals as goal

pub loop-i-preserved : goal.loop-i-preserved
loop-i-preserved c = written-map_put is_marked c.args.fates.now 0 (replicate 512 false) c.loop-i.i (omega arith) (omega arith) c.loop-i.invariant c.is_marked.ensures

pub returns : goal.returns
unfolding mark_words
returns c =
    let fates = c.args.fates.now in
    let all : take c.loop-i.i fates ≡ fates = take_all c.loop-i.i fates (omega arith) in
    let flags = take_count (map is_marked fates) (replicate 512 false) c.loop-i.flags (length fates) (sym (length-map fates is_marked)) (rw all at c.loop-i.invariant) in
    let words : c.copy_from_slice.new.self ≡ mark_words fates = c.copy_from_slice.ensures.after ∙ rw flags at c.marks_of.ensures in
    rw (words, length-mark_words fates)
