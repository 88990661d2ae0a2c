-- A position lies within the read, which is as long as the refusals leave it.
use Rattle.raw_bam.proofs.Positions.{position_if_within}
use Rattle.codec_window.proofs.window.Aligned.read_position.Goals as goal

pub returns-clause-within : goal.returns-clause-within
returns-clause-within c =
    let a = c.args.self.now in
    rw (c.read_pos_at_ref_pos_raw.ensures, a.admitted.clipped) (position_if_within c.args.ask_last a.ops.now a.position c.args.position)
