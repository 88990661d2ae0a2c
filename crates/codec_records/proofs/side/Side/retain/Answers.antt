-- The records that stay are the first places, and none of them stood behind the side.
use Rattle.std.proofs.Common.{◌∙◌, ℕ, List, length, length-take, sym, ap, arith}
use Rattle.lists.proofs.Written.{take_count}
use Rattle.codec_records.specs.Side.{kept}
use Rattle.codec_records.proofs.Kept.{kept-take}
use Rattle.codec_records.proofs.side.Side.retain.Goals as goal

pub returns : goal.returns
returns c =
    let stays = c.args.stays.now in
    take_count _ _ _ _ c.keep_staying-self-inside.ensures.value c.keep_staying-self-inside.ensures.side_after
    ∙ sym (kept-take c.self.inside.records stays c.self.inside.len (omega (arith, c.requires, ap length c.self.view_is, length-take c.self.inside.len c.self.inside.records)))
    ∙ ap (λ (l : List ℕ). kept l stays) c.self.view_is
