-- The first places of the local column are the ranks of the side's records.
use Rattle.std.proofs.Common.{◌≡◌, pos, get_or, length, take, rules}
use Rattle.codec_sides.specs.Side.{gathered, under_cap}
use Rattle.codec_sides.proofs.Gathered.{take-gathered}
use Rattle.codec_sides.proofs.staying.cap_infos_to_lowest_ranking.Goals as goal
use Rattle.codec_sides.proofs.staying.cap_infos_to_lowest_ranking.Goals.{After-gather}

own-ranks : (c : After-gather) → let args = c.args in take (length args.side.now) c.gather.new.out ≡ gathered (pos 0) args.ranks.now args.side.now
own-ranks c = let ranks = c.args.ranks.now in take-gathered (pos 0) ranks c.args.side.now _ (c.gather.ensures (λ r. get_or ranks r (pos 0)) (λ r x read. search rules))

pub returns : goal.returns
unfolding under_cap
returns c = rw (own-ranks (goal.at.returns c).After-gather) at c.select_lowest_ranking.ensures
