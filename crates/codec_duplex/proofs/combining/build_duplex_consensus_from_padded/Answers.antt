-- Past the test of their lengths the columns fit.
use Rattle.std.proofs.Common.{◌≡◌, true, sym, ◌∙◌, ap}
use Rattle.codec_duplex.specs.Kept.{columns_fit}
use Rattle.codec_duplex.specs.Lent.{kept_of, kept_in}
use Rattle.codec_duplex.proofs.Fits.{fitting, at_most_2048}
use Rattle.codec_duplex.proofs.combining.build_duplex_consensus_from_padded.Given.{Over}
use Rattle.codec_duplex.proofs.combining.build_duplex_consensus_from_padded.Goals as goal
use Rattle.codec_duplex.proofs.combining.build_duplex_consensus_from_padded.Goals.{Else-not-columns_fit}

fit : (g : Over) (c : Else-not-columns_fit g) → columns_fit g.U.CountUnit.coding (kept_of c.args.a.now) (kept_of c.args.b.now) (kept_in c.args.out.now) ≡ true
fit g c = sym (c.columns_fit.ensures ∙ ap (λ out. columns_fit g.U.CountUnit.coding (kept_of c.args.a.now) (kept_of c.args.b.now) out) c.as_strand.ensures) ∙ c.if-not-columns_fit.false

pub tally-requires : goal.tally-requires
tally-requires g c = at_most_2048 g.U.CountUnit.coding _ _ _ (fit g (goal.at.tally-requires g c).Else-not-columns_fit)

pub combine_columns-requires : goal.combine_columns-requires
combine_columns-requires g c = fitting g.U.CountUnit.coding (kept_of c.args.a.now) (kept_of c.args.b.now) (kept_in c.args.out.now) (fit g (goal.at.combine_columns-requires g c).Else-not-columns_fit)
