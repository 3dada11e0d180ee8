use Rattle.std.proofs.Common.{◌∙◌}
use Rattle.crn_selectors.proofs.Pairing.{pair_delta_is}
use Rattle.crn_selectors.proofs.pair_delta.Goals as goal

pub returns : goal.returns
returns g c =
    let by = c.deltas-by.ensures in
    pair_delta_is g.K.Kind.alpha (c.TOP-values.ensures ∙ g.K.Kind.constants.0) by.first by.second
