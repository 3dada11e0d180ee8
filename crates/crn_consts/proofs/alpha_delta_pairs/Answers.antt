-- The delta pairs: the checker computes the test of the rule over the whole table.
use mathlib.Core.Path.{refl}
use Rattle.crn_consts.proofs.Rule.{ruled, bounded}
use Rattle.crn_consts.proofs.alpha_delta_pairs.Goals as goal

pub returns : goal.returns
returns c = record { each = λ s r p. bounded (ruled p refl tt) }
