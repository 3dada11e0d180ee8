-- Both tests. Assumes nothing.
use mathlib.Core.Path.{refl}
use Rattle.texels.proofs.good_side.Goals as goal

pub returns : goal.returns
returns c = refl
