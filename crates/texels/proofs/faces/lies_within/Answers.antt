-- Both sides' tests. Assumes nothing.
use mathlib.Core.Path.{refl}
use Rattle.texels.proofs.faces.lies_within.Goals as goal

pub returns : goal.returns
returns c = refl
