-- Opening: the look, and then the load.
use mathlib.Core.Path.{refl}
use Rattle.crn_opening.proofs.Opens.{look-refused}
use Rattle.crunch.proofs.LookThenLoad.{then-opened}
use Rattle.crunch.proofs.whole.open.Goals as goal

pub returns-in-Err : goal.returns-in-Err
returns-in-Err c = look-refused _ _ _ c.in-Err.ensures refl

pub returns-in-Ok : goal.returns-in-Ok
returns-in-Ok c = then-opened _ _ c.in-Ok.ensures _ c.load.ensures
