-- All three.
use Rattle.texels.proofs.in_limits.Goals as goal

pub returns : goal.returns
returns c = rw (c.is_known.ensures, c.good_side.ensures, c.good_side-2.ensures)
