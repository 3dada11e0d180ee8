-- The faces before this one are blank, and the rows of this one before y.
use mathlib.Core.Path.{◌≡◌}
use Rattle.crn_format.specs.Grid.{face_painted, painted, blank}
use Rattle.crn_blocks.proofs.clear.Given as goal

abbrev pub invariant-loop-y : goal.invariant-loop-y
invariant-loop-y l = l.dst ≡ face_painted l.g (blank l.g) l.face l.y (painted l.g (blank l.g) l.face l.fn.dst)

abbrev pub invariant-loop-face : goal.invariant-loop-face
invariant-loop-face l = l.dst ≡ painted l.g (blank l.g) l.face l.fn.dst
