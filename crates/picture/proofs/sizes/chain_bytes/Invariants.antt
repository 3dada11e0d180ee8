-- The sum of the levels so far. Assumes nothing.
use mathlib.Core.Path.{◌≡◌}
use Rattle.picture.specs.Surfaces.{picture_of, chain_to}
use Rattle.picture.proofs.sizes.chain_bytes.Given as goal

abbrev pub invariant-loop-level : goal.invariant-loop-level
invariant-loop-level l = l.sum ≡ chain_to (picture_of l.h) l.level
