-- An index by the quick way.
use native.Mathlib.Omega.{arith}
use Rattle.crn_quick.proofs.Stepping.{found-small, found-index}
use Rattle.crn_quick.proofs.quick_index.Goals as goal

pub overflow_add-i : goal.overflow_add-i
overflow_add-i c = omega (arith, c.requires.i_in, found-small c.in-Some.ensures)

pub returns : goal.returns
returns c =
    λ inside. found-index c.in-Some.ensures c.args.size c.args.i c.limit-index.ensures c.requires.size_in c.if-size-index.false inside
