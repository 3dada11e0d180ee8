-- A number that loses n once if it is not below it.
use native.Mathlib.Omega.{arith}
use borrow.Author.Tests.{lt-ltb, le-ltb}
use Rattle.crn_utils.proofs.limit.Goals as goal

pub returns-then-x-n : goal.returns-then-x-n
returns-then-x-n c = simp (lt-ltb _ _ c.if-x-n.true)

pub returns-else-x-n : goal.returns-else-x-n
returns-else-x-n c = simp (le-ltb _ _ c.if-x-n.false) (omega arith)
