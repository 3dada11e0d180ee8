use Rattle.std.proofs.Common.{arith}
use Rattle.draw_bench.proofs.Tallying.{begins, done, fails, more}
use Rattle.draw_bench.proofs.total.Goals as goal

pub loop-init : goal.loop-init
loop-init c = begins _ _ _ _ c.start-c.ensures.0 c.start-c.ensures.1

pub draw-requires-clause-holds : goal.draw-requires-clause-holds
draw-requires-clause-holds c = c.loop.invariant.holds

pub returns-in_default : goal.returns-in_default
returns-in_default c = fails _ _ _ _ _ _ c.loop.invariant c.loop-test.true _ (c.draw.ensures _ c.requires) _ c.in_default.is

pub loop-preserved : goal.loop-preserved
loop-preserved c =
    rw c.from-sum.ensures (more _ _ _ _ _ _ c.loop.invariant c.loop-test.true _ (c.draw.ensures _ c.requires) _ _ c.in-Ok.is)

pub returns : goal.returns
returns c = done _ _ _ _ _ _ c.loop.invariant (omega arith)
