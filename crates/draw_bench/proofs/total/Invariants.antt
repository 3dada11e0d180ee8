-- `total` is the tally of n draws. Invariant: what is left to be drawn from here is the whole.
use Rattle.draw_bench.proofs.Tallying.{Tallied}
use Rattle.draw_bench.proofs.total.Given as goal

abbrev pub invariant-loop : goal.invariant-loop
invariant-loop l = Tallied l.lengths l.seg l.n l.c l.sum l.counter
