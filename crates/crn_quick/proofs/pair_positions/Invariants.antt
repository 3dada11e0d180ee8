-- The selector indices of two planes at the positions. The invariant: what is left of them, read slowly from here, ends as all of them do.
use mathlib.Core.Bool.{Bool}
use Rattle.crn_quick.proofs.Joining.{QuickPicking}
use Rattle.crn_quick.proofs.pair_positions.Given as goal

abbrev pub invariant-loop-k : goal.invariant-loop-k
invariant-loop-k l =
    let g = l.fn.supply in
    (right bottom : Bool) → QuickPicking g.lookup.now g.sorted.now g.seg.now g.planes right bottom l.s0 l.s1 l.fn.c l.fn.out l.out l.at
    l.i0 l.i1 l.length l.k
