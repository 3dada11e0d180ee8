-- The selector indices at the four positions. The invariant: what is left of them, run from here, ends as all of them do.
use Rattle.crn_chunks.proofs.Picking.{Picking}
use Rattle.crn_chunks.proofs.positions.Given as goal

abbrev pub invariant-loop-k : goal.invariant-loop-k
invariant-loop-k l =
    let g = l.fn.supply in
    Picking g.lookup.now g.sorted.now g.seg.now g.planes l.right l.bottom l.s0 l.s1 l.fn.s l.fn.out l.out l.at l.i0 l.i1 l.k
