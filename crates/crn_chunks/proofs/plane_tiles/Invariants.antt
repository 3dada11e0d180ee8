-- The endpoint indices of a plane's tiles. The invariant: what is left of them, run from here, ends as all of them do.
use Rattle.crn_chunks.proofs.Tiling.{Tiling}
use Rattle.crn_chunks.proofs.plane_tiles.Given as goal

abbrev pub invariant-loop-k : goal.invariant-loop-k
invariant-loop-k l =
    let g = l.fn.supply in
    Tiling g.lookup.now g.sorted.now g.seg.now g.planes l.p l.base l.n l.i l.fn.s l.fn.out l.out l.at l.last l.k
