-- The endpoint indices of a plane's tiles by the quick way. The invariant: what is left of them, read slowly from here, ends as all of
-- them do.
use Rattle.crn_quick.proofs.Joining.{QuickTiling}
use Rattle.crn_quick.proofs.quick_plane.Given as goal

abbrev pub invariant-loop-k : goal.invariant-loop-k
invariant-loop-k l =
    let g = l.fn.supply in
    QuickTiling g.lookup.now g.sorted.now g.seg.now g.planes l.p l.base l.n l.i l.fn.c l.fn.out l.out l.at l.last l.k
