-- A chunk by the quick way.
use Rattle.crn_chunks.proofs.Chunking.{reads-chunk}
use Rattle.crn_quick.proofs.quick_read.Goals as goal

pub returns : goal.returns
returns c =
    λ right bottom.
    let w = c.in_ok-e0.ensures right bottom in
    reads-chunk c.args.supply.now.planes right bottom c.args.r c.in_ok-encoding.ensures.same c.tile_count-n.ensures.0 w.tiled w.picked
    c.tile_count-n.ensures.1 w.long
