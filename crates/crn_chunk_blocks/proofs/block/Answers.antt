-- The halves are those of the position in the chunk that was read, one after the other.
use Rattle.crn_consts.specs.Tiles.{tile_in}
use Rattle.crn_formats.specs.Lent.{lent}
use Rattle.crn_blocks.proofs.Putting.{put_both}
use Rattle.crn_chunk_blocks.proofs.Positions.{of_two}
use Rattle.crn_chunk_blocks.proofs.block.Goals as goal

pub returns-then-ps : goal.returns-then-ps
returns-then-ps c =
    let a = c.args in
    put_both a.dst.now a.at _ _ c.put_eight.ensures c.put_eight-then-ps.ensures
    (of_two (lent a.palettes.now) a.ps a.out.now (tile_in a.tiles a.q) a.q c.plane_half-lo.result
    c.plane_half-lo.ensures c.plane_half-hi.result c.if-ps.true c.plane_half-hi.ensures)
