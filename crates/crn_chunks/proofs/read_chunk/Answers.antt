-- A chunk.
use Rattle.crn_format.proofs.Results.{passed}
use Rattle.crn_chunks.proofs.Chunking.{reads_uncoded, reads_untiled, reads_unpicked, reads-chunk}
use Rattle.crn_chunks.proofs.read_chunk.Goals as goal

pub returns-in_err-encoding : goal.returns-in_err-encoding
returns-in_err-encoding c =
    let a = c.args in
    rw (passed c.from_residual.ensures.1) (reads_uncoded a.supply.now.planes a.right a.bottom a.r c.in_err-encoding.ensures)

pub returns-in_err-e0 : goal.returns-in_err-e0
returns-in_err-e0 c =
    let a = c.args in
    rw (passed c.from_residual-in_err-e0.ensures.1) (reads_untiled a.supply.now.planes a.right a.bottom a.r c.in_ok-encoding.ensures
    c.tile_count-n.ensures.0 c.in_err-e0.ensures)

pub returns-in_err-s0 : goal.returns-in_err-s0
returns-in_err-s0 c =
    let a = c.args in
    rw (passed c.from_residual-in_err-s0.ensures.1) (reads_unpicked a.supply.now.planes a.right a.bottom a.r c.in_ok-encoding.ensures
    c.tile_count-n.ensures.0 c.in_ok-e0.ensures c.in_err-s0.ensures)

pub returns : goal.returns
returns c =
    let a = c.args in
    reads-chunk a.supply.now.planes a.right a.bottom a.r c.in_ok-encoding.ensures c.tile_count-n.ensures.0 c.in_ok-e0.ensures
    c.in_ok-s0.ensures c.tile_count-n.ensures.1 c.positions.auto.out
