-- The endpoint indices of a plane's tiles, one after another.
use native.Mathlib.Omega.{arith}
use Rattle.crn_format.proofs.Results.{passed}
use Rattle.crn_chunks.proofs.Tiling.{tiling_none, tiling_more, tiling_lost, tiling_done}
use Rattle.crn_chunks.proofs.plane_tiles.Goals as goal

pub loop-k-init : goal.loop-k-init
loop-k-init c = tiling_none _ c.requires.ready.holds c.requires.i_in

pub returns-in_err-j : goal.returns-in_err-j
returns-in_err-j c = rw (passed c.from_residual.ensures.1) (tiling_lost c.loop-k.invariant (omega arith) c.in_err-j.ensures)

pub loop-k-preserved : goal.loop-k-preserved
loop-k-preserved c = tiling_more c.loop-k.invariant (omega arith) c.in_ok-j.ensures c.requires.range_in

pub returns : goal.returns
returns c = tiling_done c.loop-k.invariant (omega arith)
