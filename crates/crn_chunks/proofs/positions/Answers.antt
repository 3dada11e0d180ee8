-- The selector indices at the four positions, one after another.
use native.Mathlib.Omega.{arith}
use Rattle.crn_format.proofs.Results.{passed}
use Rattle.crn_chunks.proofs.Picking.{reach-at, picking_none, picking_more, picking_lost, picking_done}
use Rattle.crn_chunks.proofs.positions.Goals as goal

pub loop-k-init : goal.loop-k-init
loop-k-init c = picking_none _ c.requires.ready.holds c.requires.symbols_in.0 c.requires.symbols_in.1

pub position-requires : goal.position-requires
position-requires c =
    let x = c.loop-k.invariant in
    let f = reach-at c.loop-k.k x.some in
    record {
      ready = record { short = c.requires.ready.short; served = c.requires.ready.served; holds = x.holds };
      symbols_in =
          (omega (arith, x.below.0), omega (arith, x.below.1));
    }

pub returns-in_err-i : goal.returns-in_err-i
returns-in_err-i c =
    rw (passed c.from_residual.ensures.1) (picking_lost c.loop-k.invariant (omega arith) c.lies_inside.ensures c.in_err-i.ensures)

pub loop-k-preserved : goal.loop-k-preserved
loop-k-preserved c = picking_more c.loop-k.invariant (omega arith) c.lies_inside.ensures c.in_ok-i.ensures c.requires.out_long

pub returns : goal.returns
returns c = picking_done c.loop-k.invariant (omega arith)
