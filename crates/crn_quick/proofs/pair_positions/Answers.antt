-- The selector indices of two planes at the positions, one after another.
use mathlib.Core.Bool.{true}
use native.Mathlib.Omega.{arith}
use lib.ListN.{get_or}
use Rattle.crn_chunks.specs.Reads.{inside_of}
use Rattle.crn_chunks.proofs.Picking.{reach-at}
use Rattle.crn_quick.proofs.Joining.{picks_none, picks_now, picks_more, picks_done}
use Rattle.crn_quick.proofs.pair_positions.Goals as goal

pub loop-k-init : goal.loop-k-init
loop-k-init c = λ right bottom. picks_none _ c.requires.able.holds c.requires.symbols_in.0 c.requires.symbols_in.1

pub refill-d-requires : goal.refill-d-requires
refill-d-requires c = (picks_now (c.loop-k.invariant true true)).holds

pub quick_pair-requires-clause-symbols_in : goal.quick_pair-requires-clause-symbols_in
quick_pair-requires-clause-symbols_in c =
    let now = picks_now (c.loop-k.invariant true true) in
    let far = reach-at c.loop-k.k now.some in
    (omega (arith, now.below.0), omega (arith, now.below.1))

pub loop-k-preserved : goal.loop-k-preserved
loop-k-preserved c =
    λ right bottom. picks_more (c.loop-k.invariant right bottom) c.refill-d.ensures.holds c.refill-d.ensures.stays (omega arith)
    (c.in_ok-e.ensures (get_or (inside_of right bottom) c.loop-k.k true)) c.requires.out_long

pub returns : goal.returns
returns c = λ right bottom. picks_done (c.loop-k.invariant right bottom) (omega arith)
