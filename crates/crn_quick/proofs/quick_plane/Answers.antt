-- The endpoint indices of a plane's tiles by the quick way, one after another.
use mathlib.Core.Bool.{true}
use native.Mathlib.Omega.{arith}
use Rattle.crn_quick.proofs.Joining.{quick_none, quick_now, quick_more, quick_done}
use Rattle.crn_quick.proofs.quick_plane.Goals as goal

pub loop-k-init : goal.loop-k-init
loop-k-init c = quick_none _ c.requires.able.holds c.requires.i_in

pub quick_index-requires-clause-able : goal.quick_index-requires-clause-able
quick_index-requires-clause-able c = record { served = c.requires.able.served; holds = (quick_now c.loop-k.invariant).holds }

pub quick_index-requires-clause-i_in : goal.quick_index-requires-clause-i_in
quick_index-requires-clause-i_in c = (quick_now c.loop-k.invariant).below

pub loop-k-preserved : goal.loop-k-preserved
loop-k-preserved c = quick_more c.loop-k.invariant (omega arith) (c.in_ok-after.ensures true) c.requires.range_in

pub returns : goal.returns
returns c = quick_done c.loop-k.invariant (omega arith) (quick_now c.loop-k.invariant).some
