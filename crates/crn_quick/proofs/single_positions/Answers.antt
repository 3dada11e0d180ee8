-- The selector indices of one plane at the positions.
use native.Mathlib.Omega.{arith}
use mathlib.Core.Path.{refl}
use Rattle.crn_quick.proofs.Joining.{picks_none, picks_done, stepped-holds, stepped-small, single_more}
use Rattle.crn_quick.proofs.single_positions.Goals as goal

pub quick_index-requires-2-clause-able : goal.quick_index-requires-2-clause-able
quick_index-requires-2-clause-able c = record { served = c.requires.able.served; holds = stepped-holds c.in_ok-c1.ensures }

pub quick_index-requires-2-clause-i_in : goal.quick_index-requires-2-clause-i_in
quick_index-requires-2-clause-i_in c = stepped-small c.in_ok-c1.ensures

pub quick_index-requires-3-clause-able : goal.quick_index-requires-3-clause-able
quick_index-requires-3-clause-able c = record { served = c.requires.able.served; holds = stepped-holds c.in_ok-c2.ensures }

pub quick_index-requires-3-clause-i_in : goal.quick_index-requires-3-clause-i_in
quick_index-requires-3-clause-i_in c = stepped-small c.in_ok-c2.ensures

pub filled-c3-requires : goal.filled-c3-requires
filled-c3-requires c = stepped-holds c.in_ok-after.ensures

pub quick_index-requires-4-clause-i_in : goal.quick_index-requires-4-clause-i_in
quick_index-requires-4-clause-i_in c = stepped-small c.in_ok-after.ensures

pub returns : goal.returns
returns c =
    let ps = c.args.supply.now.planes in
    let one = c.requires.one_plane in
    let room = c.requires.out_long in
    let t0 = c.in_ok-c1.ensures in
    let t1 = c.in_ok-c2.ensures in
    let t2 = c.in_ok-after.ensures in
    let t3 = c.in_ok-end.ensures in
    λ right bottom.
    let none = picks_none {right = right} {bottom = bottom} c.args.out.now c.requires.able.holds c.requires.symbols_in.0
    c.requires.symbols_in.1 in
    let p1 = single_more ps right bottom 0 one room none c.refill-c0.ensures.holds c.refill-c0.ensures.stays (omega arith) t0 in
    let p2 = single_more ps right bottom 1 one room p1 (stepped-holds t0) refl (omega arith) t1 in
    let p3 = single_more ps right bottom 2 one room p2 (stepped-holds t1) refl (omega arith) t2 in
    let p4 = single_more ps right bottom 3 one room p3 c.filled-c3.ensures.holds c.filled-c3.ensures.stays (omega arith) t3 in
    picks_done p4 (omega arith)
