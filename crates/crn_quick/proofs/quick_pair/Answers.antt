-- The selector indices of two planes at a position.
use Rattle.crn_quick.proofs.Joining.{stepped-holds, picked-two}
use Rattle.crn_quick.proofs.quick_pair.Goals as goal

pub quick_index-requires-2-clause-able : goal.quick_index-requires-2-clause-able
quick_index-requires-2-clause-able c = record { served = c.requires.able.served; holds = stepped-holds c.in_ok-d.ensures }

pub returns : goal.returns
returns c =
    λ inside. picked-two c.args.supply.now.planes inside c.args.s0 c.args.s1 (c.in_ok-d.ensures inside) c.requires.two_planes
    (c.in_ok-e.ensures inside)
