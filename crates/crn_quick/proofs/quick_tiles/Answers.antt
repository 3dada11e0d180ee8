-- The endpoint indices of the tiles of each plane by the quick way.
use native.Mathlib.Omega.{arith}
use Rattle.crn_quick.proofs.Joining.{tiled-one, tiled-two}
use Rattle.crn_quick.proofs.quick_tiles.Goals as goal

pub returns-then-not-supply : goal.returns-then-not-supply
returns-then-not-supply c =
    tiled-one c.args.supply.now.planes c.refill-c0.ensures.stays c.in_ok-d.ensures c.if-not-supply.true
    c.requires.encodings_in.1

pub refill-d0-requires : goal.refill-d0-requires
refill-d0-requires c = (c.in_ok-d.ensures 0 c.args.n 0 (omega arith)).tiled.on.0

pub returns : goal.returns
returns c =
    tiled-two c.args.supply.now.planes c.refill-c0.ensures.stays c.in_ok-d.ensures c.if-not-supply.false
    c.refill-d0.ensures.stays c.in_ok-e.ensures c.requires.n_in c.quick_plane-2.auto.out
