-- The endpoint indices of the tiles of each plane.
use Rattle.crn_format.proofs.Results.{passed}
use Rattle.crn_chunks.proofs.Tiling.{tiles_lost, tiles-one, tiles-then_lost, tiles-two}
use Rattle.crn_chunks.proofs.all_tiles.Goals as goal

pub returns-in_err-i : goal.returns-in_err-i
returns-in_err-i c = rw (passed c.from_residual.ensures.1) (tiles_lost c.args.supply.now.planes c.args.e1 c.in_err-i.ensures)

pub returns-then-not-supply : goal.returns-then-not-supply
returns-then-not-supply c =
    tiles-one c.args.supply.now.planes c.args.e1 c.in_ok-i.ensures c.if-not-supply.true c.requires.encodings_in.1

pub returns-in_err-j : goal.returns-in_err-j
returns-in_err-j c =
    rw (passed c.from_residual-in_err-j.ensures.1)
    (tiles-then_lost c.args.supply.now.planes c.args.e1 c.in_ok-i.ensures c.if-not-supply.false c.in_err-j.ensures)

pub returns : goal.returns
returns c =
    tiles-two c.args.supply.now.planes c.args.e1 c.in_ok-i.ensures c.if-not-supply.false c.in_ok-j.ensures c.requires.n_in
    c.plane_tiles-2.auto.out
