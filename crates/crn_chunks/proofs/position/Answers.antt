-- The selector indices at a position.
use Rattle.crn_format.proofs.Results.{passed}
use Rattle.crn_chunks.proofs.Picking.{picks_lost, picks_one, picks_then_lost, picks_two}
use Rattle.crn_chunks.proofs.position.Goals as goal

pub returns-in_err-i : goal.returns-in_err-i
returns-in_err-i c =
    let a = c.args in
    rw (passed c.from_residual.ensures.1) (picks_lost a.supply.now.planes a.inside a.s0 a.s1 c.in_err-i.ensures)

pub returns-then-not-supply : goal.returns-then-not-supply
returns-then-not-supply c =
    let a = c.args in
    picks_one a.supply.now.planes a.inside a.s0 a.s1 c.in_ok-i.ensures c.if-not-supply.true

pub returns-in_err-j : goal.returns-in_err-j
returns-in_err-j c =
    let a = c.args in
    rw (passed c.from_residual-in_err-j.ensures.1)
    (picks_then_lost a.supply.now.planes a.inside a.s0 a.s1 c.in_ok-i.ensures c.if-not-supply.false c.in_err-j.ensures)

pub returns : goal.returns
returns c =
    let a = c.args in
    picks_two a.supply.now.planes a.inside a.s0 a.s1 c.in_ok-i.ensures c.if-not-supply.false c.in_ok-j.ensures
