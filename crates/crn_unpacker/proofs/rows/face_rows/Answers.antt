use mathlib.Core.Path.{refl, ap}
use native.Mathlib.Omega.{arith}
use Rattle.crn_blocks.specs.Sheet.{row_start}
use Rattle.crn_blocks.proofs.Rows.{row_later}
use Rattle.crn_unpacker.proofs.Steps.{carry_rows, stop-early, respell}
use Rattle.crn_unpacker.proofs.rows.face_rows.Goals as goal

pub rightward-requires-clause-onward : goal.rightward-requires-clause-onward
rightward-requires-clause-onward c = c.loop-cy.invariant.2.onward _ _ refl

pub returns-in_err-m : goal.returns-in_err-m
returns-in_err-m c =
    let a = c.args in
    stop-early (row_later a.level.now.grid a.face (omega (arith, c.loop-cy-test.true))) c.in_err-m.was c.from_residual.ensures.1
    (carry_rows a.face c.requires.fit.room (omega arith) (omega arith) c.loop-cy.invariant.2 c.rightward.ensures)

pub loop-cy-preserved : goal.loop-cy-preserved
loop-cy-preserved c =
    let i = c.loop-cy.invariant in (
      omega (arith, c.loop-cy-test.true),
      omega (arith, i.1),
      carry_rows c.args.face c.requires.fit.room (omega arith) (omega arith) i.2
          (respell refl refl c.in_ok-m.was c.rightward.ensures),
    )

pub rightward-requires-2-clause-onward : goal.rightward-requires-2-clause-onward
rightward-requires-2-clause-onward c = c.loop-cy.invariant.2.onward _ _ refl

pub returns : goal.returns
returns c =
    let i = c.loop-cy.invariant in
    carry_rows c.args.face c.requires.fit.room (omega arith) (omega (arith, i.0)) i.2
    (respell refl (ap (row_start c.args.level.now.grid c.args.face) (omega (arith, i.0))) refl c.rightward-2.ensures)
