-- A row, then the rows after it in the other direction. The measure is how many rows are left.
use mathlib.Core.Path.{refl, ap}
use native.Mathlib.Omega.{arith}
use Rattle.crn_blocks.specs.Sheet.{row_start}
use Rattle.crn_blocks.proofs.Rows.{row_later}
use Rattle.crn_unpacker.proofs.Steps.{carry_rows, stop-early, respell, fit_kept}
use Rattle.crn_unpacker.proofs.rows.+leftward_rightward.Goals as goal

pub leftward-returns-in_err-n : goal.leftward-returns-in_err-n
leftward-returns-in_err-n t c =
    stop-early (row_later c.args.level.now.grid c.args.face (omega (arith, c.if-left-eq0.false))) c.in_err-n.was c.from_residual.ensures.1
    c.row.ensures

pub leftward-rightward-requires : goal.leftward-rightward-requires
leftward-rightward-requires t c =
    let rows = c.requires.rows in (
      omega (arith, c.decreases),
      (
        fit_kept c.requires.fit c.row.auto.dst,
        (
          c.row.ensures.onward _ _ c.in_ok-n.was,
          record { face = rows.face; some = omega (arith, rows.some, c.if-left-eq0.false); way = omega (arith, rows.way) },
        ),
      ),
    )

pub leftward-returns : goal.leftward-returns
leftward-returns t c =
    let more = c.if-left-eq0.false in
    carry_rows c.args.face c.requires.fit.room (omega arith) (omega (arith, more)) (respell refl refl c.in_ok-n.was c.row.ensures)
    (respell refl (ap (row_start c.args.level.now.grid c.args.face) (omega (arith, more))) refl c.rightward.ensures)

pub rightward-returns-in_err-n : goal.rightward-returns-in_err-n
rightward-returns-in_err-n t c =
    stop-early (row_later c.args.level.now.grid c.args.face (omega (arith, c.if-left-eq0.false))) c.in_err-n.was c.from_residual.ensures.1
    c.row.ensures

pub rightward-leftward-requires : goal.rightward-leftward-requires
rightward-leftward-requires t c =
    let rows = c.requires.rows in (
      omega (arith, c.decreases),
      (
        fit_kept c.requires.fit c.row.auto.dst,
        (
          c.row.ensures.onward _ _ c.in_ok-n.was,
          record { face = rows.face; some = omega (arith, rows.some, c.if-left-eq0.false); way = omega (arith, rows.way) },
        ),
      ),
    )

pub rightward-returns : goal.rightward-returns
rightward-returns t c =
    let more = c.if-left-eq0.false in
    carry_rows c.args.face c.requires.fit.room (omega arith) (omega (arith, more)) (respell refl refl c.in_ok-n.was c.row.ensures)
    (respell refl (ap (row_start c.args.level.now.grid c.args.face) (omega (arith, more))) refl c.leftward.ensures)
