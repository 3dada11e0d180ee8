use Prim.Native.Nat.{ℕ, ◌+◌, ◌≤◌}
use mathlib.Core.Path.{refl, ap, ◌∙◌}
use native.Mathlib.Omega.{arith}
use Rattle.crn_blocks.specs.Sheet.{row_start}
use Rattle.crn_blocks.proofs.Rows.{row_first, face-last, face_later}
use Rattle.crn_unpacker.proofs.Steps.{start, carry_face, stop-early, respell, onward-first}
use Rattle.crn_unpacker.proofs.paint.Goals as goal

pub loop-face-init : goal.loop-face-init
loop-face-init c = start (row_first c.args.level.now.grid) (onward-first c.args.s c.requires.holds)

pub face_rows-requires-clause-onward : goal.face_rows-requires-clause-onward
face_rows-requires-clause-onward c = c.loop-face.invariant.onward _ _ refl

pub returns-in_err-m : goal.returns-in_err-m
returns-in_err-m c =
    let g = c.args.level.now.grid in
    let below : row_start g (c.loop-face.face + 1) 0 ≤ row_start g g.faces 0 = face_later g (omega (arith, c.loop-face-test.true)) in
    stop-early (omega (arith, below, face-last g)) c.in_err-m.was c.from_residual.ensures.1
    (carry_face c.loop-face.face c.requires.fit.room c.loop-face.invariant c.face_rows.ensures)

pub loop-face-preserved : goal.loop-face-preserved
loop-face-preserved c =
    respell refl refl c.in_ok-m.was (carry_face c.loop-face.face c.requires.fit.room c.loop-face.invariant c.face_rows.ensures)

pub returns : goal.returns
returns c =
    let g = c.args.level.now.grid in
    respell refl (ap (λ (f : ℕ). row_start g f 0) (omega (arith, c.loop-face-test.false)) ∙ face-last g) refl c.loop-face.invariant
