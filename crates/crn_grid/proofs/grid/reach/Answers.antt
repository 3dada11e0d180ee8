-- A part that overflows is no more than the whole.
use Prim.Native.Nat.{◌+◌, ◌*◌, ◌-◌}
use mathlib.Core.Path.{◌≡◌, refl}
use native.Mathlib.Omega.{arith}
use Rattle.crn_format.specs.Unpacking.{grid_of, reach}
use Rattle.crn_grid.proofs.Reach.{whole}
use Rattle.crn_grid.proofs.grid.reach.Goals as goal

pub returns-in_err-faces : goal.returns-in_err-faces
returns-in_err-faces c =
    let a = c.args in
    let all = whole a.h a.level a.pitch a.distance c.saturating_sub.ensures refl refl in
    rw c.from_residual.ensures (λ small. c.in_err-faces.ensures (omega arith))

pub returns-in_err-rows : goal.returns-in_err-rows
returns-in_err-rows c =
    let a = c.args in
    let all = whole a.h a.level a.pitch a.distance c.saturating_sub.ensures (c.rows_of.ensures.0 a.pitch a.distance) refl in
    rw c.from_residual-in_err-rows.ensures (λ small. c.in_err-rows.ensures (omega arith))

pub returns-in_err-checked_add : goal.returns-in_err-checked_add
returns-in_err-checked_add c =
    let a = c.args in
    let all = whole a.h a.level a.pitch a.distance c.saturating_sub.ensures (c.rows_of.ensures.0 a.pitch a.distance) refl in
    rw c.from_residual-in_err-checked_add.ensures (λ small. c.in_err-checked_add.ensures (omega arith))

pub returns : goal.returns
returns c =
    let a = c.args in
    let all = whole a.h a.level a.pitch a.distance c.saturating_sub.ensures (c.rows_of.ensures.0 a.pitch a.distance)
    (c.row_bytes.ensures a.pitch a.distance) in
    let before : c.in_ok-checked_add.field-0 ≡ c.in_ok-faces.faces + c.in_ok-rows.rows = c.in_ok-checked_add.ensures.1 in
    let faces : c.in_ok-faces.faces ≡ c.saturating_sub.result * a.distance = c.in_ok-faces.ensures.1 in
    let rows : c.in_ok-rows.rows ≡ (c.rows_of.result - 1) * a.pitch = c.in_ok-rows.ensures.1 in
    let is : c.in_ok-checked_add.field-0 + c.row_bytes.result ≡ reach (grid_of a.h a.level a.pitch a.distance) = omega arith in
    rw is at c.checked_add-2.ensures
