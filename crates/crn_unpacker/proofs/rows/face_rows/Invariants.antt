-- The invariant: the face's rows before cy were gone over, and cy is even.
use Prim.Native.Nat.{◌-◌, ◌%◌, ◌≤◌}
use mathlib.Core.Path.{◌≡◌}
use Rattle.std.specs.Prelude.{Ok}
use Rattle.crn_blocks.specs.Sheet.{row_start}
use Rattle.crn_unpacker.specs.Going.{given_in, Goes}
use Rattle.crn_unpacker.proofs.rows.face_rows.Given as goal

abbrev pub invariant-loop-cy : goal.invariant-loop-cy
invariant-loop-cy l = (l.cy ≤ l.high) × (l.cy % 2 ≡ 0)
    × Goes (given_in l.level) (row_start l.level.grid l.face 0) (row_start l.level.grid l.face l.cy)
    l.initial.n l.initial.t l.initial.dst l.dst (Ok (l.n, l.t))

abbrev pub decreases-loop-cy : goal.decreases-loop-cy
decreases-loop-cy l = l.high - l.cy
