-- The invariant: the row's chunks before k were gone over.
use Prim.Native.Nat.{◌+◌}
use Rattle.std.specs.Prelude.{Ok}
use Rattle.crn_blocks.specs.Sheet.{row_start}
use Rattle.crn_unpacker.specs.Going.{given_in, Goes}
use Rattle.crn_unpacker.proofs.rows.row.Given as goal

abbrev pub invariant-loop-k : goal.invariant-loop-k
invariant-loop-k l =
    Goes (given_in l.level) (row_start l.level.grid l.face l.cy) (row_start l.level.grid l.face l.cy + l.k)
    l.initial.n l.initial.t l.initial.dst l.dst (Ok (l.n, l.t))
