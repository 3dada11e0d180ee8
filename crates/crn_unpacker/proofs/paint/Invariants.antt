-- The invariant: the faces before this one were gone over.
use Rattle.std.specs.Prelude.{Ok}
use Rattle.crn_blocks.specs.Sheet.{row_start}
use Rattle.crn_unpacker.specs.Going.{given_in, Goes}
use Rattle.crn_unpacker.proofs.paint.Given as goal

abbrev pub invariant-loop-face : goal.invariant-loop-face
invariant-loop-face l = Goes (given_in l.level) 0
    (row_start l.level.grid l.face 0) l.initial.n l.initial.t l.initial.dst l.dst (Ok (l.n, l.t))
