-- Row by row. Assumes nothing.
use native.Mathlib.Omega.{arith}
use Rattle.bcn_rows.specs.Rows.{row_of}
use Rattle.bcn_rows.proofs.Laws.{addable_row, all-added}
use Rattle.bcn_rows.proofs.added_rows.Goals as goal

pub added-requires : goal.added-requires
unfolding row_of
added-requires c = addable_row _ _ c.requires 0 (omega arith)

pub added-requires-2 : goal.added-requires-2
unfolding row_of
added-requires-2 c = addable_row _ _ c.requires 1 (omega arith)

pub added-requires-3 : goal.added-requires-3
unfolding row_of
added-requires-3 c = addable_row _ _ c.requires 2 (omega arith)

pub added-requires-4 : goal.added-requires-4
unfolding row_of
added-requires-4 c = addable_row _ _ c.requires 3 (omega arith)

pub returns : goal.returns
returns c =
    all-added _ _ _ c.added.ensures c.added-2.ensures
    c.added-3.ensures c.added-4.ensures
