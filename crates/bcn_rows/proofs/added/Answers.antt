-- Each half's sum, from what is asked of its two texels. Assumes nothing.
use native.Mathlib.Omega.{arith}
use Rattle.bcn_rows.specs.Rows.{texel_of}
use Rattle.bcn_rows.proofs.Laws.{holds, sum-holds}
use Rattle.bcn_rows.proofs.added.Goals as goal

pub overflow_add-result : goal.overflow_add-result
unfolding texel_of
overflow_add-result c = let few = c.requires in omega (arith, few 0 (omega arith), few 1 (omega arith))

pub overflow_add-result-2 : goal.overflow_add-result-2
unfolding texel_of
overflow_add-result-2 c = let few = c.requires in omega (arith, few 2 (omega arith), few 3 (omega arith))

pub returns : goal.returns
unfolding texel_of
returns c =
    let few = c.requires in
    holds _ (sum-holds _ _ (few 0 (omega arith))) (sum-holds _ _ (few 2 (omega arith)))
