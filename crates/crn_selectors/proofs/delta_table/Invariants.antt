-- The delta of each symbol. The invariant: those before s are there.
use Rattle.std.proofs.Common.{◌≡◌, ℕ, ◌<◌, get_or, length}
use Rattle.crn_selectors.specs.Selectors.{PairDelta}
use Rattle.crn_selectors.proofs.delta_table.Given as goal

abbrev pub invariant-loop-s : goal.invariant-loop-s
invariant-loop-s g l = (length l.out ≡ 256) × ((k : ℕ) → k < l.s → PairDelta g.K.Kind.alpha k (get_or l.out k 0))
