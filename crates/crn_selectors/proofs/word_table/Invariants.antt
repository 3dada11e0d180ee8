-- Each pair as it is written. The invariant: those before p are there.
use Rattle.std.proofs.Common.{◌≡◌, ℕ, ◌<◌, get_or}
use Rattle.crn_selectors.specs.Selectors.{written_pair}
use Rattle.crn_selectors.proofs.word_table.Given as goal

abbrev pub invariant-loop-p : goal.invariant-loop-p
invariant-loop-p g l = (k : ℕ) → k < l.p → get_or l.word-items k 0 ≡ written_pair g.K.Kind.alpha k
