-- The bytes so far are those of the slice.
use Rattle.std.proofs.Common.{◌≡◌, ℕ, ◌+◌, ◌<◌, length, get_or}
use Rattle.crn_utils.proofs.bytes.Given as goal

abbrev pub invariant-loop-k : goal.invariant-loop-k
invariant-loop-k g l = (length l.b-items ≡ l.k-end) × ((k : ℕ) → k < l.k → get_or l.b-items k 0 ≡ get_or l.s (l.at + k) 0)
