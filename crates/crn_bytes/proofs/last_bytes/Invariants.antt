-- The last bytes, with 0 after them. Invariant: w is what the bytes from i to k spell.
use Prim.Native.Nat.{◌-◌, ◌*◌}
use mathlib.Core.Path.{◌≡◌}
use Rattle.crn_format.specs.Bits.{spelled}
use Rattle.crn_bytes.proofs.last_bytes.Given as goal

abbrev pub invariant-loop-k : goal.invariant-loop-k
invariant-loop-k l = l.w ≡ spelled l.s (8 * l.i) (8 * (l.k - l.i))
