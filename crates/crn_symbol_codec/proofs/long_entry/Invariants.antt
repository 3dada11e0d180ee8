-- The code that the bits begin with, by the lengths that are not looked up. Invariant: the search from the length k on finds what the whole search finds.
use Prim.Native.Nat.{◌-◌}
use Rattle.crn_symbol_codec.proofs.Seeking.{Long}
use Rattle.crn_symbol_codec.proofs.long_entry.Given as goal

abbrev pub invariant-loop-k : goal.invariant-loop-k
invariant-loop-k l = Long l.fn.code.lookup.now l.fn.code.sorted.now l.bits l.k l.first l.offset

abbrev pub decreases-loop-k : goal.decreases-loop-k
decreases-loop-k l = l.longest - l.k
