-- The lengths, run by run. The invariant: what is left to run from here is the whole run, and beyond the lengths so far all are 0.
use Prim.Native.Nat.{◌-◌}
use Rattle.crn_code_tables.proofs.Growing.{State}
use Rattle.crn_code_tables.proofs.parts.lengths_by_runs.Given as goal

abbrev pub invariant-loop-done : goal.invariant-loop-done
invariant-loop-done l = State l.fn.code.lookup.now l.fn.code.sorted.now l.seg l.initial.at l.count l.lengths l.done l.last l.room l.at

abbrev pub decreases-loop-done : goal.decreases-loop-done
decreases-loop-done l = l.count - l.done
