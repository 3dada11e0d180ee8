-- A symbol is added to each of the sums. The invariant: what is left of them, run from here, ends as all of them do.
use Rattle.std.proofs.Common.{ℕ, ◌<◌, ◌≤◌, List, get_or}
use Rattle.crn_format.specs.Reading.{run, from_bits, spot}
use Rattle.crn_format.specs.Palettes.{Sum, summed}
use Rattle.crn_symbol_codec.specs.Cursors.{place, Holds}
use Rattle.crn_symbol_codec.specs.declared.Cursor.{Cursor}
use Rattle.crn_endpoints.specs.Endpoints.{Adds}
use Rattle.crn_endpoints.specs.declared.Sum.{Sum as Running}
use Rattle.crn_endpoints.proofs.Summing.{Summed}
use Rattle.crn_endpoints.proofs.summed.Given as goal

-- at the cursor `at`, after i of the sums that are read from c on
pub record State (xs : List Running) (seg before : List ℕ) (c : Cursor) (values : List ℕ) (at : Cursor) (i : ℕ) : Type 0 where
  pub holds : Holds seg at
  pub kept : (k : ℕ) → k < i → (x : Running) → get_or values k 0 ≤ (get_or xs k x).mask
  pub sums : (ms : List Sum) → Adds xs ms → (b : ℕ)
      → Summed seg ms i values at (run (from_bits seg) (summed ms 0 before) (spot (place c) b))

abbrev pub invariant-loop-i : goal.invariant-loop-i
invariant-loop-i l = State l.sums l.seg l.initial.values l.initial.at l.values l.at l.i
