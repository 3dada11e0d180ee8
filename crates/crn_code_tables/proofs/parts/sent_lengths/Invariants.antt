-- The lengths of the code of lengths. The invariant: what is left to run from here is the whole run.
use Prim.Native.Nat.{ℕ, ◌-◌}
use mathlib.Core.List.{List}
use mathlib.Core.Path.{◌≡◌}
use lib.ListN.{length, drop, replicate}
use Rattle.crn_format.specs.Reading.{run, from_bits, spot}
use Rattle.crn_format.specs.Tables.{length_order, sent_lengths}
use Rattle.crn_symbol_codec.specs.Cursors.{place, Holds}
use Rattle.crn_symbol_codec.specs.declared.Cursor.{Cursor}
use Rattle.crn_code_tables.proofs.parts.sent_lengths.Given as goal

-- at the cursor `at`, after i of the n lengths that are sent from c on
pub record State (seg : List ℕ) (c : Cursor) (n : ℕ) (lengths : List ℕ) (at : Cursor) (i : ℕ) : Type 0 where
  pub long : length lengths ≡ 21
  pub holds : Holds seg at
  pub same : (b : ℕ) → run (from_bits seg) (sent_lengths (n - i) (drop i length_order) lengths) (spot (place at) b)
      ≡ run (from_bits seg) (sent_lengths n length_order (replicate 21 0)) (spot (place c) b)

abbrev pub invariant-loop-i : goal.invariant-loop-i
invariant-loop-i l = State l.seg l.initial.at l.n l.lengths l.at l.i
