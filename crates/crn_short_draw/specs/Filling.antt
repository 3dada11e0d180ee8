-- A cursor that is filled before its next symbols.
use Rattle.std.specs.Prelude.{ℕ, ◌≡◌, List}
use Rattle.crn_symbol_codec.specs.Cursors.{place, Holds, Enough}
use Rattle.crn_symbol_codec.specs.declared.Cursor.{Cursor}

-- r is c with 16 bits, or all that are left
pub record Sixteen (seg : List ℕ) (c r : Cursor) : Type 0 where
  pub holds : Holds seg r
  pub stays : place r ≡ place c
  pub enough : Enough seg r 16
