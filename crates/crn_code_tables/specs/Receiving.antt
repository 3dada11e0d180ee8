-- What receiving a code table answers.
use Rattle.std.specs.Prelude.{ℕ, ◌≡◌, List, [], Ok, Err}
use Rattle.std.specs.declared.result.Result.{Result}
use Rattle.crn_format.specs.Reading.{spot, run, from_bits}
use Rattle.crn_format.specs.Tables.{table}
use Rattle.crn_format.specs.Opening.{table_of}
use Rattle.crn_format.specs.Unpacking.{lengths_of}
use Rattle.crn_format.specs.declared.Fault.{Fault}
use Rattle.crn_format.specs.declared.Table.{Table}
use Rattle.crn_symbol_codec.specs.Cursors.{place, Holds}
use Rattle.crn_symbol_codec.specs.Telling.{told, OnPart}
use Rattle.crn_symbol_codec.specs.declared.Cursor.{Cursor}

-- how many symbols a table has, and the cursor after it; or the fault
abbrev pub Received : Type 0
Received = Result (ℕ × Cursor) Fault

-- the lent lengths, with the count that was received, none after a fault
abbrev pub held_by : Received → List ℕ → Table
held_by (Ok (n, d)) lengths = record { count = n; lengths = lengths }
held_by (Err e) lengths = record { count = 0; lengths = lengths }

-- the answer and the lent lengths are what reading a table at the cursor's place gives; a fault leaves the empty table
pub record Receives (seg : List ℕ) (c : Cursor) (r : Received) (after : List ℕ) : Type 0 where
  pub blamed : ℕ
  pub same : (b : ℕ) → run (from_bits seg) table (spot (place c) b) ≡ told (λ _. lengths_of (held_by r after)) blamed r
  pub whole : held_by r after ≡ table_of (lengths_of (held_by r after))
  pub goes : OnPart (λ _ d. Holds seg d) r
  pub none : (e : Fault) → r ≡ Err e → held_by r after ≡ table_of []
