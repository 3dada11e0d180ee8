-- What the functions that receive the parts of a code table answer.
use Rattle.std.specs.Prelude.{ℕ, ◌-◌, ◌<◌, ◌≤◌, true, ◌≡◌, List, [], length, take, drop, replicate, eqb, Ok, Err}
use Rattle.std.specs.Result.{IfOk}
use Rattle.std.specs.declared.result.Result.{Result}
use Rattle.crn_format.specs.Choice.{pick}
use Rattle.crn_format.specs.Limits.{max_symbols, max_length}
use Rattle.crn_format.specs.Codes.{room as room_of, all_fit}
use Rattle.crn_format.specs.Reading.{Reading, draw, next, Step, got, Place, spot, run, from_bits}
use Rattle.crn_format.specs.Tables.{length_order, sent_lengths, run_of, lengths_from, checked}
use Rattle.crn_format.specs.Opening.{table_of}
use Rattle.crn_format.specs.declared.Fault.{Fault}
use Rattle.crn_format.specs.declared.Refusal.{Refusal}
use Rattle.crn_format.specs.declared.Table.{Table}
use Rattle.crn_symbol_codec.specs.Cursors.{place, Holds}
use Rattle.crn_symbol_codec.specs.Decoders.{Decodes}
use Rattle.crn_symbol_codec.specs.Telling.{fault, told, OnPart}
use Rattle.crn_symbol_codec.specs.declared.Cursor.{Cursor}
use Rattle.crn_code_tables.specs.Receiving.{Received}

-- a refusal that names the bit p
abbrev pub fault_at : Refusal → ℕ → Fault
fault_at k p = record { refusal = k; at = p }

-- ---- the code of lengths

-- the cursor after them, as a step that gives them; where it is no fault, b is blamed
abbrev pub sent : List ℕ → ℕ → Result Cursor Fault → Step Place (List ℕ)
sent ls b (Ok d) = got ls (spot (place d) b)
sent ls b (Err e) = fault e

-- `lent` are the lengths of the 21 length symbols, of which n were sent before the cursor; or the fault
pub record Sends (seg : List ℕ) (n : ℕ) (c : Cursor) (r : Result Cursor Fault) (lent : List ℕ) : Type 0 where
  pub same : (b : ℕ) → run (from_bits seg) (sent_lengths n length_order (replicate 21 0)) (spot (place c) b) ≡ sent lent b r
  pub long : length lent ≡ 21
  pub holds : IfOk r (Holds seg)

-- ---- a run of lengths

-- how many bits say how long the run of a length symbol above 16 is, and how long it is at least
abbrev pub extra_of : ℕ → ℕ
extra_of s = pick (eqb s 17) 3 (pick (eqb s 18) 7 (pick (eqb s 19) 2 6))

abbrev pub least_of : ℕ → ℕ
least_of s = pick (eqb s 17) 3 (pick (eqb s 18) 11 (pick (eqb s 19) 3 7))

-- from its length symbol in the code cl on
abbrev pub drawn_run : List ℕ → ℕ → Reading (ℕ × ℕ)
drawn_run cl last = draw cl (run_of last)

-- which length the run has that is drawn at the cursor's place, and how often, in the code of a decoder table; or the fault
pub record Draws (lookup sorted seg : List ℕ) (last : ℕ) (c : Cursor) (r : Result ((ℕ × ℕ) × Cursor) Fault) : Type 0 where
  pub same : (cl : List ℕ) → Decodes cl lookup sorted
      → run (from_bits seg) (drawn_run cl last) (spot (place c) (place c)) ≡ told (λ x. (x.1, x.0)) (place c) r
  pub goes : OnPart (λ x d. (x.0 ≤ max_length) × (0 < x.1) × Holds seg d) r

-- the codes of the first `count` lengths take this room, and those after them are 0
pub record Whole (seg : List ℕ) (count : ℕ) (lent : List ℕ) (room : ℕ) (d : Cursor) : Type 0 where
  pub holds : Holds seg d
  pub rest : drop count lent ≡ replicate (max_symbols - count) 0
  pub fits : all_fit (take count lent) count ≡ true
  pub is : room ≡ room_of (take count lent) count

-- r tells how a reading of `count` lengths ended, which are the first of `lent`, in the code of a decoder table: the room of their codes,
-- or the fault
pub record Runs (lookup sorted seg : List ℕ) (c : Cursor) (count : ℕ) (r : Result (ℕ × Cursor) Fault) (lent : List ℕ) : Type 0 where
  pub long : length lent ≡ max_symbols
  pub blamed : ℕ
  pub same : (cl : List ℕ) → Decodes cl lookup sorted → run (from_bits seg) (lengths_from cl count count 0 []) (spot (place c) (place c))
      ≡ told (λ _. take count lent) blamed r
  pub goes : OnPart (Whole seg count lent) r

-- all runs of `count` lengths, which have to make a code
abbrev pub all_runs : List ℕ → ℕ → Reading (List ℕ)
all_runs cl count = next (lengths_from cl count count 0 []) checked

-- ---- a table

-- the first n of the lent lengths, beyond which all are 0, and a cursor that holds
pub record Accepts (seg lent : List ℕ) (n : ℕ) (d : Cursor) : Type 0 where
  pub holds : Holds seg d
  pub whole : ◌≡◌ {A = Table} (record { count = n; lengths = lent }) (table_of (take n lent))

-- r and the lent lengths tell how a reading of lengths ended
pub record Tells (seg : List ℕ) (o : Step Place (List ℕ)) (r : Received) (lent : List ℕ) : Type 0 where
  pub blamed : ℕ
  pub same : o ≡ told (λ n. take n lent) blamed r
  pub goes : OnPart (Accepts seg lent) r

-- the same of the reading m at the cursor c, whatever is blamed before it
abbrev pub TellsAt : List ℕ → Reading (List ℕ) → Cursor → Received → List ℕ → Type 0
TellsAt seg m c r lent = (b : ℕ) → Tells seg (run (from_bits seg) m (spot (place c) b)) r lent
