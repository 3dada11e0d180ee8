-- What a part of a palette answers: the cursor after it, or the refusal and the bit that it names.
use Rattle.std.specs.Prelude.{Ok, Err, ℕ, ◌-◌, ◌≤◌, ◌≡◌, Bool, true, ◌&&◌, List, ◌++◌, length, take, replicate, leb, ltb}
use Rattle.std.specs.declared.result.Result.{Result}
use Rattle.crn_format.specs.declared.Fault.{Fault}
use Rattle.crn_format.specs.Limits.{max_symbols}
use Rattle.crn_format.specs.Codes.{all_fit}
use Rattle.crn_format.specs.Reading.{Reading, Step, got, Place, spot, run, from_bits}
use Rattle.crn_format.specs.Tables.{table}
use Rattle.crn_symbol_codec.specs.Cursors.{place, Holds}
use Rattle.crn_symbol_codec.specs.Decoders.{Decodes}
use Rattle.crn_symbol_codec.specs.declared.Cursor.{Cursor}
use Rattle.crn_symbol_codec.specs.Telling.{fault}
use Rattle.crn_code_tables.specs.Receiving.{Received as Sent}

-- the cursor after a part; or the fault
abbrev pub Reached : Type 0
Reached = Result Cursor Fault

-- the answer as a step over the segment's bits, with the list vs, where b is blamed
abbrev pub reached : List ℕ → ℕ → Reached → Step Place (List ℕ)
reached vs b (Ok d) = got vs (spot (place d) b)
reached vs b (Err e) = fault e

-- what holds of the next cursor, where there is one
abbrev pub Next : (Cursor → Type 0) → Reached → Type 0
Next holds (Ok d) = holds d
Next holds (Err e) = Unit {0}

-- r and vs are what reading m at the cursor c gives, where b is blamed
pub record Reaches (seg : List ℕ) (m : Reading (List ℕ)) (c : Cursor) (b : ℕ) (vs : List ℕ) (r : Reached) : Type 0 where
  pub blamed : ℕ
  pub same : run (from_bits seg) m (spot (place c) b) ≡ reached vs blamed r
  pub holds : Next (Holds seg) r

-- the first n of 8,192 lent lengths may make a code
pub record Codes (lent : List ℕ) (n : ℕ) : Type 0 where
  pub long : length lent ≡ max_symbols
  pub within : n ≤ length lent
  pub short : all_fit (take n lent) (length (take n lent)) ≡ true
  pub few : length (take n lent) ≤ max_symbols

-- small arrays do: neither table has more than 256 symbols, and there are fewer than 1,000 entries
unfoldable pub few_of : ℕ → ℕ → ℕ → Bool
few_of symbols others entries = (leb symbols 256 && leb others 256) && ltb entries 1000

-- a table's answer, without the count
abbrev pub reached_by : Sent → Reached
reached_by (Ok (n, d)) = Ok d
reached_by (Err e) = Err e

-- what holds of the count, where there is one
abbrev pub Counted : (ℕ → Type 0) → Sent → Type 0
Counted holds (Ok (n, d)) = holds n
Counted holds (Err e) = Unit {0}

-- what the lent array then holds: the lengths and zeros behind them; all zeros after a refusal
abbrev pub held_in : Sent → List ℕ → List ℕ
held_in (Ok (n, d)) ls = ls ++ replicate (max_symbols - length ls) 0
held_in (Err e) ls = replicate max_symbols 0

-- a table is received at the cursor c into `lent`
pub record Lengths (seg : List ℕ) (c : Cursor) (lent : List ℕ) (r : Sent) : Type 0 where
  pub lengths : List ℕ
  pub reads : (b : ℕ) → Reaches seg table c b lengths (reached_by r)
  pub codes : Counted (Codes lent) r
  pub same : Counted (λ n. take n lent ≡ lengths) r
  pub held : lent ≡ held_in r lengths

-- a table is received at the cursor c, and `lookup` and `sorted` decode it
pub record Received (seg : List ℕ) (c : Cursor) (lookup sorted : List ℕ) (r : Reached) : Type 0 where
  pub lengths : List ℕ
  pub reads : (b : ℕ) → Reaches seg table c b lengths r
  pub decodes : Next (λ _. Decodes lengths lookup sorted) r
