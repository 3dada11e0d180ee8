-- What the functions that read the tables segment answer.
use Rattle.std.specs.Prelude.{ℕ, Bool, ◌≡◌, List, [], replicate, Ok, Err}
use Rattle.std.specs.declared.result.Result.{Result}
use Rattle.crn_format.specs.Limits.{max_symbols}
use Rattle.crn_format.specs.Reading.{Reading, Step, got, refused, Place, spot, run, from_bits}
use Rattle.crn_format.specs.Refusals.{number_of}
use Rattle.crn_format.specs.Opening.{Lengths, plane_tables, table_of, tables_of}
use Rattle.crn_format.specs.Unpacking.{lengths_of}
use Rattle.crn_format.specs.declared.Fault.{Fault}
use Rattle.crn_format.specs.declared.Table.{Table}
use Rattle.crn_format.specs.declared.Tables.{Tables}
use Rattle.crn_formats.specs.Records.{table_by, tables_by}
use Rattle.crn_formats.specs.declared.records.Counts.{Counts}
use Rattle.crn_symbol_codec.specs.Cursors.{place, Holds}
use Rattle.crn_symbol_codec.specs.Telling.{told as told_by, OnPart}
use Rattle.crn_symbol_codec.specs.declared.Cursor.{Cursor}

-- reading m at the cursor c ends as r says: with the answer that f makes of its value, at its cursor; or with its fault. `blamed` is the
-- bit that is then noted, where b was before
pub record Ends {X A : Type 0} (seg : List ℕ) (m : Reading A) (c : Cursor) (f : X → A) (r : Result (X × Cursor) Fault) : Type 0 where
  pub blamed : ℕ → ℕ
  pub same : (b : ℕ) → run (from_bits seg) m (spot (place c) b) ≡ told_by f (blamed b) r
  pub holds : OnPart (λ _ d. Holds seg d) r

-- the table is what the record holds for its own lengths
abbrev pub Whole : Table → Type 0
Whole t = t ≡ table_of (lengths_of t)

-- the lengths of a plane's two delta tables, by their counts
abbrev pub both_lengths : List ℕ → List ℕ → ℕ × ℕ → List ℕ × List ℕ
both_lengths ends sels n = (lengths_of (table_by n.0 ends), lengths_of (table_by n.1 sels))

-- r has the counts of a plane's two delta tables, and `ends` and `sels` their lengths
pub record Pairs (seg : List ℕ) (there : Bool) (c : Cursor) (r : Result ((ℕ × ℕ) × Cursor) Fault) (ends sels : List ℕ) : Type 0 where
  pub reads : Ends seg (plane_tables there) c (both_lengths ends sels) r
  pub endpoints : OnPart (λ n _. Whole (table_by n.0 ends)) r
  pub selectors : OnPart (λ n _. Whole (table_by n.1 sels)) r

-- five tables that were not sent
abbrev pub no_lengths : Lengths
no_lengths = record { chunk = []; color_ends = []; color_sels = []; alpha_ends = []; alpha_sels = [] }

abbrev pub no_counts : Counts
no_counts = record { chunk = 0; color_ends = 0; color_sels = 0; alpha_ends = 0; alpha_sels = 0 }

-- what their lent arrays hold
pub record AllZero (chunk color_ends color_sels alpha_ends alpha_sels : List ℕ) : Type 0 where
  pub first : chunk ≡ replicate max_symbols 0
  pub color_e : color_ends ≡ replicate max_symbols 0
  pub color_s : color_sels ≡ replicate max_symbols 0
  pub alpha_e : alpha_ends ≡ replicate max_symbols 0
  pub alpha_s : alpha_sels ≡ replicate max_symbols 0

-- how the tables segment ended: the refusal, 0 for none, the bit that it names, and the tables, empty after a refusal
pub record Told : Type 0 where
  pub refusal : ℕ
  pub at : ℕ
  pub tables : Tables

-- a refusal, by its number
abbrev pub unsent : ℕ → ℕ → Told
unsent n bit = record { refusal = n; at = bit; tables = tables_of no_lengths }

-- an answer, with the lengths that are left in the lent arrays
abbrev pub told : Result Counts Fault → Lengths → Told
told (Ok counts) t = record { refusal = 0; at = 0; tables = tables_by counts t.chunk t.color_ends t.color_sels t.alpha_ends t.alpha_sels }
told (Err e) t = unsent (number_of e.refusal) e.at

abbrev pub sent_of : Step Place Lengths → Told
sent_of (got t w) = record { refusal = 0; at = 0; tables = tables_of t }
sent_of (refused n w) = unsent n w.blamed
