-- What opening a file answers, and what the four lent buffers then hold; the same of a load.
use Rattle.std.specs.Prelude.{ℕ, true, false, ◌≡◌, List, Ok, Err}
use Rattle.std.specs.declared.result.Result.{Result}
use Rattle.crn_format.specs.Refusals.{number_of}
use Rattle.crn_format.specs.declared.Fault.{Fault}
use Rattle.crn_format.specs.declared.Refusal.{Refusal}
use Rattle.crn_format.specs.declared.Refusal.TheVariants.{Disagrees}
use Rattle.crn_format.specs.Look.{empty_header}
use Rattle.crn_format.specs.Opening.{Palettes, Opening, opened, shut, zeroed, Lengths, tables_of}
use Rattle.crn_format.specs.Loading.{agrees, loading}
use Rattle.crn_format.specs.declared.Header.{Header}
use Rattle.crn_format.specs.declared.Record.{Record}
use Rattle.crn_formats.specs.Records.{record_by}
use Rattle.crn_opening.specs.SentTables.{no_lengths, no_counts}
use Rattle.crn_opening.specs.declared.opening.OpenedParts.{OpenedParts}

-- what opening answers by document 01's numbers: refusal 0 with the record; else the refusal, the bit that it names, and the empty record
pub record Opened : Type 0 where
  pub refusal : ℕ
  pub at : ℕ
  pub file : Record

-- what a refusal gives for a file
abbrev pub empty_record : Record
empty_record = record { header = empty_header; tables = tables_of no_lengths }

abbrev pub closed : ℕ → ℕ → Opened
closed n bit = record { refusal = n; at = bit; file = empty_record }

-- an answer with the record whole
abbrev pub whole : Result Record Fault → Opened
whole (Ok file) = record { refusal = 0; at = 0; file = file }
whole (Err e) = closed (number_of e.refusal) e.at

-- one with the record by its parts, and the tables' lengths in lent arrays: a refusal leaves these empty too
abbrev pub opened_by : Result OpenedParts Fault → List ℕ → List ℕ → List ℕ → List ℕ → List ℕ → Opened
opened_by (Ok p) chunk color_ends color_sels alpha_ends alpha_sels =
    record { refusal = 0; at = 0; file = record_by p.header p.counts chunk color_ends color_sels alpha_ends alpha_sels }
opened_by (Err e) chunk color_ends color_sels alpha_ends alpha_sels =
    record {
      refusal = number_of e.refusal;
      at = e.at;
      file = record_by empty_header no_counts chunk color_ends color_sels alpha_ends alpha_sels;
    }

-- the same by the lengths together
abbrev pub opened_in : Result OpenedParts Fault → Lengths → Opened
opened_in r t = opened_by r t.chunk t.color_ends t.color_sels t.alpha_ends t.alpha_sels

-- the opening that is told so by the record's parts, before a refusal clears the buffers; `after` is what is left in these
abbrev pub left_by : Palettes → Palettes → Lengths → Result OpenedParts Fault → Opening
left_by lent after t (Ok p) = opened (record_by p.header p.counts t.chunk t.color_ends t.color_sels t.alpha_ends t.alpha_sels) after
left_by lent after t (Err e) = shut (number_of e.refusal) e.at (zeroed lent)

-- a refusal before the streams
abbrev pub refused_before : Refusal → Result OpenedParts Fault
refused_before n = Err (record { refusal = n; at = 0 })

abbrev pub to_opened : Opening → Opened
to_opened (opened file after) = record { refusal = 0; at = 0; file = file }
to_opened (shut n bit after) = closed n bit

abbrev pub buffers_of : Opening → Palettes
buffers_of (opened file after) = after
buffers_of (shut n bit after) = after

-- r is what the definition answers, and `after` is what it leaves in the buffers
pub record Opens (o : Opening) (after : Palettes) (r : Opened) : Type 0 where
  pub answer : r ≡ to_opened o
  pub leaves : after ≡ buffers_of o

-- the five arrays that the tables' lengths are left in
abbrev pub arrays_of : List ℕ → List ℕ → List ℕ → List ℕ → List ℕ → Lengths
arrays_of chunk color_ends color_sels alpha_ends alpha_sels =
    record { chunk = chunk; color_ends = color_ends; color_sels = color_sels; alpha_ends = alpha_ends; alpha_sels = alpha_sels }

-- what a load of a file by the record h answers, and what it leaves: the definition's; and where the two disagree, every lent array, too,
-- as it had been
pub record Loads (h : Header) (file : List ℕ) (lent after : Palettes) (had left : Lengths) (r : Result OpenedParts Fault) : Type 0 where
  pub leaves : after ≡ buffers_of (loading h file lent)
  pub apart : agrees h file ≡ false → (r ≡ refused_before Disagrees) × (left ≡ had)
  pub alike : agrees h file ≡ true
      → opened_by r left.chunk left.color_ends left.color_sels left.alpha_ends left.alpha_sels ≡ to_opened (loading h file lent)
