-- An opening's and a load's answer as one struct, and what is promised of it.
use Rattle.std.specs.Prelude.{ℕ, true, false, ◌≡◌, List, Ok, Err}
use Rattle.std.specs.declared.result.Result.{Result}
use Rattle.crn_format.specs.Refusals.{number_of}
use Rattle.crn_format.specs.Look.{empty_header}
use Rattle.crn_format.specs.Opening.{Palettes, Lengths}
use Rattle.crn_format.specs.Loading.{agrees, loading}
use Rattle.crn_format.specs.declared.Fault.{Fault}
use Rattle.crn_format.specs.declared.Header.{Header}
use Rattle.crn_formats.specs.Records.{record_by}
use Rattle.crn_opening.specs.SentTables.{no_counts}
use Rattle.crn_opening.specs.Opens.{Opened, to_opened, buffers_of}
use Rattle.crn_opening.specs.declared.opening.OpenedParts.{OpenedParts}
use Rattle.crunch_abi.specs.declared.loading.OpenedHeader.{OpenedHeader}

-- a refusal has the empty record's header and counts
abbrev pub refused_header : ℕ → ℕ → OpenedHeader
refused_header n bit = record { refusal = n; at = bit; header = empty_header; counts = no_counts }

abbrev pub flat_of : Result OpenedParts Fault → OpenedHeader
flat_of (Ok p) = record { refusal = 0; at = 0; header = p.header; counts = p.counts }
flat_of (Err e) = refused_header (number_of e.refusal) e.at

-- an answer with the tables' lengths, which are in lent arrays
abbrev pub opened_by : OpenedHeader → List ℕ → List ℕ → List ℕ → List ℕ → List ℕ → Opened
opened_by r chunk color_ends color_sels alpha_ends alpha_sels =
    record { refusal = r.refusal; at = r.at; file = record_by r.header r.counts chunk color_ends color_sels alpha_ends alpha_sels }

-- what a load of a file by the record h answers, and what it leaves: the definition's; and where the two disagree, every lent array, too,
-- as it had been
pub record Loads (h : Header) (file : List ℕ) (lent after : Palettes) (had left : Lengths) (r : OpenedHeader) : Type 0 where
  pub leaves : after ≡ buffers_of (loading h file lent)
  pub apart : agrees h file ≡ false → (r ≡ refused_header 17 0) × (left ≡ had)
  pub alike : agrees h file ≡ true
      → opened_by r left.chunk left.color_ends left.color_sels left.alpha_ends left.alpha_sels ≡ to_opened (loading h file lent)
