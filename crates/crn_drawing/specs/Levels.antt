-- What the functions that draw a level ask and give.
use Rattle.std.specs.Prelude.{ℕ, ◌-◌, ◌<◌, ◌≡◌, true, List, length}
use Rattle.crn_format.specs.Limits.{too_long}
use Rattle.crn_format.specs.Reading.{start, run}
use Rattle.crn_format.specs.declared.Kind.{Kind}
use Rattle.crn_format.specs.Header.{kind_of, has_color, has_alpha, block_bytes, within_limits}
use Rattle.crn_format.specs.Level.{level}
use Rattle.crn_format.specs.Grid.{chunk_count, insides, painted, blank}
use Rattle.crn_format.specs.Opening.{Palettes}
use Rattle.crn_format.specs.Unpacking.{Unpacking, tables_hold, palettes_reach, cutout_count, ended}
use Rattle.crn_format.specs.declared.Tables.{Tables}
use Rattle.crn_format.specs.declared.Header.{Header}
use Rattle.crn_format.specs.declared.Record.{Record}
use Rattle.crn_format.specs.declared.Grid.{Grid}
use Rattle.crn_chunks.specs.Meaning.{source, planes}
use Rattle.crn_chunks.specs.declared.Stop.{Stop}
use Rattle.crn_blocks.specs.Sheet.{Room, standing}
use Rattle.crn_unpacker.specs.Going.{Given, shades}
use Rattle.crn_decoders.specs.declared.decoders.Sizes.{Sizes}
use Rattle.crn_decoders.specs.Tables.{Able, CodedTo, codes_of, tables_in}
use Rattle.crn_drawing.specs.declared.Unpacked.{Unpacked}
use Rattle.crn_drawing.specs.declared.Refused.{Refused}

-- what the checks before the first draw leave to count on: p are the lent palettes, g is the level's grid, and n bytes are lent
pub record Checked (r : Record) (seg : List ℕ) (p : Palettes) (g : Grid) (n : ℕ) : Type 0 where
  pub within : within_limits r.header ≡ true
  pub tables : tables_hold r.tables ≡ true
  pub short : length seg < too_long
  pub palettes : palettes_reach r.header p ≡ true
  pub bytes : g.bytes ≡ block_bytes (kind_of r.header.format)
  pub room : Room g n

-- ---- a level by decoder tables that are made

abbrev pub record_with : Header → Tables → Record
record_with h t = record { header = h; tables = t }

-- the codes of a record's tables, by the numbers of the decoder tables that its format has
abbrev pub codes_in : Record → ℕ → List ℕ
codes_in r = codes_of (has_alpha (kind_of r.header.format)) r.tables

abbrev pub tables_for : Header → ℕ
tables_for h = tables_in (has_color (kind_of h.format)) (has_alpha (kind_of h.format))

-- two arrays hold the decoder tables of a record within the limits (2) whose tables hold (6)
pub record Made (r : Record) (s : Sizes) (lookup sorted : List ℕ) : Type 0 where
  pub within : within_limits r.header ≡ true
  pub tables : tables_hold r.tables ≡ true
  pub able : Able s (length lookup) (length sorted)
  pub coded : CodedTo (codes_in r) (tables_for r.header) s lookup sorted

-- they hold those of some record with the header h
pub record Tabled (h : Header) (s : Sizes) (lookup sorted : List ℕ) : Type 0 where
  pub of : Tables
  pub made : Made (record_with h of) s lookup sorted

-- the level by the codes cs
abbrev pub ended_by : Kind → (ℕ → List ℕ) → Given → ℕ → List ℕ → Unpacking
ended_by k cs l budget dst =
    ended k l.grid (shades l) budget dst
    (run (source l.seg) (level (cs 0) (planes cs l.planes) (insides l.grid 0 (chunk_count l.grid))) (record { place = start; left = budget }))

-- a refusal, of a budget of which so many were there
pub record Refuses (x : Stop) (all : ℕ) (g : Grid) (after : ℕ) (d e : List ℕ) (r : Refused) : Type 0 where
  pub answer : r ≡ record { refusal = x.refusal; symbols = all - x.left; at = x.at }
  pub budget : after ≡ x.left
  pub cleared : e ≡ painted g (blank g) g.faces d

pub record Finishes (left all : ℕ) (k : Kind) (g : Grid) (after : ℕ) (d : List ℕ) (r : Unpacked) : Type 0 where
  pub answer : r ≡ record { symbols = all - left; cutouts = cutout_count k g (standing g d) }
  pub budget : after ≡ left
