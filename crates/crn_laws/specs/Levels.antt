-- A level that has passed the checks before its first draw: its scripts, and how many symbols they may have.
use Rattle.std.specs.Prelude.{ℕ, ◌≤◌, ◌<◌, ◌≡◌, true, List, length}
use Rattle.crn_format.specs.declared.Kind.{Kind}
use Rattle.crn_format.specs.Header.{kind_of, within_limits}
use Rattle.crn_format.specs.Opening.{Palettes}
use Rattle.crn_format.specs.Grid.{Shade, chunk_count, insides}
use Rattle.crn_format.specs.Unpacking.{lengths_of, tables_hold, level_stands, level_segment, palettes_reach, grid_of, grid_fits, reach, planes_of, shades_of, allowance, Unpacking, unpacked, declined, unpacking}
use Rattle.crn_format.specs.declared.Record.{Record}
use Rattle.crn_format.specs.declared.Grid.{Grid}
use Rattle.crn_laws.specs.Scripts.{symbols, Draws, level_sent, Script}

-- what unpacking a level is given, but for its budget
pub record Given : Type 0 where
  pub opened : Record
  pub file : List ℕ
  pub palettes : Palettes
  pub number : ℕ
  pub pitch : ℕ
  pub distance : ℕ
  pub destination : List ℕ

abbrev pub grid_in : Given → Grid
grid_in v = grid_of v.opened.header v.number v.pitch v.distance

abbrev pub kind_in : Given → Kind
kind_in v = kind_of v.opened.header.format

abbrev pub shades_in : Given → List Shade
shades_in v = shades_of (kind_in v) v.palettes

abbrev pub segment_in : Given → List ℕ
segment_in v = level_segment v.file v.opened.header v.number

abbrev pub unpacking_in : Given → ℕ → Unpacking
unpacking_in v budget =
    unpacking v.opened v.file v.palettes v.number v.pitch v.distance budget v.destination

-- the checks before the first draw
pub record Passes (v : Given) : Type 0 where
  pub limits : within_limits v.opened.header ≡ true
  pub tables : tables_hold v.opened.tables ≡ true
  pub number : v.number < v.opened.header.levels
  pub segment : level_stands v.file v.opened.header v.number ≡ true
  pub palettes : palettes_reach v.opened.header v.palettes ≡ true
  pub grid : grid_fits (grid_in v) ≡ true
  pub room : reach (grid_in v) ≤ length v.destination

-- ds are a script of the level
abbrev pub ScriptOf : Given → List Draws → Type 0
ScriptOf v ds =
    Script (lengths_of v.opened.tables.chunk_encoding) (planes_of v.opened) (insides (grid_in v) 0 (chunk_count (grid_in v))) (segment_in v) ds

-- its symbols, in the fixed order
abbrev pub symbols_of : Given → List Draws → List ℕ
symbols_of v ds = symbols (level_sent (lengths_of v.opened.tables.chunk_encoding) (planes_of v.opened) ds)

abbrev pub allowed : Given → ℕ
allowed v = allowance (chunk_count (grid_in v)) (length (planes_of v.opened))

-- the level is accepted
abbrev pub Accepted : Unpacking → Type 0
Accepted u = (drawn : ℕ) × (cutouts : ℕ) × (after : List ℕ) × (u ≡ unpacked drawn cutouts after)

abbrev pub RefusedBy : ℕ → Unpacking → Type 0
RefusedBy number u = (drawn : ℕ) × (bit : ℕ) × (after : List ℕ) × (u ≡ declined number drawn bit after)

-- the level tries t draws, whole or failed: a budget of fewer is refused by 15, with so many symbols drawn; any other answers as one of t
-- does, and not by 15
pub record Tries (v : Given) (t : ℕ) : Type 0 where
  pub less : (budget : ℕ) → budget < t → (bit : ℕ) × (after : List ℕ) × (unpacking_in v budget ≡ declined 15 budget bit after)
  pub ample : (budget : ℕ) → t ≤ budget → unpacking_in v budget ≡ unpacking_in v t
  pub other : RefusedBy 15 (unpacking_in v t) → ⊥
  pub few : t ≤ allowed v
