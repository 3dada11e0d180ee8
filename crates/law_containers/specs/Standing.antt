-- What stands in a container after a writing (document 02, request 1), whatever the container's plan: "the written blocks are those of
-- demand 3, level by level, each level with the full symbol allowance"; or zeros, after a level's refusal.
use Rattle.std.specs.Prelude.{ℕ, ◌+◌, ◌%◌, ◌≤◌, ◌<◌, ◌≡◌, true, false, ◌⊎◌, List, [], ◌∷◌, ◌++◌, length, get_or, drop, replicate}
use Rattle.crn_format.specs.Header.{kind_of, within_limits}
use Rattle.crn_format.specs.Opening.{Palettes}
use Rattle.crn_format.specs.Grid.{place_of}
use Rattle.crn_format.specs.Unpacking.{grid_of, tables_hold, level_stands, palettes_reach, cutout_count, declined}
use Rattle.crn_format.specs.declared.Header.{Header}
use Rattle.crn_format.specs.declared.Record.{Record}
use Rattle.crn_format.specs.declared.Grid.{Grid}
use Rattle.crn_blocks.specs.Sheet.{In}
use Rattle.crn_sizes.specs.Sizes.{level_sizes}
use Rattle.crn_laws.specs.Scripts.{Draws}
use Rattle.crn_laws.specs.Levels.{Given, unpacking_in, ScriptOf, symbols_of}
use Rattle.crn_laws.specs.Blocks.{blocks_by}
use Rattle.crn_laws_total.specs.Refusals.{among}
use Rattle.crn_laws_total.specs.Ends.{sum_of}
use Rattle.picture.specs.declared.Picture.{Picture}
use Rattle.picture.specs.Kinds.{goes_out}
use Rattle.picture.specs.Surfaces.{Plan, place_in, surface}
use Rattle.picture.specs.Writing.{Sums, Stop, Container, Writing, written, refused}

-- ---- places

-- byte i is one of level l of face f
pub record InSurface (pl : Plan) (p : Picture) (f l i : ℕ) : Type 0 where
  pub face : f < p.faces
  pub level : l < p.levels
  pub starts : place_in pl f l ≤ i
  pub ends : i < place_in pl f l + surface p l

-- a plan's places: each surface lies behind the head and in the whole, those of two levels lie apart, and faces lie far enough from each
-- other
pub record Sound (p : Picture) (head : ℕ) (pl : Plan) : Type 0 where
  pub headed : (f l : ℕ) → f < p.faces → l < p.levels → head ≤ place_in pl f l
  pub within : (f l : ℕ) → f < p.faces → l < p.levels → place_in pl f l + surface p l ≤ pl.total
  pub apart : (f g l m : ℕ) → f < p.faces → g < p.faces → l < p.levels → m < p.levels → (l ≡ m → ⊥)
      → (place_in pl f l + surface p l ≤ place_in pl g m) ⊎ (place_in pl g m + surface p m ≤ place_in pl f l)
  pub far : (l : ℕ) → l < p.levels → surface p l ≤ pl.step l
  pub fours : (l : ℕ) → pl.step l % 4 ≡ 0

-- what a container sets besides the blocks is in no surface
pub record Stamps (p : Picture) (c : Container) : Type 0 where
  pub long : (cutouts : ℕ) (d : List ℕ) → length (c.stamp cutouts d) ≡ length d
  pub surfaces : (cutouts : ℕ) (d : List ℕ) → c.plan.total ≤ length d → (f l i : ℕ) → InSurface c.plan p f l i
      → get_or (c.stamp cutouts d) i 0 ≡ get_or d i 0

-- the grid of level l in its place
abbrev pub grid_at : Plan → Header → ℕ → Grid
grid_at pl h l = grid_of h l (level_sizes h l).pitch (pl.step l)

-- byte i is byte k of the block in column x and row y of level l of face f
pub record InBlock (pl : Plan) (h : Header) (i : ℕ) : Type 0 where
  pub face : ℕ
  pub level : ℕ
  pub column : ℕ
  pub row : ℕ
  pub byte : ℕ
  pub number : level < h.levels
  pub block : In (grid_at pl h level) face column row
  pub small : byte < (grid_at pl h level).bytes
  pub here : i ≡ pl.from level + (place_of (grid_at pl h level) face column row + byte)

-- a level's refusals in its stream when it has its full allowance: 15 is not among them
abbrev pub full_stream : List ℕ
full_stream = 7 ∷ 8 ∷ 13 ∷ 14 ∷ []

-- all by which a level is refused in a container
abbrev pub level_numbers : List ℕ
level_numbers = 4 ∷ 5 ∷ full_stream

-- ---- levels

module _ (pl : Plan) (r : Record) (file : List ℕ) (p : Palettes) where
  -- what unpacking level l into its place in dst is given
  abbrev pub given_at : List ℕ → ℕ → Given
  given_at dst l =
      record {
        opened = r;
        file = file;
        palettes = p;
        number = l;
        pitch = (level_sizes r.header l).pitch;
        distance = pl.step l;
        destination = drop (pl.from l) dst;
      }

  -- the same with no output: scripts, their symbols and their blocks do not depend on it
  abbrev pub level_at : ℕ → Given
  level_at l = given_at [] l

  -- level l can be unpacked: its segment stands (4), the palettes reach (5), and ds are a script of it (7, 8, 13, 14)
  pub record Fair (l : ℕ) (ds : List Draws) : Type 0 where
    pub segment : level_stands file r.header l ≡ true
    pub palettes : palettes_reach r.header p ≡ true
    pub script : ScriptOf (level_at l) ds

  -- and in d each of its blocks is the one that its position and the script give
  pub record Stands (d : List ℕ) (l : ℕ) (ds : List Draws) : Type 0 where
    pub fair : Fair l ds
    pub blocks : (f x y k : ℕ) → In (grid_at pl r.header l) f x y → k < (grid_at pl r.header l).bytes
        → get_or d (pl.from l + (place_of (grid_at pl r.header l) f x y + k)) 0 ≡ get_or (blocks_by (level_at l) ds f x y) k 0

  -- the symbols of a script of level l, and the cut-outs among the blocks that it gives
  abbrev pub symbols_by : ℕ → List Draws → ℕ
  symbols_by l ds = length (symbols_of (level_at l) ds)

  abbrev pub cutouts_by : ℕ → List Draws → ℕ
  cutouts_by l ds = cutout_count (kind_of r.header.format) (grid_at pl r.header l) (blocks_by (level_at l) ds)

  -- so many symbols and cut-outs are in the first n levels, with these scripts
  pub record Counted (scripts : ℕ → List Draws) (n : ℕ) (t : Sums) : Type 0 where
    pub symbols : t.symbols ≡ sum_of n (λ l. symbols_by l (scripts l))
    pub cutouts : t.cutouts ≡ sum_of n (λ l. cutouts_by l (scripts l))

  -- why level l is refused, and by which number: its segment does not stand, or else the palettes do not reach, or else it has no script
  pub data Unfair (l : ℕ) : ℕ → Type 0 where
    segment : level_stands file r.header l ≡ false → Unfair l 4
    palettes : level_stands file r.header l ≡ true → palettes_reach r.header p ≡ false → Unfair l 5
    script : {n : ℕ} → level_stands file r.header l ≡ true → palettes_reach r.header p ≡ true → among n full_stream ≡ true
        → ((ds : List Draws) → ScriptOf (level_at l) ds → ⊥) → Unfair l n

  -- a level was refused, after others that can be unpacked: by what its own unpacking answers, in its place in an output of the right
  -- length. The symbols are those of the levels before it, by their scripts, and those that it has drawn itself
  pub record Stops (s : Stop) : Type 0 where
    pub number : s.level < r.header.levels
    pub scripts : ℕ → List Draws
    pub before : (l : ℕ) → l < s.level → Fair l (scripts l)
    pub output : List ℕ
    pub long : length output ≡ pl.total
    pub drawn : ℕ
    pub rest : List ℕ
    pub answers : unpacking_in (given_at output s.level) (level_sizes r.header s.level).symbols
        ≡ declined s.refusal drawn s.bit rest
    pub symbols : s.symbols ≡ sum_of s.level (λ l. symbols_by l (scripts l)) + drawn

-- ---- the whole

-- what is tested before any byte is written
pub record Checked (c : Container) (r : Record) (dst : List ℕ) : Type 0 where
  pub limits : within_limits r.header ≡ true
  pub tables : tables_hold r.tables ≡ true
  pub out : goes_out r.header.format ≡ true
  pub room : c.plan.total ≤ length dst

-- they hold, and every level can be unpacked
pub record Writable (c : Container) (r : Record) (file : List ℕ) (p : Palettes) (dst : List ℕ) : Type 0 where
  pub checked : Checked c r dst
  pub levels : (l : ℕ) → l < r.header.levels → (ds : List Draws) × Fair c.plan r file p l ds

-- a container was written, n bytes of dst, with so many symbols and cut-outs: every level stands in its place by its script, and what
-- lies beyond is as before
pub record Standing (c : Container) (r : Record) (file : List ℕ) (p : Palettes) (dst : List ℕ) (n : ℕ) (t : Sums) (after : List ℕ)
    : Type 0 where
  pub checked : Checked c r dst
  pub bytes : n ≡ c.plan.total
  pub long : length after ≡ length dst
  pub scripts : ℕ → List Draws
  pub levels : (l : ℕ) → l < r.header.levels → Stands c.plan r file p after l (scripts l)
  pub counted : Counted c.plan r file p scripts r.header.levels t
  pub beyond : (i : ℕ) → c.plan.total ≤ i → get_or after i 0 ≡ get_or dst i 0

-- "2 and 6 on the record first, then 16 any other format, then 12"
pub data Early (c : Container) (r : Record) (dst : List ℕ) : ℕ → Type 0 where
  limits : within_limits r.header ≡ false → Early c r dst 2
  tables : within_limits r.header ≡ true → tables_hold r.tables ≡ false → Early c r dst 6
  format : within_limits r.header ≡ true → tables_hold r.tables ≡ true → goes_out r.header.format ≡ false → Early c r dst 16
  room : within_limits r.header ≡ true → tables_hold r.tables ≡ true → goes_out r.header.format ≡ true
      → length dst < c.plan.total → Early c r dst 12

abbrev pub early_numbers : List ℕ
early_numbers = 2 ∷ 6 ∷ 16 ∷ 12 ∷ []

-- refused so, "all before any byte is written": no level and no bit is named, and no symbol was drawn
pub record Untouched (c : Container) (r : Record) (dst : List ℕ) (s : Stop) (after : List ℕ) : Type 0 where
  pub same : after ≡ dst
  pub level : s.level ≡ 0
  pub bit : s.bit ≡ 0
  pub symbols : s.symbols ≡ 0
  pub why : Early c r dst s.refusal

-- "a level's later refusal zeroes the whole output region": it is the first level that cannot be unpacked, and what lies beyond is as
-- before
pub record Zeroed (c : Container) (r : Record) (file : List ℕ) (p : Palettes) (dst : List ℕ) (s : Stop) (after : List ℕ) : Type 0 where
  pub checked : Checked c r dst
  pub zeros : after ≡ replicate c.plan.total 0 ++ drop c.plan.total dst
  pub stops : Stops c.plan r file p s
  pub why : Unfair c.plan r file p s.level s.refusal

-- how a writing ends
abbrev pub Refuses : Container → Record → List ℕ → Palettes → List ℕ → Stop → List ℕ → Type 0
Refuses c r file p dst s after = Untouched c r dst s after ⊎ Zeroed c r file p dst s after

abbrev pub WritingEnds : Container → Record → List ℕ → Palettes → List ℕ → Writing → Type 0
WritingEnds c r file p dst (written n t after) = Standing c r file p dst n t after
WritingEnds c r file p dst (refused s after) = Refuses c r file p dst s after
