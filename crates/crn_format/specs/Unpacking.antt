-- Unpacking a level (document 01, Refusal numbers): what is checked before the first draw, what is drawn, and what the destination then
-- holds.
use Rattle.std.specs.Prelude.{ℕ, ◌+◌, ◌*◌, ◌-◌, ◌/◌, ◌%◌, Bool, true, List, [], ◌∷◌, length, get_or, take, leb, ltb, eqb}
use Rattle.crn_format.specs.Choice.{pick, both, either}
use Rattle.crn_format.specs.Limits.{max_symbols, too_long}
use Rattle.crn_format.specs.Codes.{is_code}
use Rattle.crn_format.specs.Reading.{Reading, Step, got, refused, Spending, start, run, from_bits, budgeted}
use Rattle.crn_format.specs.declared.Kind.{Kind}
use Rattle.crn_format.specs.declared.Kind.TheVariants.{DXT1, DXT5, DXT5A, DXN, Unknown}
use Rattle.crn_format.specs.Header.{kind_of, has_color, has_alpha, block_bytes, within_limits}
use Rattle.crn_format.specs.Opening.{Palettes, segment}
use Rattle.crn_format.specs.Level.{Plane, Chunk, level}
use Rattle.crn_format.specs.Grid.{Shade, color, alpha, pixels, blocks, chunk_count, insides, block_at, painted, blank, cutouts}
use Rattle.crn_format.specs.declared.Table.{Table}
use Rattle.crn_format.specs.declared.Tables.{Tables}
use Rattle.crn_format.specs.declared.Header.{Header}
use Rattle.crn_format.specs.declared.Record.{Record}
use Rattle.crn_format.specs.declared.Grid.{Grid}

-- ---- the checks before the first draw, each with its refusal

-- the lengths of a record's table; what lies at and beyond the count has no say
abbrev pub lengths_of : Table → List ℕ
lengths_of t = take t.count t.lengths

-- a table has no codes, or lengths that make a code (6)
abbrev pub table_holds : Table → Bool
table_holds t = both (leb t.count max_symbols) (either (eqb t.count 0) (is_code (lengths_of t)))

unfoldable pub tables_hold : Tables → Bool
tables_hold t =
    both (table_holds t.chunk_encoding)
    (both (table_holds t.color_endpoint_delta)
    (both (table_holds t.color_selector_delta)
    (both (table_holds t.alpha_endpoint_delta) (table_holds t.alpha_selector_delta))))

-- "Its segment, by the record's offsets, runs from its own to the next level's, the last to the end of the lent file"
abbrev pub level_start : Header → ℕ → ℕ
level_start h n = get_or h.level_offsets n 0

abbrev pub level_end : List ℕ → Header → ℕ → ℕ
level_end file h n = pick (ltb (n + 1) h.levels) (get_or h.level_offsets (n + 1) 0) (length file)

-- a segment that is not empty and lies in the file, which is 4,294,967,295 bytes long at most (4)
unfoldable pub level_stands : List ℕ → Header → ℕ → Bool
level_stands file h n =
    both (ltb (level_start h n) (level_end file h n)) (both (leb (level_end file h n) (length file)) (ltb (length file) too_long))

abbrev pub level_segment : List ℕ → Header → ℕ → List ℕ
level_segment file h n = segment file (level_start h n) (level_end file h n - level_start h n)

-- the palettes that the format uses are long enough (5)
unfoldable pub palettes_reach : Header → Palettes → Bool
palettes_reach h p =
    both (need (has_color kind) (leb h.color_endpoints.count (length p.color_ends)))
    (both (need (has_color kind) (leb h.color_selectors.count (length p.color_sels)))
    (both (need (has_alpha kind) (leb h.alpha_endpoints.count (length p.alpha_ends)))
    (need (has_alpha kind) (leb (3 * h.alpha_selectors.count) (length p.alpha_sels)))))
  where
    kind : Kind
    kind = kind_of h.format

    need : Bool → Bool → Bool
    need uses holds = pick uses holds true

unfoldable pub grid_of : Header → ℕ → ℕ → ℕ → Grid
grid_of h n pitch distance =
    record {
      faces = h.faces;
      columns = blocks (pixels h.width n);
      rows = blocks (pixels h.height n);
      bytes = block_bytes (kind_of h.format);
      pitch = pitch;
      distance = distance;
    }

-- "Pitch and distance are multiples of 4; pitch covers a row of blocks, distance covers all block rows times pitch" (11)
abbrev pub grid_fits : Grid → Bool
grid_fits g =
    both (eqb (g.pitch % 4) 0)
    (both (eqb (g.distance % 4) 0) (both (leb (g.columns * g.bytes) g.pitch) (leb (g.rows * g.pitch) g.distance)))

-- how many bytes the destination must hold (12)
abbrev pub reach : Grid → ℕ
reach g = (g.faces - 1) * g.distance + (g.rows - 1) * g.pitch + g.columns * g.bytes

-- ---- the planes of a block, in the order of its draws and of its bytes: "DXT5: alpha, then colour; DXN: first, then second"; "DXN's
-- planes share palettes and tables, not indices"

abbrev pub color_plane : Record → Plane
color_plane r =
    record {
      endpoint_deltas = lengths_of r.tables.color_endpoint_delta;
      selector_deltas = lengths_of r.tables.color_selector_delta;
      endpoints = r.header.color_endpoints.count;
      selectors = r.header.color_selectors.count;
    }

abbrev pub alpha_plane : Record → Plane
alpha_plane r =
    record {
      endpoint_deltas = lengths_of r.tables.alpha_endpoint_delta;
      selector_deltas = lengths_of r.tables.alpha_selector_delta;
      endpoints = r.header.alpha_endpoints.count;
      selectors = r.header.alpha_selectors.count;
    }

-- a list with an element for each plane of the format, c for colour and a for alpha
unfoldable pub per_plane : {A : Type 0} → Kind → A → A → List A
per_plane DXT1 c a = c ∷ []
per_plane DXT5 c a = a ∷ c ∷ []
per_plane DXT5A c a = a ∷ []
per_plane DXN c a = a ∷ a ∷ []
per_plane Unknown c a = []

abbrev pub planes_of : Record → List Plane
planes_of r = per_plane (kind_of r.header.format) (color_plane r) (alpha_plane r)

abbrev pub shades_of : Kind → Palettes → List Shade
shades_of k p = per_plane k (color p.color_ends p.color_sels) (alpha p.alpha_ends p.alpha_sels)

-- how many planes a format has
abbrev pub plane_count : Kind → ℕ
plane_count k = length (per_plane {A = Unit {0}} k tt tt)

-- the full symbol allowance (demand 3): eight symbols for each chunk and plane, and one for each started group of three chunks
abbrev pub allowance : ℕ → ℕ → ℕ
allowance chunks planes = 8 * (chunks * planes) + (chunks + 2) / 3

-- ---- the level

-- unpacked: the symbols drawn, the cut-out count, and the destination; declined: the refusal, the symbols drawn, the bit that it names
-- (0 before the first draw), and the destination
pub data Unpacking : Type 0 where
  unpacked : ℕ → ℕ → List ℕ → Unpacking
  declined : ℕ → ℕ → ℕ → List ℕ → Unpacking

-- DXT1 blocks are counted, "0 for other formats"
unfoldable pub cutout_count : Kind → Grid → (ℕ → ℕ → ℕ → List ℕ) → ℕ
cutout_count DXT1 g block = cutouts g block g.faces
cutout_count DXT5 g block = 0
cutout_count DXT5A g block = 0
cutout_count DXN g block = 0
cutout_count Unknown g block = 0

-- every block of every face in its place; or a refusal, which leaves every block of the grid zero; all else as before
unfoldable pub ended : Kind → Grid → List Shade → ℕ → List ℕ → Step Spending (List Chunk) → Unpacking
unfolding cutout_count
ended k g ps budget dst (got cs w) =
    unpacked (budget - w.left) (cutout_count k g (block_at g ps cs)) (painted g (block_at g ps cs) g.faces dst)
ended k g ps budget dst (refused n w) = declined n (budget - w.left) w.place.blamed (painted g (blank g) g.faces dst)

-- what is read of a level's segment: its chunks
abbrev pub level_reading : Record → Grid → Reading (List Chunk)
level_reading r g = level (lengths_of r.tables.chunk_encoding) (planes_of r) (insides g 0 (chunk_count g))

unfoldable pub drawn_level : Record → List ℕ → Palettes → Grid → ℕ → List ℕ → Unpacking
unfolding ended
drawn_level r seg p g budget dst =
    ended kind g (shades_of kind p) budget dst
    (run (budgeted (from_bits seg)) (level_reading r g) (record { place = start; left = budget }))
  where
    kind : Kind
    kind = kind_of r.header.format

-- "Level: 2, 6, 10, 4, 5, 11, 12, all before the first draw and with the destination untouched, then the stream"
unfoldable pub unpacking : Record → List ℕ → Palettes → ℕ → ℕ → ℕ → ℕ → List ℕ → Unpacking
unfolding drawn_level
unpacking r file p n pitch distance budget dst =
    pick (within_limits h)
    (pick (tables_hold r.tables)
    (pick (ltb n h.levels)
    (pick (level_stands file h n)
    (pick (palettes_reach h p)
    (pick (grid_fits g)
    (pick (leb (reach g) (length dst)) (drawn_level r (level_segment file h n) p g budget dst) (no 12))
    (no 11))
    (no 5))
    (no 4))
    (no 10))
    (no 6))
    (no 2)
  where
    h : Header
    h = r.header

    g : Grid
    g = grid_of h n pitch distance

    no : ℕ → Unpacking
    no refusal = declined refusal 0 0 dst
