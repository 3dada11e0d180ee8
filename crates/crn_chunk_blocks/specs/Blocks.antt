-- The block at each position of a chunk that was read, and what placing it asks.
use Rattle.std.specs.Prelude.{ℕ, ◌+◌, ◌%◌, ◌<◌, ◌≡◌, Bool, true, List, [], ◌++◌, get_or}
use Rattle.crn_format.specs.Choice.{pick}
use Rattle.crn_format.specs.Level.{tile_at}
use Rattle.crn_format.specs.Grid.{Shade, color, alpha, half, block_of}
use Rattle.crn_format.specs.Opening.{Palettes}
use Rattle.crn_format.specs.declared.Grid.{Grid}
use Rattle.crn_chunks.specs.Meaning.{row, chunk_of}
use Rattle.crn_chunks.specs.Reads.{inside_of}
use Rattle.crn_chunks.specs.declared.Side.{Side}
use Rattle.crn_chunks.specs.declared.Planes.{Planes}
use Rattle.crn_blocks.specs.Sheet.{Room}
use Rattle.crn_blocks.specs.Halves.{Has, Reach}

-- a plane's palettes
unfoldable pub shade_of : Palettes → Side → Shade
shade_of p s = pick s.alpha (alpha p.alpha_ends p.alpha_sels) (color p.color_ends p.color_sels)

-- they have as many entries as the plane says
abbrev pub Reaches : Palettes → Side → Type 0
Reaches p s = Reach (shade_of p s) s.endpoints s.selectors

-- the block at position q of a chunk that has these indices, whose tile is given
abbrev pub block_with : Palettes → Planes → List ℕ → ℕ → ℕ → List ℕ
block_with p ps out tile q =
    half (shade_of p ps.first) (get_or out tile 0) (get_or out (8 + q) 0)
    ++ pick ps.two (half (shade_of p ps.second) (get_or out (4 + tile) 0) (get_or out (12 + q) 0)) []

-- the same by the chunk's encoding; the position is that of turn t
unfoldable pub block_in : Palettes → Planes → ℕ → List ℕ → ℕ → List ℕ
unfolding shade_of chunk_of block_of
block_in p ps e out t =
    block_of (row ps.two (shade_of p ps.first) (shade_of p ps.second)) (chunk_of ps.two e out) (t % 4)

-- an encoding's blocks can be put into n bytes
pub record Placeable (ps : Planes) (g : Grid) (e n : ℕ) : Type 0 where
  pub bytes : g.bytes ≡ pick ps.two 16 8
  pub room : Room g n
  pub known : e < 8

-- the palettes have the entries of the block at position q, whose tile is given
pub record Filled (p : Palettes) (ps : Planes) (out : List ℕ) (tile q : ℕ) : Type 0 where
  pub first : Has (shade_of p ps.first) (get_or out tile 0) (get_or out (8 + q) 0)
  pub second : ps.two ≡ true → Has (shade_of p ps.second) (get_or out (4 + tile) 0) (get_or out (12 + q) 0)

-- the same for each position inside the grid
abbrev pub AllFilled : Palettes → Planes → ℕ → List ℕ → Bool → Bool → Type 0
AllFilled p ps e out right bottom = (q : ℕ) → q < 4 → get_or (inside_of right bottom) q true ≡ true → Filled p ps out (tile_at e q) q
