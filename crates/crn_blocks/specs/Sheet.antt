-- Where the blocks of a grid lie in the destination, in which order they are visited, and what it is that a part of them is painted.
use Rattle.std.specs.Prelude.{ℕ, ◌+◌, ◌*◌, ◌-◌, ◌%◌, ◌≤◌, ◌<◌, ◌≡◌, ◌⊎◌, List, length, get_or, take, drop, eqb}
use Rattle.crn_format.specs.Choice.{pick}
use Rattle.crn_format.specs.Grid.{chunk_columns, chunk_rows, chunk_of, position_of, place_of}
use Rattle.crn_format.specs.Unpacking.{reach}
use Rattle.crn_format.specs.declared.Grid.{Grid}

-- the block in column x and row y of the face f is one of the grid
pub record In (g : Grid) (f x y : ℕ) : Type 0 where
  pub face : f < g.faces
  pub column : x < g.columns
  pub row : y < g.rows

-- byte k lies in that block
pub record Within (g : Grid) (f x y k : ℕ) : Type 0 where
  pub starts : place_of g f x y ≤ k
  pub ends : k < place_of g f x y + g.bytes

-- n bytes have room for the grid, and no two of its blocks overlap
pub record Room (g : Grid) (n : ℕ) : Type 0 where
  pub few_faces : g.faces ≤ 6
  pub few_columns : g.columns < 65536
  pub few_rows : g.rows < 65536
  pub size : (g.bytes ≡ 8) ⊎ (g.bytes ≡ 16)
  pub pitch : g.columns * g.bytes ≤ g.pitch
  pub distance : g.rows * g.pitch ≤ g.distance
  pub all : reach g ≤ n

-- the number of the first chunk of a chunk row
abbrev pub row_start : Grid → ℕ → ℕ → ℕ
row_start g f cy = f * (chunk_rows g * chunk_columns g) + cy * chunk_columns g

-- the number of a chunk, by its column and row
abbrev pub chunk_number : Grid → ℕ → ℕ → ℕ → ℕ
chunk_number g f cx cy = row_start g f cy + pick (eqb (cy % 2) 0) cx (chunk_columns g - 1 - cx)

-- how many positions come before the one in column x and row y of the face f
unfoldable pub turn : Grid → ℕ → ℕ → ℕ → ℕ
turn g f x y = 4 * chunk_of g f x y + position_of x y

-- from d to e the blocks whose turn is from a up to b are painted with their values, and nothing else is touched
pub record Painted (g : Grid) (value : ℕ → List ℕ) (a b : ℕ) (d e : List ℕ) : Type 0 where
  pub long : length e ≡ length d
  pub drawn : (f x y i : ℕ) → In g f x y → i < g.bytes → a ≤ turn g f x y → turn g f x y < b
      → get_or e (place_of g f x y + i) 0 ≡ get_or (value (turn g f x y)) i 0
  pub kept : (k : ℕ) → ((f x y : ℕ) → In g f x y → a ≤ turn g f x y → turn g f x y < b → Within g f x y k → ⊥)
      → get_or e k 0 ≡ get_or d k 0

-- from d to e nothing outside the grid's blocks is touched
pub record Outside (g : Grid) (d e : List ℕ) : Type 0 where
  pub long : length e ≡ length d
  pub kept : (k : ℕ) → ((f x y : ℕ) → In g f x y → Within g f x y k → ⊥) → get_or e k 0 ≡ get_or d k 0

-- a chunk of those that cover the grid
pub record Covered (g : Grid) (f cx cy : ℕ) : Type 0 where
  pub face : f < g.faces
  pub column : cx < chunk_columns g
  pub row : cy < chunk_rows g

-- the bytes that stand in a block's place
abbrev pub standing : Grid → List ℕ → ℕ → ℕ → ℕ → List ℕ
standing g d f x y = take g.bytes (drop (place_of g f x y) d)
