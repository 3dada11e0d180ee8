-- Which texels have been drawn, in the order of the blocks: a stretch is a row of a block, up to four texels.
use Rattle.std.specs.Prelude.{ℕ, ◌+◌, ◌*◌, ◌/◌, ◌%◌, ◌≤◌, ◌<◌, true, ◌≡◌, ◌⊎◌, List, length, get_or}
use Rattle.crn_format.specs.Grid.{blocks, little}
use Rattle.crn_format.specs.declared.Kind.{Kind}
use Rattle.crn_format.specs.Header.{known}
use Rattle.crn_format.specs.Limits.{max_side}
use Rattle.bcn_format.specs.Picture.{texel_place, enough, reach}
use Rattle.bcn_format.specs.declared.Face.{Face}

-- a texel of the face
pub record In (s : Face) (x y : ℕ) : Type 0 where
  pub column : x < s.width
  pub row : y < s.height

-- byte k is one of its four
pub record Within (s : Face) (x y k : ℕ) : Type 0 where
  pub starts : texel_place s x y ≤ k
  pub ends : k < texel_place s x y + 4

-- the stretch that it lies in
unfoldable pub stretch : Face → ℕ → ℕ → ℕ
stretch s x y = 4 * (y / 4 * blocks s.width + x / 4) + y % 4

-- from d to e the texels of the stretches from a up to b are drawn, and nothing else is touched
pub record Drawn (s : Face) (value : ℕ → ℕ → List ℕ) (a b : ℕ) (d e : List ℕ) : Type 0 where
  pub long : length e ≡ length d
  pub drawn : (x y i : ℕ) → In s x y → i < 4 → a ≤ stretch s x y → stretch s x y < b → get_or e (texel_place s x y + i) 0 ≡ get_or
      (value x y) i 0
  pub kept : (k : ℕ) → ((x y : ℕ) → In s x y → a ≤ stretch s x y → stretch s x y < b → Within s x y k → ⊥) → get_or e k 0 ≡ get_or d k 0

-- a buffer has room for the face, and no two of its texels overlap
pub record Room (s : Face) (room : ℕ) : Type 0 where
  pub few_columns : s.width ≤ max_side
  pub few_rows : s.height ≤ max_side
  pub narrow : 4 * s.width ≤ s.pitch
  pub all : reach s ≤ room

-- so many bytes are blocks enough, of a format that is known
pub record Given (kind : Kind) (s : Face) (given : ℕ) : Type 0 where
  pub kind_known : known kind ≡ true
  pub all : enough kind s ≤ given

-- a block of the face
pub record Block (s : Face) (x y : ℕ) : Type 0 where
  pub column : x < blocks s.width
  pub row : y < blocks s.height

-- its number, and so the first of its stretches
abbrev pub first : Face → ℕ → ℕ → ℕ
first s x y = 4 * (y * blocks s.width + x)

-- n texels from column x on, to the end of the block or of the row
pub record Part (s : Face) (x y n : ℕ) : Type 0 where
  pub start : x % 4 ≡ 0
  pub row : y < s.height
  pub some : x < s.width
  pub few : n ≤ 4
  pub within : x + n ≤ s.width
  pub whole : (n ≡ 4) ⊎ (s.width ≡ x + n)

-- the bytes of texel t of a block's sixteen, and of a row's four
abbrev pub in_block : (ℕ → ℕ) → ℕ → ℕ → List ℕ
in_block f x y = little 4 (f (4 * (y % 4) + x % 4))

abbrev pub in_row : (ℕ → ℕ) → ℕ → ℕ → List ℕ
in_row f x y = little 4 (f (x % 4))
