-- What a call leaves in what it was lent, word by word and byte by byte: b before it, a after it.
use Rattle.std.specs.Prelude.{ℕ, ◌+◌, ◌≤◌, ◌<◌, ◌⊎◌, List, ◌≡◌, length, get_or}
use Rattle.crn_format.specs.Grid.{place_of}
use Rattle.crn_format.specs.declared.Grid.{Grid}
use Rattle.crn_blocks.specs.Sheet.{In}

-- every word is zero, to the end
pub record Zeroed (b a : List ℕ) : Type 0 where
  pub long : length a ≡ length b
  pub zero : (i : ℕ) → i < length b → get_or a i 0 ≡ 0

-- n words were written, and what lies beyond them is as before
pub record Beyond (n : ℕ) (b a : List ℕ) : Type 0 where
  pub fits : n ≤ length b
  pub long : length a ≡ length b
  pub same : (i : ℕ) → n ≤ i → get_or a i 0 ≡ get_or b i 0

-- byte i is one of a block of the grid
pub record InBlock (g : Grid) (i : ℕ) : Type 0 where
  pub face : ℕ
  pub column : ℕ
  pub row : ℕ
  pub byte : ℕ
  pub block : In g face column row
  pub small : byte < g.bytes
  pub here : i ≡ place_of g face column row + byte

-- byte k of the block in column x and row y of face f is `byte f x y k`, and every other byte is as before
pub record Leaves (g : Grid) (byte : ℕ → ℕ → ℕ → ℕ → ℕ) (b a : List ℕ) : Type 0 where
  pub long : length a ≡ length b
  pub fits : (f x y : ℕ) → In g f x y → place_of g f x y + g.bytes ≤ length b
  pub blocks : (f x y k : ℕ) → In g f x y → k < g.bytes → get_or a (place_of g f x y + k) 0 ≡ byte f x y k
  pub others : (i : ℕ) → (InBlock g i → ⊥) → get_or a i 0 ≡ get_or b i 0
  pub each : (i : ℕ) → InBlock g i ⊎ (InBlock g i → ⊥)
