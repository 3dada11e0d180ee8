-- The blocks of a level by their position and the script (document 01, Chunks): each palette index is the sum of its plane's deltas of
-- its kind so far, modulo the palette's size.
use Rattle.std.specs.Prelude.{ℕ, zero, suc, ◌+◌, ◌-◌, ◌/◌, ◌%◌, ◌^◌, List, [], ◌∷◌, ◌++◌, get_or, take}
use Rattle.crn_format.specs.Level.{Plane, tile_at}
use Rattle.crn_format.specs.Grid.{Shade, half, nth_list, chunk_of, position_of}
use Rattle.crn_format.specs.declared.Grid.{Grid}
use Rattle.crn_format.specs.Unpacking.{planes_of}
use Rattle.crn_laws.specs.Scripts.{Draws}
use Rattle.crn_laws.specs.Levels.{Given, grid_in, shades_in}

-- what is sent for chunk c
unfoldable pub draws_at : List Draws → ℕ → Draws
draws_at [] c = record { symbols = []; endpoints = []; selectors = [] }
draws_at (d ∷ ds) zero = d
draws_at (d ∷ ds) (suc c) = draws_at ds c

-- its encoding: three bits of the chunk symbol that is sent for the first chunk of its group of three
abbrev pub encoding_at : List Draws → ℕ → ℕ
encoding_at ds c = get_or (draws_at ds (c - c % 3)).symbols 0 0 / 8 ^ (c % 3) % 8

-- plane k's deltas in a chunk: of its endpoints, by tile, and of its selectors, by position
abbrev pub endpoint_deltas : ℕ → Draws → List ℕ
endpoint_deltas k d = nth_list d.endpoints k

unfoldable pub column : List (List ℕ) → ℕ → List ℕ
column [] k = []
column (ys ∷ yss) k = get_or ys k 0 ∷ column yss k

abbrev pub selector_deltas : ℕ → Draws → List ℕ
selector_deltas k d = column d.selectors k

unfoldable pub total : List ℕ → ℕ
total [] = 0
total (y ∷ ys) = y + total ys

-- the sum of such deltas of all chunks before chunk c, and of chunk c up to and with number t
unfoldable pub sum_up_to : (Draws → List ℕ) → List Draws → ℕ → ℕ → ℕ
unfolding total
sum_up_to deltas [] c t = 0
sum_up_to deltas (d ∷ ds) zero t = total (take (suc t) (deltas d))
sum_up_to deltas (d ∷ ds) (suc c) t = total (deltas d) + sum_up_to deltas ds c t

unfoldable pub plane_at : List Plane → ℕ → Plane
plane_at [] k = record { endpoint_deltas = []; selector_deltas = []; endpoints = 0; selectors = 0 }
plane_at (p ∷ ps) zero = p
plane_at (p ∷ ps) (suc k) = plane_at ps k

-- plane k's palette entries in the block at position q of chunk c
abbrev pub endpoint_by : List Plane → List Draws → ℕ → ℕ → ℕ → ℕ
endpoint_by ps ds c q k = sum_up_to (endpoint_deltas k) ds c (tile_at (encoding_at ds c) q) % (plane_at ps k).endpoints

abbrev pub selector_by : List Plane → List Draws → ℕ → ℕ → ℕ → ℕ
selector_by ps ds c q k = sum_up_to (selector_deltas k) ds c q % (plane_at ps k).selectors

-- the bytes of the planes from plane k on, one after another, given each plane's entries
unfoldable pub halves_by : List Shade → (ℕ → ℕ) → (ℕ → ℕ) → ℕ → List ℕ
unfolding half
halves_by [] endpoint selector k = []
halves_by (p ∷ ps) endpoint selector k = half p (endpoint k) (selector k) ++ halves_by ps endpoint selector (k + 1)

-- the block in column x and row y of face f
unfoldable pub block_by : Grid → List Shade → List Plane → List Draws → ℕ → ℕ → ℕ → List ℕ
unfolding halves_by
block_by g shades ps ds f x y =
    halves_by shades (endpoint_by ps ds (chunk_of g f x y) (position_of x y)) (selector_by ps ds (chunk_of g f x y) (position_of x y)) 0

abbrev pub blocks_by : Given → List Draws → ℕ → ℕ → ℕ → List ℕ
blocks_by v ds = block_by (grid_in v) (shades_in v) (planes_of v.opened) ds
