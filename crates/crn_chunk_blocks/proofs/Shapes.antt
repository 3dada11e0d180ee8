-- A chunk that has a list of tiles and four indices for each plane: its blocks have eight bytes for each.
use Prim.Native.Nat.{ℕ, zero, suc, ◌*◌, ◌<◌}
use mathlib.Core.Path.{◌≡◌, refl, ◌∙◌}
use mathlib.Core.List.{List, [], ◌∷◌}
use native.Mathlib.Omega.{arith}
use native.Mathlib.Nat.{not-suc-le-zero}
use lib.ListN.{length, get_or, length-append}
use Rattle.crn_format.specs.Level.{Chunk, tile_at}
use Rattle.crn_format.specs.Grid.{Shade, color, alpha, half, halves, little, nth_list, block_of}

-- n lists of length m
pub data Rowed (m : ℕ) : ℕ → List (List ℕ) → Type 0 where
  none : Rowed m 0 []
  more : {n : ℕ} {r : List ℕ} {rs : List (List ℕ)} → length r ≡ m → Rowed m n rs → Rowed m (suc n) (r ∷ rs)

nth-long : {m n : ℕ} {rs : List (List ℕ)} → Rowed m n rs → (q : ℕ) → q < n → length (nth_list rs q) ≡ m
unfolding nth_list
nth-long none q h = absurd (not-suc-le-zero h)
nth-long (more g rs) zero h = g
nth-long (more g rs) (suc q) h = nth-long rs q (omega arith)

pub record Shaped (m : ℕ) (c : Chunk) : Type 0 where
  pub tiles : length c.tiles ≡ m
  pub positions : Rowed m 4 c.positions

-- ---- its blocks

pub half-long : (p : Shade) (e s : ℕ) → length (half p e s) ≡ 8
unfolding half little
half-long (color ends sels) e s = refl
half-long (alpha ends sels) e s = refl

halves_long : (ps : List Shade) (ts : List (List ℕ)) (ss : List ℕ) (tile : ℕ) → length ts ≡ length ps → length ss ≡ length ps
    → length (halves ps ts ss tile) ≡ 8 * length ps
unfolding halves
halves_long [] ts ss tile h g = refl
halves_long (p ∷ ps) [] ss tile h g = absurd (omega arith)
halves_long (p ∷ ps) (t ∷ ts) [] tile h g = absurd (omega arith)
halves_long (p ∷ ps) (t ∷ ts) (s ∷ ss) tile h g =
    length-append (half p (get_or t tile 0) s) (halves ps ts ss tile)
    ∙ omega (arith, half-long p (get_or t tile 0) s, halves_long ps ts ss tile (omega arith) (omega arith))

pub block-long : (ps : List Shade) (c : Chunk) (q : ℕ) → Shaped (length ps) c → q < 4 → length (block_of ps c q) ≡ 8 * length ps
unfolding block_of
block-long ps c q shaped h =
    halves_long ps c.tiles (nth_list c.positions q) (tile_at c.encoding q) shaped.tiles (nth-long shaped.positions q h)
