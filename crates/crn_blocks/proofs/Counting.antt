-- Cut-outs counted in the destination, a block at a time. Assumes nothing.
use mathlib.Core.Path.{◌≡◌, ◌∙◌}
use mathlib.Core.List.{List}
use Prim.Native.Nat.{ℕ, ◌+◌, ◌*◌, ◌≤◌, ◌<◌}
use native.Mathlib.Nat.{zero-mul, add-zero}
use native.Mathlib.Numerals.{add-one}
use native.Mathlib.Omega.{arith}
use borrow.Author.Tests.{lt-ltb, le-ltb}
use lib.Dec.{ltb}
use lib.ListN.{get_or, drop}
use lib.Seq.{get_or-take, get_or-drop}
use Rattle.crn_format.specs.Choice.{pick}
use Rattle.crn_format.specs.Grid.{place_of, word, row_cutouts}
use Rattle.crn_format.specs.declared.Grid.{Grid}
use Rattle.crn_blocks.specs.Sheet.{In, Room, standing}
use Rattle.crn_blocks.proofs.Places.{lies, Lies}

-- a row's first block
pub place-first : (g : Grid) (f y : ℕ) → f * g.distance + y * g.pitch ≡ place_of g f 0 y
place-first g f y = omega (arith, zero-mul g.bytes)

-- the number of two bytes, the first the lower
abbrev pub pair_at : List ℕ → ℕ → ℕ
pair_at d at = get_or d at 0 + 256 * get_or d (at + 1) 0

module _ {g : Grid} (d : List ℕ) {n f x y : ℕ} (room : Room g n) (at : In g f x y) where
  standing-at : (i : ℕ) → i < 8 → get_or (standing g d f x y) i 0 ≡ get_or d (place_of g f x y + i) 0
  standing-at i h =
      let l : Lies g f x y n = lies room at in
      get_or-take g.bytes (drop (place_of g f x y) d) i 0 (omega arith) ∙ get_or-drop (place_of g f x y) d i 0

  first_word : word (standing g d f x y) 0 ≡ pair_at d (place_of g f x y)
  first_word = rw (standing-at 0 (omega arith), standing-at 1 (omega arith), add-zero)

  second_word : word (standing g d f x y) 2 ≡ pair_at d (place_of g f x y + 2)
  second_word =
      let next : place_of g f x y + 2 + 1 ≡ place_of g f x y + 3 = omega arith in
      rw (standing-at 2 (omega arith), standing-at 3 (omega arith), next)

  next : row_cutouts (standing g d) f y (x + 1) ≡ row_cutouts (standing g d) f y x + pick
      (ltb (pair_at d (place_of g f x y)) (pair_at d (place_of g f x y + 2))) 1 0
  unfolding row_cutouts
  next = rw (add-one, first_word, second_word)

  module _ {p a b : ℕ} (is : p ≡ place_of g f x y) (first : a ≡ pair_at d p) (second : b ≡ pair_at d (p + 2)) where
    next_by : row_cutouts (standing g d) f y (x + 1) ≡ row_cutouts (standing g d) f y x + pick (ltb a b) 1 0
    next_by = rw (first, second, is) next

    pub one_more : a < b → row_cutouts (standing g d) f y (x + 1) ≡ row_cutouts (standing g d) f y x + 1
    one_more h = rw (lt-ltb a b h) at next_by

    pub no_more : b ≤ a → row_cutouts (standing g d) f y (x + 1) ≡ row_cutouts (standing g d) f y x
    no_more h = rw (le-ltb a b h, add-zero) at next_by
