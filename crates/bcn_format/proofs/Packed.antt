-- The bytes of a texel in one number. Assumes nothing.
use mathlib.Core.Path.{◌≡◌}
use mathlib.Core.List.{[], ◌∷◌}
use Prim.Native.Nat.{ℕ, ◌+◌, ◌*◌, ◌/◌, ◌%◌, ◌<◌}
use native.Mathlib.Omega.{arith}
use Rattle.crn_format.specs.Grid.{little}
use Rattle.bcn_format.specs.Packed.{packed}

pub packed-bytes : (r g b a : ℕ) → r < 256 → g < 256 → b < 256 → a < 256 → little 4 (packed r g b a) ≡ r ∷ g ∷ b ∷ a ∷ []
unfolding little
packed-bytes r g b a hr hg hb ha =
    let nested : packed r g b a ≡ r + 256 * (g + 256 * (b + 256 * a)) = omega arith in
    let last : a % 256 ≡ a = omega arith in
    rw (nested, low r (g + 256 * (b + 256 * a)) hr, high r (g + 256 * (b + 256 * a)) hr)
    (rw (low g (b + 256 * a) hg, high g (b + 256 * a) hg, low b a hb, high b a hb, last))
  where
    low : (x y : ℕ) → x < 256 → (x + 256 * y) % 256 ≡ x
    low x y h = omega arith

    high : (x y : ℕ) → x < 256 → (x + 256 * y) / 256 ≡ y
    high x y h = omega arith
