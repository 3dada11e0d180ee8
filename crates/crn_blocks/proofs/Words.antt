-- The bytes of a number that is made of words, and so the halves of a block. Assumes nothing.
use mathlib.Core.Path.{◌≡◌, ap, ◌∙◌}
use mathlib.Core.List.{List, ◌++◌}
use Prim.Native.Nat.{ℕ, zero, suc, ◌+◌, ◌*◌, ◌/◌, ◌%◌, ◌^◌, ◌<◌}
use native.Mathlib.Nat.{zero-add, suc-add, pow-succ', mul_assoc}
use native.Mathlib.Omega.{arith}
use lib.ListN.{get_or}
use Rattle.crn_format.specs.Grid.{little, half, color, alpha}
use Rattle.crn_blocks.specs.Halves.{Half}

-- a low word of m bytes, and above it what follows it
pub two_words : (m n low high : ℕ) → low < 256 ^ m → little (m + n) (low + 256 ^ m * high) ≡ little m low ++ little n high
unfolding little
two_words zero n low high h =
    let e : low + 1 * high ≡ high = omega arith in
    rw (zero-add, e)
two_words (suc m) n low high h =
    let above : low + 256 ^ suc m * high ≡ low + 256 * (256 ^ m * high) = rw (pow-succ', mul_assoc) in
    let low_byte : (low + 256 * (256 ^ m * high)) % 256 ≡ low % 256 = omega arith in
    let others : (low + 256 * (256 ^ m * high)) / 256 ≡ low / 256 + 256 ^ m * high = omega arith in
    rw (suc-add, above, low_byte, others, two_words m n (low / 256) high (omega (arith, pow-succ' 256 m)))

-- the halves of a block, by their words
pub color_words : (ends sels : List ℕ) (e s a b : ℕ) → a ≡ get_or ends e 0 → a < 4294967296 → b ≡ get_or sels s 0
    → Half (color ends sels) e s (a + 4294967296 * b)
unfolding half
color_words ends sels e s a b is few is₂ = two_words 4 4 a b few ∙ ap (λ (v : ℕ). little 4 v ++ little 4 b) is ∙ ap
    (λ (v : ℕ). little 4 (get_or ends e 0) ++ little 4 v) is₂

pub alpha_words : (ends sels : List ℕ) (e s a b c d r : ℕ) → r ≡ a + 65536 * (b + 65536 * (c + 65536 * d))
    → (a ≡ get_or ends e 0) × (a < 65536) → (b ≡ get_or sels (3 * s) 0) × (b < 65536)
    → (c ≡ get_or sels (3 * s + 1) 0) × (c < 65536) → d ≡ get_or sels (3 * s + 2) 0
    → Half (alpha ends sels) e s r
unfolding half
alpha_words ends sels e s a b c d r whole ha hb hc hd =
    rw (
      whole,
      two_words 2 6 a (b + 65536 * (c + 65536 * d)) ha.1,
      two_words 2 4 b (c + 65536 * d) hb.1,
      two_words 2 2 c d hc.1,
      ha.0,
      hb.0,
      hc.0,
      hd,
    )
