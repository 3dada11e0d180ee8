-- A plane's eight bytes: the number of 64 bits that has them is fixed.
use Prim.Native.Nat.{ℕ, zero, suc, ◌/◌, ◌%◌, ◌^◌, ◌<◌}
use mathlib.Core.Path.{◌≡◌}
use native.Mathlib.Nat.{pow-suc}
use native.Mathlib.Omega.{arith}
use Rattle.crn_format.specs.Grid.{little}
use Rattle.crn_blocks.proofs.color_half.Reads as color-half
use Rattle.crn_blocks.proofs.alpha_half.Reads as alpha-half
use Rattle.crn_laws_results.specs.Settled.{SettledIf, the_answer, alike}

-- numbers of n bytes that have the same bytes
pub little_tells : (n v w : ℕ) → v < 256 ^ n → w < 256 ^ n → little n v ≡ little n w → v ≡ w
unfolding little
little_tells zero v w h k e = omega arith
little_tells (suc n) v w h k e =
    let low : v % 256 ≡ w % 256 = cc in
    let rest : little n (v / 256) ≡ little n (w / 256) = cc in
    let high : v / 256 ≡ w / 256 = little_tells n (v / 256) (w / 256) (omega (arith, pow-suc 256 n)) (omega (arith, pow-suc 256 n)) rest in
    omega arith

-- the answer is a u64
abbrev Word : {A : Type 0} → A → ℕ → Type 0
Word a r = r < 256 ^ 8

pub color_half-settled : SettledIf Word color-half.Post the_answer
color_half-settled _ _ _ r s _ _ h k p q = little_tells 8 r s h k (alike p q)

pub alpha_half-settled : SettledIf Word alpha-half.Post the_answer
alpha_half-settled _ _ _ r s _ _ h k p q = little_tells 8 r s h k (alike p q)
