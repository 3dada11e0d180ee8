-- The eight levels as they are computed are those of the specification: a share of the way is a little more than a seventh or a fifth of
-- it, and no level is rounded another way. A level in its place fits 32 bits. Assumes nothing.
use mathlib.Core.Path.{◌≡◌, refl, ap, ◌∙◌}
use Prim.Native.Nat.{ℕ, zero, suc, ◌+◌, ◌*◌, ◌-◌, ◌/◌, ◌≤◌, ◌<◌}
use mathlib.Core.Logic.{◌⊎◌, ⊎_elim}
use native.Mathlib.Nat.{add_comm, mul-le-mul, mul-le-mul_right}
use native.Mathlib.Omega.{arith}
use mathlib.Core.List.{[], ◌∷◌}
use lib.ListN.{get_or}
use borrow.Author.Tests.{lt-ltb, le-ltb}
use Rattle.bcn_format.specs.Channels.{between, weighed, widened, placed, byte}
use Rattle.bcn_format.specs.Blocks.{level}
use Rattle.bcn_format.proofs.Near.{sound_small}
use Rattle.bcn_format.proofs.Sound.{level_sound}

-- a table of eight, entry by entry
pub each-of_eight : (P : ℕ → Type 0) → P 0 → P 1 → P 2 → P 3 → P 4 → P 5 → P 6 → P 7 → (i : ℕ) → i < 8 → P i
each-of_eight P a b c d e f g h zero l = a
each-of_eight P a b c d e f g h (suc zero) l = b
each-of_eight P a b c d e f g h (suc (suc zero)) l = c
each-of_eight P a b c d e f g h (suc (suc (suc zero))) l = d
each-of_eight P a b c d e f g h (suc (suc (suc (suc zero)))) l = e
each-of_eight P a b c d e f g h (suc (suc (suc (suc (suc zero))))) l = f
each-of_eight P a b c d e f g h (suc (suc (suc (suc (suc (suc zero)))))) l = g
each-of_eight P a b c d e f g h (suc (suc (suc (suc (suc (suc (suc zero))))))) l = h
each-of_eight P a b c d e f g h (suc (suc (suc (suc (suc (suc (suc (suc i)))))))) l = absurd (omega arith)

-- ---- the levels as they are computed

-- so many parts of 65536 above the lower end
abbrev parts : ℕ → ℕ → ℕ
parts low far = (low * 65536 + far) / 65536

-- k shares of the way up are k of `top` parts of it, rounded down
way : (top share : ℕ) → ((low n : ℕ) → n ≤ top * 255 → parts low (n * share) ≡ (top * low + n) / top)
    → (low high k : ℕ) → low ≤ high → high < 256 → k ≤ top → parts low (k * ((high - low) * share)) ≡ weighed top k low high / top
way top share round low high k h small on =
    let n = k * (high - low) in
    let far : k * ((high - low) * share) ≡ n * share = omega arith in
    let lows : (top - k + k) * low ≡ top * low = ap (λ x. x * low) (omega arith) in
    let highs : k * (high - low + low) ≡ k * high = ap (λ x. k * x) (omega arith) in
    let sum : weighed top k low high ≡ top * low + n = omega arith in
    let most : high - low ≤ 255 = omega arith in
    rw (far, sum) (round low n (mul-le-mul on most))

pub upward : (top low high k : ℕ) → (top ≡ 5) ⊎ (top ≡ 7) → low ≤ high → high < 256 → k ≤ top
    → parts low (k * ((high - low) * (65536 / top + 1))) ≡ weighed top k low high / top
upward top low high k which h small =
    ⊎_elim (λ e. rw e (way 5 13108 (λ low n l. omega arith) low high k h small))
    (λ e. rw e (way 7 9363 (λ low n l. omega arith) low high k h small)) which

-- 8 bits are a byte as they are
as_it_is : (v : ℕ) → v < 256 → widened 8 v ≡ v
as_it_is v h = omega arith

module _ (a b : ℕ) (ha : a < 256) (hb : b < 256) where
  -- so much of the way, between the ends as they are
  part_way : (top parts : ℕ) → weighed top parts a b / top ≡ byte (between 8 top parts a b)
  unfolding byte
  part_way top parts = rw (as_it_is a ha, as_it_is b hb)

  -- or from the second end
  down : (k : ℕ) → k ≤ 7 → weighed 7 (7 - k) b a / 7 ≡ byte (between 8 7 k a b)
  down k on =
      let back : 7 - (7 - k) ≡ k = omega arith in
      rw (back, add_comm (k * b) ((7 - k) * a)) (part_way 7 k)

  pub eight_met : b < a → {p q r s t u : ℕ} → p ≡ weighed 7 6 b a / 7 → q ≡ weighed 7 5 b a / 7 → r ≡ weighed 7 4 b a / 7
      → s ≡ weighed 7 3 b a / 7 → t ≡ weighed 7 2 b a / 7 → u ≡ weighed 7 1 b a / 7
      → (i : ℕ) → i < 8 → get_or (a ∷ b ∷ p ∷ q ∷ r ∷ s ∷ t ∷ u ∷ []) i 0 ≡ byte (level a b i)
  unfolding level placed
  eight_met h p q r s t u =
      rw (lt-ltb b a h)
      (each-of_eight _ (omega (arith, part_way 7 0)) (omega (arith, part_way 7 7)) (p ∙ down 1 (omega arith)) (q ∙ down 2 (omega arith))
      (r ∙ down 3 (omega arith)) (s ∙ down 4 (omega arith))
      (t ∙ down 5 (omega arith)) (u ∙ down 6 (omega arith)))

  pub six_met : a ≤ b → {p q r s : ℕ} → p ≡ weighed 5 1 a b / 5 → q ≡ weighed 5 2 a b / 5 → r ≡ weighed 5 3 a b / 5
      → s ≡ weighed 5 4 a b / 5
      → (i : ℕ) → i < 8 → get_or (a ∷ b ∷ p ∷ q ∷ r ∷ s ∷ 0 ∷ 255 ∷ []) i 0 ≡ byte (level a b i)
  unfolding level placed byte
  six_met h p q r s =
      rw (le-ltb b a h)
      (each-of_eight _ (omega (arith, part_way 5 0)) (omega (arith, part_way 5 5)) (p ∙ part_way 5 1) (q ∙ part_way 5 2) (r ∙ part_way 5 3)
      (s ∙ part_way 5 4) refl refl)

-- ---- in their places

-- a level of bytes is one
pub small : (a b i : ℕ) → a < 256 → b < 256 → i < 8 → byte (level a b i) < 256
small a b i ha hb h = sound_small (level_sound a b i ha hb h)

-- a byte in its place
pub placed-small : (v scale more : ℕ) → v < 256 → 255 * scale + more < 4294967296 → v * scale + more < 4294967296
placed-small v scale more h room =
    let most : v * scale ≤ 255 * scale = mul-le-mul_right scale (omega arith) in
    omega arith
