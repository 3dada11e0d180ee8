-- The ends' channels, over the part; what is between them, over the mode; and the four colours that they make. Assumes nothing.
use mathlib.Core.Path.{◌≡◌, refl, ◌∙◌}
use mathlib.Core.Bool.{Bool, true, false}
use mathlib.Core.List.{[], ◌∷◌}
use Prim.Native.Nat.{ℕ, zero, suc, ◌+◌, ◌*◌, ◌-◌, ◌/◌, ◌%◌, ◌^◌, ◌<◌}
use native.Mathlib.Nat.{mul-le-mul_right, mod-lt}
use native.Mathlib.Omega.{arith}
use borrow.Author.Tests.{lt-ltb}
use lib.Pow.{pow_pos}
use Rattle.crn_format.specs.Choice.{pick}
use Rattle.bcn_format.specs.Channels.{byte, placed}
use Rattle.bcn_format.specs.Blocks.{Part, red, green, blue, part_of, shade, cover}
use Rattle.bcn_format.specs.Packed.{packed}
use Rattle.bcn_colors.specs.Colors.{Palette, covered, bare, Alpha, twice, end, lowest, TwoBytes, TwoColors, top_of, partway, mix}
use Rattle.bcn_colors.specs.declared.Both.{Both}
use Rattle.bcn_colors.proofs.Halves.{first, second, kept, scaled}

-- ---- the ends

-- a part of both: its bits out of the words, then in 8. By n and k none of the other half's bits are among those kept
pub channel : (p : Part) (n k v w : ℕ) {x y e : ℕ} → 2 ^ p.shift * (2 ^ p.bits * n) ≡ 4294967296
    → 2 ^ (2 * p.bits - 8) * (256 * k) ≡ 4294967296 → 2 ^ p.bits * 2 ^ p.bits ≡ 256 * 2 ^ (2 * p.bits - 8) → v < 4294967296
    → e ≡ twice v w → y ≡ lowest (2 ^ p.bits) (e / 2 ^ p.shift) → x ≡ lowest 256 (y * (2 ^ p.bits + 1) / 2 ^ (2 * p.bits - 8))
    → TwoBytes (end v p) (end w p) x
channel p n k v w place wide twofold small both part made =
    rw (made, part, both, kept (2 ^ p.shift) (2 ^ p.bits) n v w (pow_pos p.shift) place small)
    (scaled (2 ^ (2 * p.bits - 8)) (2 ^ p.bits + 1) k (part_of p v) (part_of p w) (pow_pos (2 * p.bits - 8)) wide (below v) (below w))
  where
    below : (w : ℕ) → part_of p w * (2 ^ p.bits + 1) < 256 * 2 ^ (2 * p.bits - 8)
    below w =
        let under : part_of p w < 2 ^ p.bits = mod-lt (w / 2 ^ p.shift) (pow_pos p.bits) in
        omega (arith, mul-le-mul_right (2 ^ p.bits) under)

-- ---- between them

-- the parts of the nearer end, with the share of one part in 65536
pub data Share : Bool → ℕ → ℕ → Type 0 where
  third : Share true 2 21846
  half : Share false 1 32768

-- a share gives the quotient, rounded down, in 8 bits
divided : {four : Bool} {parts share : ℕ} (a b : ℕ) → Share four parts share → a < 256 → b < 256
    → ((parts * a + b) * share < 256 * 65536) × ((parts * a + b) * share / 65536 ≡ partway (top_of four) a b)
divided a b third ha hb = (omega arith, omega arith)
divided a b half ha hb = (omega arith, omega arith)

pub mixing : {four : Bool} {parts share x y r : ℕ} (a b : ℕ) → Share four parts share → TwoBytes a b x → TwoBytes b a y
    → r ≡ lowest 256 ((parts * x + y) * share / 65536) → TwoBytes (partway (top_of four) a b) (partway (top_of four) b a) r
mixing {four} {parts} {share} {x} {y} a b s h back made =
    let one = divided a b s h.first h.second in
    let other = divided b a s h.second h.first in
    let sum : parts * x + y ≡ twice (parts * a + b) (parts * b + a) = rw (h.is, back.is) (omega arith) in
    rw (made, sum, ← one.1, ← other.1)
    (scaled 65536 share 256 (parts * a + b) (parts * b + a) (omega arith) refl one.0 other.0)

pub shared : (four : Bool) {parts share : ℕ} → (parts ≡ pick four 2 1) × (share ≡ pick four 21846 32768) → Share four parts share
shared true e = rw (e.0, e.1) third
shared false e = rw (e.0, e.1) half

-- nothing of it overflows
pub within : {four : Bool} {parts share a b x y : ℕ} → Share four parts share → TwoBytes a b x → TwoBytes b a y
    → (parts * x < 2 ^ 64) × (parts * x + y < 2 ^ 64) × ((parts * x + y) * share < 2 ^ 64)
within third h back = (omega arith, omega arith, omega arith)
within half h back = (omega arith, omega arith, omega arith)

-- ---- the four colours

abbrev color : (Part → ℕ) → ℕ → ℕ
color a alpha = packed (a red) (a green) (a blue) alpha

same : {a b : Part → ℕ} {j k : ℕ} → ((p : Part) → a p ≡ b p) → j ≡ k → color a j ≡ color b k
same parts alpha = rw (parts red, parts green, parts blue, alpha)

-- two colours put together, with the same alpha
joined : {a b : Part → ℕ} {c : Both} {x : ℕ} (k : ℕ) → k < 256 → TwoColors a b c
    → x ≡ c.red + 256 * c.green + 65536 * c.blue + twice (16777216 * k) (16777216 * k)
    → (x % 4294967296 ≡ color a k) × (x / 4294967296 ≡ color b k)
joined {a} {b} {c} {x} k small h made = (rw two (first _ _ (omega arith)), rw two (second _ _ (omega arith)))
  where
    two : x ≡ twice (color a k) (color b k)
    two = rw (made, h.reds.is, h.greens.is, h.blues.is) (omega arith)

-- the upper of them away in three-colour mode
upper_away : (four : Bool) (x : ℕ) → (pick four x (x % 4294967296) % 4294967296 ≡ x % 4294967296)
    × (pick four x (x % 4294967296) / 4294967296 ≡ pick four (x / 4294967296) 0)
upper_away true x = (refl, refl)
upper_away false x = (omega arith, omega arith)

black : (four : Bool) (a : Part → ℕ) (k : ℕ) → pick four (color a k) 0 ≡ color (λ p. pick four (a p) 0) (pick four k 0)
black true a k = refl
black false a k = refl

-- the colour between two ends that is the nearer to the first
abbrev inner : Bool → ℕ → ℕ → Part → ℕ
inner four v w = mix (top_of four) (end v) (end w)

-- a part of each selector's colour
shades : (four : Bool) (p : Part) (v w : ℕ) → (end v p ≡ byte (shade four p v w 0)) × (end w p ≡ byte (shade four p v w 1))
    × (inner four v w p ≡ byte (shade four p v w 2)) × (pick four (inner four w v p) 0 ≡ byte (shade four p v w 3))
unfolding byte placed shade
shades true p v w = (omega arith, omega arith, refl, omega arith)
shades false p v w = (omega arith, omega arith, refl, refl)

each-of-four : (P : ℕ → Type 0) → P 0 → P 1 → P 2 → P 3 → (i : ℕ) → i < 4 → P i
each-of-four P a b c d zero h = a
each-of-four P a b c d (suc zero) h = b
each-of-four P a b c d (suc (suc zero)) h = c
each-of-four P a b c d (suc (suc (suc zero))) h = d
each-of-four P a b c d (suc (suc (suc (suc i)))) h = absurd (omega arith)

pub none : Alpha true 0 bare
none = record { most = λ i h. refl; last = refl }

pub full : (four : Bool) → Alpha four 255 (covered four)
unfolding byte cover
full true = record { most = λ i h. refl; last = refl }
full false = record { most = λ i h. rw (lt-ltb i 3 h); last = refl }

pub filled : (four : Bool) (k v w : ℕ) {alpha : ℕ → ℕ} {e m : Both} {c x n r₀ r₁ r₂ r₃ : ℕ} → k < 256 → Alpha four k alpha
    → TwoColors (end v) (end w) e → TwoColors (inner four v w) (inner four w v) m
    → c ≡ e.red + 256 * e.green + 65536 * e.blue + twice (16777216 * k) (16777216 * k)
    → x ≡ m.red + 256 * m.green + 65536 * m.blue + twice (16777216 * k) (16777216 * k) → n ≡ pick four x (x % 4294967296)
    → r₀ ≡ c % 4294967296 → r₁ ≡ c / 4294967296 → r₂ ≡ n % 4294967296 → r₃ ≡ n / 4294967296
    → Palette four alpha v w (r₀ ∷ r₁ ∷ r₂ ∷ r₃ ∷ [])
filled four k v w {x = x} small alpha ends mixed made between chosen e₀ e₁ e₂ e₃ =
    let two = joined k small ends made in
    let more = joined k small mixed between in
    record {
      each = each-of-four _
          (e₀ ∙ two.0 ∙ same (λ p. (shades four p v w).0) (alpha.most 0 (omega arith)))
          (e₁ ∙ two.1 ∙ same (λ p. (shades four p v w).1) (alpha.most 1 (omega arith)))
          (rw (e₂, chosen, (upper_away four x).0) (more.0 ∙ same (λ p. (shades four p v w).2) (alpha.most 2 (omega arith))))
          (rw (e₃, chosen, (upper_away four x).1, more.1) (black four (inner four w v) k ∙ same (λ p. (shades four p v w).3) alpha.last));
    }
