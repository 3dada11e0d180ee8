-- Every channel's byte is less than two steps of 255 away from the exact fraction, and below 256: shown once, over the ends' bits, the
-- ramp's parts and the place on it. Assumes nothing.
use mathlib.Core.Path.{◌≡◌}
use mathlib.Core.Logic.{◌⊎◌, ⊎_elim}
use Prim.Native.Nat.{ℕ, ◌+◌, ◌*◌, ◌-◌, ◌/◌, ◌^◌, ◌≤◌, ◌<◌}
use native.Mathlib.Nat.{mul-le-mul_left, mul-le-mul_right, mul-lt-mul_of_pos_right, div-add-mod', div-le_of_le-mul, mod-lt}
use native.Mathlib.Omega.{arith}
use Rattle.bcn_format.specs.Channels.{Channel, none, full, between, exact, byte, weighed, widened, Near}

-- ---- an end in 8 bits is at most one step away

pub record Close (top v w : ℕ) : Type 0 where
  pub above : w * top ≤ 255 * v + top
  pub below : 255 * v ≤ w * top + top

-- the widths of the ends
abbrev pub Width : ℕ → Type 0
Width bits = (bits ≡ 5) ⊎ ((bits ≡ 6) ⊎ (bits ≡ 8))

by_width : (P : ℕ → Type 0) {bits : ℕ} → P 5 → P 6 → P 8 → Width bits → P bits
by_width P five six eight w = ⊎_elim (λ e. rw e five) (⊎_elim (λ e. rw e six) (λ e. rw e eight)) w

close : (bits v : ℕ) → Width bits → v < 2 ^ bits → Close (2 ^ bits - 1) v (widened bits v)
close bits v =
    by_width (λ n. v < 2 ^ n → Close (2 ^ n - 1) v (widened n v)) (λ h. record { above = omega arith; below = omega arith })
    (λ h. record { above = omega arith; below = omega arith }) (λ h. record { above = omega arith; below = omega arith })

-- ---- p parts of the one and q of the other, rounded down to x

weigh : {top a b v w : ℕ} (p q x : ℕ) → 0 < top → 0 < p + q → Close top a v → Close top b w
    → x * (p + q) ≤ p * v + q * w → p * v + q * w < x * (p + q) + (p + q) → Near (record { num = p * a + q * b; den = (p + q) * top }) x
weigh {top} p q x some parts ca cb low high =
    let first = mul-le-mul_left p ca.above in
    let second = mul-le-mul_left q cb.above in
    record {
      above = omega (arith, mul-le-mul_right top low, mul-lt-mul_of_pos_right parts some);
      below = omega (arith, mul-lt-mul_of_pos_right high some, mul-le-mul_left p ca.below, mul-le-mul_left q cb.below);
    }

-- ---- every channel

-- two ends of a width that there is, and a place on the ramp
pub record Mixed (bits top place a b : ℕ) : Type 0 where
  pub width : Width bits
  pub parts : 0 < top
  pub on : place ≤ top
  pub first : a < 2 ^ bits
  pub second : b < 2 ^ bits

pub data Sound : Channel → Type 0 where
  black : Sound none
  white : Sound full
  mixed : {bits top place a b : ℕ} → Mixed bits top place a b → Sound (between bits top place a b)

positive : (bits : ℕ) → Width bits → 0 < 2 ^ bits - 1
positive bits = by_width (λ n. 0 < 2 ^ n - 1) (omega arith) (omega arith) (omega arith)

pub near : {ch : Channel} → Sound ch → Near (exact ch) (byte ch)
unfolding exact byte
near black = record { above = omega arith; below = omega arith }
near white = record { above = omega arith; below = omega arith }
near (mixed {bits} {top} {place} {a} {b} m) =
    let parts : top - place + place ≡ top = omega (arith, m.on) in
    let sum = weighed top place (widened bits a) (widened bits b) in
    let split = div-add-mod' sum top in
    let less = mod-lt sum m.parts in
    rw parts at (weigh (top - place) place (sum / top) (positive bits m.width) (omega (arith, m.parts))
    (close bits a m.width m.first) (close bits b m.width m.second) (rw parts (omega arith)) (rw parts (omega arith)))

-- ---- and below 256

fits : (bits v : ℕ) → Width bits → v < 2 ^ bits → widened bits v ≤ 255
fits bits v = by_width (λ n. v < 2 ^ n → widened n v ≤ 255) (λ h. omega arith) (λ h. omega arith) (λ h. omega arith)

pub sound_small : {ch : Channel} → Sound ch → byte ch < 256
unfolding byte
sound_small black = omega arith
sound_small white = omega arith
sound_small (mixed {bits} {top} {place} {a} {b} m) =
    let first = mul-le-mul_left (top - place) (fits bits a m.width m.first) in
    let second = mul-le-mul_left place (fits bits b m.width m.second) in
    let most : weighed top place (widened bits a) (widened bits b) ≤ top * 255 = omega (arith, m.on) in
    omega (arith, div-le_of_le-mul top most)
