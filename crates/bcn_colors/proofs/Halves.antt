-- Two numbers in one of 64 bits: each by itself again, and what is kept of both after a division. Assumes nothing.
use mathlib.Core.Path.{◌≡◌, ap, ap₂}
use Prim.Native.Nat.{ℕ, zero, suc, ◌+◌, ◌*◌, ◌/◌, ◌%◌, ◌^◌, ◌≤◌, ◌<◌}
use native.Mathlib.Nat.{add-mul-div_left, add-mul-mod_self_left, div-div-eq-div-mul, div-lt_iff_lt-mul, mul_comm, mod-eq_of_lt}
use native.Mathlib.Omega.{arith}
use Rattle.std.specs.Int.{w64, rotate_left}
use Rattle.std.proofs.lemmas.Nat.{or_shifted}
use Rattle.bcn_colors.specs.Colors.{twice, lowest, TwoBytes}

pub first : (a b : ℕ) → a < 4294967296 → twice a b % 4294967296 ≡ a
first a b h = omega arith

pub second : (a b : ℕ) → a < 4294967296 → twice a b / 4294967296 ≡ b
second a b h = omega arith

-- the halves exchanged
pub exchanged : (x : ℕ) → x < 2 ^ 64 → rotate_left w64 x 32 ≡ twice (x / 4294967296) (x % 4294967296)
exchanged x h =
    let upper : (x * 2 ^ 32) % 2 ^ 64 ≡ (x % 2 ^ 32) * 2 ^ 32 = omega arith in
    rw (upper, or_shifted (x % 2 ^ 32) 32 (x / 2 ^ 32) (omega arith)) (omega arith)

pub turned : {a b x y : ℕ} → TwoBytes a b x → y ≡ twice (x / 4294967296) (x % 4294967296) → TwoBytes b a y
turned {a} {b} h e =
    record { is = rw (e, h.is, first a b (omega arith), second a b (omega arith)); first = h.second; second = h.first }

-- both divided by d, where none of the other's bits are among the lowest
pub kept : (d m n a b : ℕ) → 0 < d → d * (m * n) ≡ 4294967296 → a < 4294967296
    → lowest m (twice a b / d) ≡ twice (a / d % m) (b / d % m)
kept d m n a b some parts small = ap₂ twice low high
  where
    low : twice a b / d % m ≡ a / d % m
    low =
        let split : twice a b ≡ a + d * (m * (n * b)) = omega (arith, ap (◌* b) parts) in
        rw (split, add-mul-div_left a (m * (n * b)) some, add-mul-mod_self_left (a / d) m (n * b))

    high : twice a b / d / 4294967296 % m ≡ b / d % m
    high =
        rw (div-div-eq-div-mul (twice a b) d 4294967296, mul_comm d 4294967296)
        (rw (← div-div-eq-div-mul (twice a b) 4294967296 d, second a b small))

-- both times k divided by d, where the quotients are bytes
pub scaled : (d k n a b : ℕ) → 0 < d → d * (256 * n) ≡ 4294967296 → a * k < 256 * d → b * k < 256 * d
    → TwoBytes (a * k / d) (b * k / d) (lowest 256 (twice a b * k / d))
scaled d k n a b some parts ha hb =
    let low : a * k / d < 256 = (div-lt_iff_lt-mul some).1 ha in
    let high : b * k / d < 256 = (div-lt_iff_lt-mul some).1 hb in
    let spread : twice a b * k ≡ twice (a * k) (b * k) = omega arith in
    record {
      is = rw (spread, kept d 256 n (a * k) (b * k) some parts (omega (arith, at_most n parts)), mod-eq_of_lt low, mod-eq_of_lt high);
      first = low;
      second = high;
    }
  where
    at_most : (n : ℕ) → d * (256 * n) ≡ 4294967296 → 256 * d ≤ 4294967296
    at_most zero e = omega arith
    at_most (suc n) e = omega arith
