-- Laws of `cut_at`: the bits up to a place, and 0 after them.
use Prim.Native.Nat.{ℕ, zero, suc, ◌+◌, ◌*◌, ◌/◌, ◌%◌, ◌^◌, ◌<◌, ◌≤◌}
use mathlib.Core.List.{List}
use mathlib.Core.Path.{◌≡◌, refl, sym}
use native.Mathlib.Nat.{pow-suc, add-suc, add-zero, add_assoc}
use native.Mathlib.Decide.{dec_lt}
use native.Mathlib.Omega.{arith}
use lib.Pow.{high, low}
use lib.Dec.{ltb}
use borrow.Author.Tests.{lt-ltb, le-ltb}
use Rattle.crn_format.specs.Choice.{pick}
use Rattle.crn_format.specs.Bits.{bit_count, bit_at, spelled}
use Rattle.crn_format.proofs.Drawing.{bit_lt, scale}
use Rattle.crn_symbol_codec.specs.Cursors.{cut_at}
use Rattle.crn_bytes.proofs.Bytes.{bit_past}

cut_bit : (s : List ℕ) (e q : ℕ) → pick (ltb q e) (bit_at s q) 0 < 2
cut_bit s e q = go (dec_lt q e)
  where
    go : Dec (q < e) → pick (ltb q e) (bit_at s q) 0 < 2
    go (yes h) = rw (lt-ltb q e h) (bit_lt s q)
    go (no h) = rw (le-ltb q e (omega arith)) (omega arith)

pub cut_lt : (s : List ℕ) (e p n : ℕ) → cut_at s e p n < 2 ^ n
unfolding cut_at
cut_lt s e p zero = omega arith
cut_lt s e p (suc n) = omega (arith, cut_lt s e p n, cut_bit s e (p + n), pow-suc 2 n)

pub cut_add : (s : List ℕ) (e p m n : ℕ) → cut_at s e p (m + n) ≡ cut_at s e p m * 2 ^ n + cut_at s e (p + m) n
unfolding cut_at
cut_add s e p m zero = rw add-zero (omega arith)
cut_add s e p m (suc n) = rw (add-suc, add_assoc) (omega (arith, cut_add s e p m n, scale (cut_at s e p m) n))

pub cut_front : (s : List ℕ) (e p n c : ℕ) → cut_at s e p n ≡ cut_at s e p (n + c) / 2 ^ c
cut_front s e p n c = rw (cut_add s e p n c) (sym (high (cut_at s e p n) c (cut_lt s e (p + n) c)))

pub cut_back : (s : List ℕ) (e p a n : ℕ) → cut_at s e (p + a) n ≡ cut_at s e p (a + n) % 2 ^ n
cut_back s e p a n = rw (cut_add s e p a n) (sym (low (cut_at s e p a) n (cut_lt s e (p + a) n)))

-- nothing is left after the end
pub cut_zero : (s : List ℕ) (e p n : ℕ) → e ≤ p → cut_at s e p n ≡ 0
unfolding cut_at
cut_zero s e p zero h = refl
cut_zero s e p (suc n) h = let g : e ≤ p + n = omega arith in rw (le-ltb (p + n) e g, cut_zero s e p n h)

-- where all that is cut off is 0, nothing is lost
cut_is : (s : List ℕ) (e p n : ℕ) → ((q : ℕ) → e ≤ q → q < p + n → bit_at s q ≡ 0) → cut_at s e p n ≡ spelled s p n
unfolding cut_at spelled
cut_is s e p zero h = refl
cut_is s e p (suc n) h = rw (cut_is s e p n (λ q a b. h q a (omega arith))) (go (dec_lt (p + n) e))
  where
    go : Dec (p + n < e) → 2 * spelled s p n + pick (ltb (p + n) e) (bit_at s (p + n)) 0 ≡ 2 * spelled s p n + bit_at s (p + n)
    go (yes l) = rw (lt-ltb (p + n) e l)
    go (no l) = rw (le-ltb (p + n) e (omega arith), h (p + n) (omega arith) (omega arith))

pub cut_short : (s : List ℕ) (e p n : ℕ) → p + n ≤ e → cut_at s e p n ≡ spelled s p n
cut_short s e p n h = cut_is s e p n (λ q a b. absurd (omega arith))

pub cut_end : (s : List ℕ) (e p n : ℕ) → bit_count s ≤ e → cut_at s e p n ≡ spelled s p n
cut_end s e p n h = cut_is s e p n (λ q a b. bit_past s q (omega arith))
