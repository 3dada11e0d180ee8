-- Little-endian numbers: of the same bytes, in two halves, and their bytes again. Assumes nothing.
use mathlib.Core.Path.{◌≡◌, refl}
use mathlib.Core.List.{List}
use Prim.Native.Nat.{ℕ, zero, suc, ◌+◌, ◌*◌, ◌/◌, ◌<◌}
use native.Mathlib.Omega.{arith}
use native.Mathlib.Numerals.{one-add}
use native.Mathlib.Nat.{add-zero, add_assoc, not-suc-le-zero}
use lib.ListN.{get_or}
use Rattle.crn_format.specs.Grid.{little}
use Rattle.crn_utils.specs.Little.{little_at}

-- the same bytes spell the same number
pub alike : (r s : List ℕ) (n from at : ℕ) → ((k : ℕ) → k < n → get_or r (from + k) 0 ≡ get_or s (at + k) 0)
    → little_at r from n ≡ little_at s at n
unfolding little_at
alike r s zero from at h = refl
alike r s (suc n) from at h =
    let first : get_or r from 0 ≡ get_or s at 0 = simp add-zero at (h 0 (omega arith)) in
    let rest : (k : ℕ) → k < n → get_or r (from + 1 + k) 0 ≡ get_or s (at + 1 + k) 0 =
    λ k l. simp (add_assoc, one-add) (h (suc k) (omega arith)) in
    omega (arith, first, alike r s n (from + 1) (at + 1) rest)

pub halves : (s : List ℕ) (at : ℕ) → little_at s at 8 ≡ little_at s at 4 + 4294967296 * little_at s (at + 4) 4
unfolding little_at
halves s at = simp add_assoc (omega arith)

-- the bytes of a number that was read are the bytes that it was read from
pub bytes-again : (s : List ℕ) → ((k : ℕ) → get_or s k 0 < 256) → (n at i : ℕ) → i < n → get_or (little n (little_at s at n)) i 0 ≡ get_or s
    (at + i) 0
unfolding little little_at
bytes-again s b zero at i h = absurd (not-suc-le-zero h)
bytes-again s b (suc n) at zero h = rw add-zero (omega (arith, b at))
bytes-again s b (suc n) at (suc i) h =
    let rest : (get_or s at 0 + 256 * little_at s (at + 1) n) / 256 ≡ little_at s (at + 1) n = omega (arith, b at) in
    let place : at + suc i ≡ at + 1 + i = omega arith in
    rw (rest, place) (bytes-again s b n (at + 1) i (omega arith))
