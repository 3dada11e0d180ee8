-- From a test over a whole table, which the checker computes, to what it says of each entry. Assumes nothing.
use mathlib.Core.Path.{◌≡◌}
use mathlib.Core.Bool.{Bool, true, false}
use mathlib.Core.List.{List, [], ◌∷◌}
use Prim.Native.Nat.{ℕ, zero, suc, ◌+◌, ◌*◌, ◌<◌}
use native.Mathlib.Omega.{arith}
use native.Mathlib.Nat.{add-zero, not-suc-le-zero}
use lib.Dec.{T, ltb, ltb→lt}
use lib.ListN.{length, get_or}
use Rattle.crn_format.specs.Choice.{both}
use Rattle.crn_consts.specs.Entries.{Entry}

pub both_left : (a b : Bool) → T (both a b) → T a
both_left true b t = tt
both_left false b t = t

pub both_right : (a b : Bool) → T (both a b) → T b
both_right true b t = t
both_right false b t = absurd t

-- ---- a bound: each entry is below n, and so is the 0 past the end

abbrev pub all_below : ℕ → List ℕ → Bool
all_below n [] = ltb 0 n
all_below n (x ∷ xs) = both (ltb x n) (all_below n xs)

pub each_below : (n : ℕ) (xs : List ℕ) (i : ℕ) → T (all_below n xs) → get_or xs i 0 < n
each_below n [] i t = ltb→lt 0 n t
each_below n (x ∷ xs) zero t = ltb→lt x n (both_left (ltb x n) (all_below n xs) t)
each_below n (x ∷ xs) (suc i) t = each_below n xs i (both_right (ltb x n) (all_below n xs) t)

pub below : (n : ℕ) {table : List ℕ} {at r : ℕ} → Entry table at r → T (all_below n table) → r < n
below n {table} {at} e t = rw e.value (each_below n table at t)

-- ---- a rule of pairs: f holds of each pair and its place, counted from k

abbrev pub every_pair : (ℕ → ℕ → ℕ → Bool) → ℕ → List ℕ → Bool
every_pair f k [] = true
every_pair f k (a ∷ []) = false
every_pair f k (a ∷ (b ∷ rest)) = both (f k a b) (every_pair f (suc k) rest)

pub each-pair : (f : ℕ → ℕ → ℕ → Bool) (table : List ℕ) (k i : ℕ) → T (every_pair f k table) → 2 * i < length table
    → T (f (k + i) (get_or table (2 * i) 0) (get_or table (2 * i + 1) 0))
each-pair f [] k i t h = absurd (not-suc-le-zero h)
each-pair f (a ∷ []) k i t h = absurd t
each-pair f (a ∷ (b ∷ rest)) k zero t h = rw add-zero (both_left (f k a b) (every_pair f (suc k) rest) t)
each-pair f (a ∷ (b ∷ rest)) k (suc i) t h =
    let second : 2 * suc i + 1 ≡ suc (suc (2 * i + 1)) = omega arith in
    let first : 2 * suc i ≡ suc (suc (2 * i)) = omega arith in
    let place : k + suc i ≡ suc k + i = omega arith in
    rw (second, first, place) (each-pair f rest (suc k) i (both_right (f k a b) (every_pair f (suc k) rest) t) (omega arith))
