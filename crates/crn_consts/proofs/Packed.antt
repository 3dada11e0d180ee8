-- A table that a function computes, as the tiles from the bytes that they stand in. That it does is a test over the whole table, which the
-- checker computes. Assumes nothing.
use Prim.Native.Nat.{ℕ, zero, suc, ◌<◌}
use mathlib.Core.Path.{◌≡◌}
use mathlib.Core.Bool.{Bool, true}
use mathlib.Core.List.{List}
use native.Mathlib.Omega.{arith}
use native.Mathlib.Decide.{ℕ_discrete}
use lib.Dec.{T, eqb, eqb→eq}
use lib.ListN.{length, get_or}
use Rattle.crn_format.specs.Choice.{both}
use Rattle.crn_consts.proofs.Table.{both_left, both_right}

abbrev pub up_to : (ℕ → Bool) → ℕ → Bool
up_to f zero = true
up_to f (suc n) = both (up_to f n) (f n)

pub each_up_to : (f : ℕ → Bool) (n i : ℕ) → T (up_to f n) → i < n → T (f i)
each_up_to f zero i t h = absurd (omega arith)
each_up_to f (suc n) i t h = go (ℕ_discrete i n) (λ l. each_up_to f n i (both_left (up_to f n) (f n) t) l)
  where
    go : Dec (i ≡ n) → (i < n → T (f i)) → T (f i)
    go (yes e) k = rw e (both_right (up_to f n) (f n) t)
    go (no e) k = k (omega arith)

-- a function that passes the test at each number of the table is the table
pub computed : (f : ℕ → ℕ) (table : List ℕ) (i : ℕ) → T (up_to (λ k. eqb (f k) (get_or table k 0)) (length table)) → i < length table → f i
    ≡ get_or table i 0
computed f table i t h = eqb→eq (f i) (get_or table i 0) (each_up_to (λ k. eqb (f k) (get_or table k 0)) (length table) i t h)
