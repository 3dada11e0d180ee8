-- A running index is the sum of its deltas so far, modulo the palette's size, whatever was skipped in between.
use Prim.Native.Nat.{ℕ, zero, suc, ◌+◌, ◌%◌, ◌≤◌, ◌<◌}
use mathlib.Core.Path.{◌≡◌, sym, ap, ◌∙◌}
use mathlib.Core.List.{List, [], ◌∷◌}
use native.Mathlib.Omega.{arith}
use native.Mathlib.Nat.{mod-add-mod, mod-eq-sub-mod, mod-eq_of_lt, add_assoc, add-zero, zero-add}
use native.Mathlib.Decide.{dec_lt}
use lib.ListN.{length, get_or, take}
use borrow.Author.Tests.{lt-ltb, le-ltb}
use Rattle.crn_format.specs.Level.{stepped, last_or}
use Rattle.crn_laws.specs.Scripts.{Draws, indices}
use Rattle.crn_laws.specs.Blocks.{draws_at, total, sum_up_to}

-- the same modulo n, with something added
added : (n a b c : ℕ) → a % n ≡ b % n → (a + c) % n ≡ (b + c) % n
added n a b c e = sym (mod-add-mod a n c) ∙ ap (λ (x : ℕ). (x + c) % n) e ∙ mod-add-mod b n c

stepped_mod : (n i y : ℕ) → stepped n i y % n ≡ (i + y) % n
stepped_mod n i y = by (dec_lt (i + y) n)
  where
    by : Dec (i + y < n) → stepped n i y % n ≡ (i + y) % n
    by (yes h) = rw (lt-ltb (i + y) n h)
    by (no h) = let k : n ≤ i + y = omega arith in rw (le-ltb (i + y) n k) (sym (mod-eq-sub-mod k))

-- the index after each delta, and after all
index_mod : (n i : ℕ) (ys : List ℕ) (t : ℕ) → t < length ys → get_or (indices n i ys) t 0 % n ≡ (i + total (take (suc t) ys)) % n
unfolding indices total
index_mod n i [] t h = absurd (omega arith)
index_mod n i (y ∷ ys) zero h = stepped_mod n i y ∙ ap (λ (x : ℕ). (i + x) % n) (sym (add-zero y))
index_mod n i (y ∷ ys) (suc t) h =
    index_mod n (stepped n i y) ys t (omega arith) ∙ added n (stepped n i y) (i + y) (total (take (suc t) ys)) (stepped_mod n i y)
    ∙ ap (λ (x : ℕ). x % n) (add_assoc i y (total (take (suc t) ys)))

last_mod : (n i : ℕ) (ys : List ℕ) → last_or i (indices n i ys) % n ≡ (i + total ys) % n
unfolding indices total last_or
last_mod n i [] = ap (λ (x : ℕ). x % n) (sym (add-zero i))
last_mod n i (y ∷ ys) =
    last_mod n (stepped n i y) ys ∙ added n (stepped n i y) (i + y) (total ys) (stepped_mod n i y) ∙ ap (λ (x : ℕ). x % n)
    (add_assoc i y (total ys))

-- ---- from chunk to chunk

-- the running index before chunk c
unfoldable pub carried : ℕ → (Draws → List ℕ) → ℕ → List Draws → ℕ → ℕ
unfolding indices last_or
carried n deltas i ds zero = i
carried n deltas i [] (suc c) = i
carried n deltas i (d ∷ ds) (suc c) = carried n deltas (last_or i (indices n i (deltas d))) ds c

pub carried_mod : (n : ℕ) (deltas : Draws → List ℕ) (i : ℕ) (ds : List Draws) (c t : ℕ) → c < length ds → t < length
    (deltas (draws_at ds c))
    → get_or (indices n (carried n deltas i ds c) (deltas (draws_at ds c))) t 0 % n ≡ (i + sum_up_to deltas ds c t) % n
unfolding carried draws_at sum_up_to
carried_mod n deltas i [] c t h g = absurd (omega arith)
carried_mod n deltas i (d ∷ ds) zero t h g = index_mod n i (deltas d) t g
carried_mod n deltas i (d ∷ ds) (suc c) t h g =
    carried_mod n deltas (last_or i (indices n i (deltas d))) ds c t (omega arith) g
    ∙ added n (last_or i (indices n i (deltas d))) (i + total (deltas d)) (sum_up_to deltas ds c t) (last_mod n i (deltas d))
    ∙ ap (λ (x : ℕ). x % n) (add_assoc i (total (deltas d)) (sum_up_to deltas ds c t))

-- an index in range is that sum modulo the size
pub index-sum : (n : ℕ) (deltas : Draws → List ℕ) (ds : List Draws) (c t : ℕ) → c < length ds → t < length (deltas (draws_at ds c))
    → get_or (indices n (carried n deltas 0 ds c) (deltas (draws_at ds c))) t 0 < n
    → get_or (indices n (carried n deltas 0 ds c) (deltas (draws_at ds c))) t 0 ≡ sum_up_to deltas ds c t % n
index-sum n deltas ds c t h g l = sym (mod-eq_of_lt l) ∙ carried_mod n deltas 0 ds c t h g ∙ ap (λ (x : ℕ). x % n)
    (zero-add (sum_up_to deltas ds c t))
