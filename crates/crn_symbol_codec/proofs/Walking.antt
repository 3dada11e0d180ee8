-- A walk over the lengths, by the counts and the sorted symbols of a decoder table, is the draw that crn_format defines.
use Prim.Native.Nat.{ℕ, zero, suc, ◌+◌, ◌-◌, ◌*◌, ◌<◌, ◌≤◌}
use mathlib.Core.List.{List}
use mathlib.Core.Path.{◌≡◌, refl, ap}
use native.Mathlib.Numerals.{add-one}
use native.Mathlib.Decide.{dec_lt, dec_le}
use native.Mathlib.Omega.{arith}
use lib.ListN.{length, get_or}
use borrow.Author.Tests.{lt-ltb, le-ltb, le-leb, lt-leb}
use Rattle.crn_format.specs.Bits.{bit_count, spelled}
use Rattle.crn_format.specs.Codes.{symbol_at, failed, used, first_code, nth, seek, longest, drawn}
use Rattle.crn_format.proofs.Drawing.{used_pos, nth-is, low-next, first_one, last_le}
use Rattle.crn_symbol_codec.specs.Decoders.{counts_in, walk, offset_of, Counts, Sorted, Decodes}
use Rattle.crn_symbol_codec.specs.Drawing.{walked}

-- ---- a turn of `walk`, where m is the longest length
module _ (cs ss s : List ℕ) (p m k f o : ℕ) where
  left : k < m → m - k ≡ suc (m - (k + 1))
  left h = omega arith

  pub walk-ended : k < m → bit_count s < p + (k + 1) → walk cs ss s p (m - k) k f o ≡ failed 8
  unfolding walk
  walk-ended h e = rw (left h) (simp (lt-leb _ _ e))

  pub walk-found : k < m → p + (k + 1) ≤ bit_count s → spelled s p (k + 1) < f + get_or cs (k + 1) 0
      → walk cs ss s p (m - k) k f o ≡ symbol_at (get_or ss (o + (spelled s p (k + 1) - f)) 0) (p + (k + 1))
  unfolding walk
  walk-found h e l = rw (left h) (simp (le-leb _ _ e, lt-ltb _ _ l))

  pub walk_more : k < m → p + (k + 1) ≤ bit_count s → f + get_or cs (k + 1) 0 ≤ spelled s p (k + 1)
      → walk cs ss s p (m - k) k f o ≡ walk cs ss s p (m - (k + 1)) (k + 1) (2 * (f + get_or cs (k + 1) 0)) (o + get_or cs (k + 1) 0)
  unfolding walk
  walk_more h e l = rw (left h) (simp (le-leb _ _ e, le-ltb _ _ l))

  pub walk_done : m ≤ k → walk cs ss s p (m - k) k f o ≡ failed 7
  unfolding walk
  walk_done h = let e : m - k ≡ 0 = omega arith in rw e

-- ---- by the lengths
-- what stands at the r-th place of a length
stands : (ls ss : List ℕ) (l r : ℕ) → Sorted ls ss (length ls) → 0 < l → r < used ls l → get_or ss (offset_of ls l + r) 0 ≡ nth ls
    (length ls) l r
stands ls ss l r all h u =
    let is = nth-is ls (length ls) l r (omega (arith, used_pos ls l h)) in
    let at = all (nth ls (length ls) l r) is.under (omega (arith, is.length-is)) in
    rw (is.length-is, is.rank_is) at at

module _ (ls cs ss s : List ℕ) (p : ℕ) (counts : Counts ls cs) (sorted : Sorted ls ss (length ls)) where
  by_arrays : (n k : ℕ) → k + n < 17 → first_code ls (k + 1) ≤ spelled s p (k + 1)
      → walk cs ss s p n k (first_code ls (k + 1)) (offset_of ls (k + 1)) ≡ seek ls s p n k
  unfolding walk seek
  by_arrays zero k h low = refl
  by_arrays (suc n) k h low =
      go (by_arrays n (k + 1)) (dec_le (p + (k + 1)) (bit_count s)) (dec_lt (spelled s p (k + 1)) (first_code ls (k + 1) + used ls (k + 1)))
    where
      count_is : get_or cs (k + 1) 0 ≡ used ls (k + 1)
      count_is = counts (k + 1) (omega arith)

      first-is : 2 * (first_code ls (k + 1) + used ls (k + 1)) ≡ first_code ls (k + 1 + 1)
      first-is = rw (add-one (k + 1)) (unfold first_code in refl)

      offset-is : offset_of ls (k + 1) + used ls (k + 1) ≡ offset_of ls (k + 1 + 1)
      offset-is = rw (add-one (k + 1)) (unfold offset_of in refl)

      go : (k + 1 + n < 17 → first_code ls (k + 1 + 1) ≤ spelled s p (k + 1 + 1)
          → walk cs ss s p n (k + 1) (first_code ls (k + 1 + 1)) (offset_of ls (k + 1 + 1)) ≡ seek ls s p n (k + 1))
          → Dec (p + (k + 1) ≤ bit_count s) → Dec (spelled s p (k + 1) < first_code ls (k + 1) + used ls (k + 1))
          → walk cs ss s p (suc n) k (first_code ls (k + 1)) (offset_of ls (k + 1)) ≡ seek ls s p (suc n) k
      go ih (no a) d = simp (lt-leb (p + (k + 1)) (bit_count s) (omega arith))
      go ih (yes a) (yes d) =
          simp (count_is, le-leb _ _ a, lt-ltb _ _ d)
          (ap (λ (x : ℕ). symbol_at x (p + (k + 1))) (stands ls ss (k + 1) (spelled s p (k + 1) - first_code ls (k + 1)) sorted
          (omega arith) (omega arith)))
      go ih (yes a) (no d) =
          simp (
            count_is,
            le-leb _ _ a,
            le-ltb (spelled s p (k + 1)) (first_code ls (k + 1) + used ls (k + 1)) (omega arith),
            first-is,
            offset-is,
          )
          (ih (omega arith) (low-next ls s p (k + 1) (omega arith)))

pub walked-drawn : (ls lookup ss s : List ℕ) (p : ℕ) → Decodes ls lookup ss → walked lookup ss s p ≡ drawn ls s p
unfolding first_code offset_of used
walked-drawn ls lookup ss s p d =
    rw d.last (by_arrays ls (counts_in lookup) ss s p d.counts d.ranks (longest ls) 0 (omega (arith, last_le ls 16)) (first_one ls s p))
