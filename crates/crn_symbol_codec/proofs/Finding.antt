-- A look into the entries, by the first w bits, is a walk over the lengths up to w.
use Prim.Native.Nat.{ℕ, zero, suc, ◌+◌, ◌-◌, ◌*◌, ◌/◌, ◌%◌, ◌<◌, ◌≤◌}
use mathlib.Core.List.{List}
use mathlib.Core.Path.{◌≡◌, refl, sym, ap, ◌∙◌}
use native.Mathlib.Decide.{dec_lt, dec_le}
use native.Mathlib.Omega.{arith}
use native.Mathlib.Nat.{add-zero}
use native.Mathlib.Numerals.{add-one}
use lib.ListN.{get_or}
use lib.Dec.{leb}
use borrow.Author.Tests.{lt-ltb, le-ltb, le-leb, lt-leb}
use Rattle.crn_format.specs.Choice.{pick}
use Rattle.crn_format.specs.Bits.{bit_count, spelled}
use Rattle.crn_format.specs.Codes.{Drawn, symbol_at, failed}
use Rattle.crn_symbol_codec.specs.Decoders.{walk, find, first_by, off_by}
use Rattle.crn_symbol_codec.proofs.Walking.{walk-ended, walk_more}

pub first_step : (cs : List ℕ) (k : ℕ) → first_by cs (k + 1) ≡ 2 * (first_by cs k + get_or cs (k + 1) 0)
unfolding first_by
first_step cs k = ap (first_by cs) (add-one k)

pub off_step : (cs : List ℕ) (k : ℕ) → off_by cs (k + 1) ≡ off_by cs k + get_or cs (k + 1) 0
unfolding off_by
off_step cs k = ap (off_by cs) (add-one k)

-- what a walk answers once its code is known to have l bits
abbrev pub if_there : List ℕ → ℕ → ℕ → ℕ → Drawn
if_there s p y l = pick (leb (p + l) (bit_count s)) (symbol_at y (p + l)) (failed 8)

-- what a walk over m lengths answers once the codes of up to j bits are passed
abbrev pub rest_from : List ℕ → List ℕ → List ℕ → ℕ → ℕ → ℕ → Drawn
rest_from cs ss s p m j = pick (leb (p + j) (bit_count s)) (walk cs ss s p (m - j) j (first_by cs j) (off_by cs j)) (failed 8)

-- ---- finding a code by the bits alone

-- no code of k + 1 bits
pub missed : (cs ss : List ℕ) (g : ℕ → ℕ) (n k : ℕ) → find cs ss g (suc n) k (first_by cs k) (off_by cs k) ≡ 0
    → (first_by cs k + get_or cs (k + 1) 0 ≤ g (k + 1)) × (find cs ss g n (k + 1) (first_by cs (k + 1)) (off_by cs (k + 1)) ≡ 0)
unfolding find
missed cs ss g n k e = go (dec_lt (g (k + 1)) (first_by cs k + get_or cs (k + 1) 0))
  where
    go : Dec (g (k + 1) < first_by cs k + get_or cs (k + 1) 0)
        → (first_by cs k + get_or cs (k + 1) 0 ≤ g (k + 1)) × (find cs ss g n (k + 1) (first_by cs (k + 1)) (off_by cs (k + 1)) ≡ 0)
    go (yes v) = absurd (omega (arith, simp (lt-ltb _ _ v) at e))
    go (no v) =
        let v' : first_by cs k + get_or cs (k + 1) 0 ≤ g (k + 1) = omega arith in
        (v', rw (first_step cs k, off_step cs k) (simp (le-ltb _ _ v') at e))

-- g has the first bits of s at p, up to w of them
module _ (cs ss s : List ℕ) (p w : ℕ) (g : ℕ → ℕ) (same : (j : ℕ) → j ≤ w → g j ≡ spelled s p j) where
  -- ---- an entry that is not 0

  by_entry : (n m k f o y l : ℕ) → k + n ≤ w → n ≤ m → 0 < l → l < 64 → w < 64 → find cs ss g n k f o ≡ 64 * y + l
      → (walk cs ss s p m k f o ≡ if_there s p y l) × (k < l) × (l ≤ k + n)
  unfolding find walk
  by_entry zero m k f o y l a b pos low sm e = absurd (omega arith)
  by_entry (suc n) zero k f o y l a b pos low sm e = absurd (omega arith)
  by_entry (suc n) (suc m) k f o y l a b pos low sm e =
      go (by_entry n m (k + 1) (2 * (f + get_or cs (k + 1) 0)) (o + get_or cs (k + 1) 0) y l (omega arith) (omega arith) pos low sm)
      (dec_lt (g (k + 1)) (f + get_or cs (k + 1) 0)) (dec_le (p + (k + 1)) (bit_count s))
    where
      gk : g (k + 1) ≡ spelled s p (k + 1)
      gk = same (k + 1) (omega arith)

      go : (find cs ss g n (k + 1) (2 * (f + get_or cs (k + 1) 0)) (o + get_or cs (k + 1) 0) ≡ 64 * y + l
          → (walk cs ss s p m (k + 1) (2 * (f + get_or cs (k + 1) 0)) (o + get_or cs (k + 1) 0) ≡ if_there s p y l) × (k + 1 < l) ×
          (l ≤ k + 1 + n))
          → Dec (g (k + 1) < f + get_or cs (k + 1) 0) → Dec (p + (k + 1) ≤ bit_count s)
          → (walk cs ss s p (suc m) k f o ≡ if_there s p y l) × (k < l) × (l ≤ k + suc n)
      go ih (yes v) d =
          let v' : spelled s p (k + 1) < f + get_or cs (k + 1) 0 = omega (arith, gk) in
          let u = simp (gk, lt-ltb _ _ v') at e in
          let el : k + 1 ≡ l = omega (arith, u) in
          let ey : get_or ss (o + (spelled s p (k + 1) - f)) 0 ≡ y = omega (arith, u) in
          (rw (← el, ← ey) (simp (lt-ltb _ _ v')), omega arith, omega arith)
      go ih (no v) (yes d) =
          let v' : f + get_or cs (k + 1) 0 ≤ spelled s p (k + 1) = omega (arith, gk) in
          let r = ih (simp (le-ltb (g (k + 1)) (f + get_or cs (k + 1) 0) (omega arith)) at e) in
          (simp (le-ltb _ _ v', le-leb _ _ d) r.0, omega (arith, r.1), omega (arith, r.2))
      go ih (no v) (no d) =
          let r = ih (simp (le-ltb (g (k + 1)) (f + get_or cs (k + 1) 0) (omega arith)) at e) in (
            simp (lt-leb (p + (k + 1)) (bit_count s) (omega arith), lt-leb (p + l) (bit_count s) (omega (arith, r.1))),
            omega (arith, r.1),
            omega (arith, r.2),
          )

  -- such an entry has a length in it
  find_shape : (n k f o : ℕ) → k + n < 64 → find cs ss g n k f o % 64 ≡ 0 → find cs ss g n k f o ≡ 0
  unfolding find
  find_shape zero k f o a e = refl
  find_shape (suc n) k f o a e =
      go (find_shape n (k + 1) (2 * (f + get_or cs (k + 1) 0)) (o + get_or cs (k + 1) 0) (omega arith))
      (dec_lt (g (k + 1)) (f + get_or cs (k + 1) 0))
    where
      go : (find cs ss g n (k + 1) (2 * (f + get_or cs (k + 1) 0)) (o + get_or cs (k + 1) 0) % 64 ≡ 0
          → find cs ss g n (k + 1) (2 * (f + get_or cs (k + 1) 0)) (o + get_or cs (k + 1) 0) ≡ 0)
          → Dec (g (k + 1) < f + get_or cs (k + 1) 0) → find cs ss g (suc n) k f o ≡ 0
      go ih (yes v) = absurd (omega (arith, simp (lt-ltb _ _ v) at e))
      go ih (no v) =
          let h = le-ltb (g (k + 1)) (f + get_or cs (k + 1) 0) (omega arith) in
          simp h (ih (simp h at e))

  -- ---- an entry that is 0: the codes of up to k + n bits are passed

  module _ (m : ℕ) (wm : w ≤ m) where
    by_miss : (n k : ℕ) → k + n ≤ w → p + k ≤ bit_count s → find cs ss g n k (first_by cs k) (off_by cs k) ≡ 0
        → walk cs ss s p (m - k) k (first_by cs k) (off_by cs k) ≡ rest_from cs ss s p m (k + n)
    by_miss zero k a h e = rw add-zero (simp (le-leb _ _ h))
    by_miss (suc n) k a h e = go (by_miss n (k + 1) (omega arith)) (dec_le (p + (k + 1)) (bit_count s))
      where
        here : (first_by cs k + get_or cs (k + 1) 0 ≤ g (k + 1)) × (find cs ss g n (k + 1) (first_by cs (k + 1)) (off_by cs (k + 1)) ≡ 0)
        here = missed cs ss g n k e

        kn : k + suc n ≡ k + 1 + n
        kn = omega arith

        go : (p + (k + 1) ≤ bit_count s → find cs ss g n (k + 1) (first_by cs (k + 1)) (off_by cs (k + 1)) ≡ 0
            → walk cs ss s p (m - (k + 1)) (k + 1) (first_by cs (k + 1)) (off_by cs (k + 1)) ≡ rest_from cs ss s p m (k + 1 + n))
            → Dec (p + (k + 1) ≤ bit_count s) → walk cs ss s p (m - k) k (first_by cs k) (off_by cs k) ≡ rest_from cs ss s p m (k + suc n)
        go ih (yes d) =
            let v = walk_more cs ss s p m k (first_by cs k) (off_by cs k) (omega arith) d
            (omega (arith, here.0, same (k + 1) (omega arith))) in
            rw kn (rw (← first_step cs k, ← off_step cs k) at v ∙ ih d here.1)
        go ih (no d) =
            let q : bit_count s < p + (k + suc n) = omega arith in
            rw (lt-leb _ _ q) (walk-ended cs ss s p m k (first_by cs k) (off_by cs k) (omega arith) (omega arith))

module _ (cs ss s : List ℕ) (p m w : ℕ) (wm : w ≤ m) (g : ℕ → ℕ) (same : (j : ℕ) → j ≤ w → g j ≡ spelled s p j) where
  -- an entry e that is not 0 says what the walk finds
  pub hit : (e : ℕ) → w < 64 → e ≡ find cs ss g w 0 0 0 → (e ≡ 0 → ⊥)
      → (walk cs ss s p m 0 0 0 ≡ if_there s p (e / 64) (e % 64)) × (0 < e % 64) × (e % 64 ≤ w)
  hit e sm is some =
      let some-length = pos (dec_lt 0 (e % 64)) in
      let r = by_entry cs ss s p w g same w m 0 0 0 (e / 64) (e % 64) (omega arith) wm some-length (omega arith) sm (sym is ∙ omega arith)
      in
      (r.0, r.1, omega (arith, r.2))
    where
      pos : Dec (0 < e % 64) → 0 < e % 64
      pos (yes h) = h
      pos (no h) = absurd (some (is ∙ find_shape cs ss s p w g same w 0 0 0 (omega arith) (rw is at (low h))))
        where
          low : (0 < e % 64 → ⊥) → e % 64 ≡ 0
          low q = omega arith

  -- where it is 0 the walk goes on from the length w
  pub miss : p ≤ bit_count s → find cs ss g w 0 0 0 ≡ 0 → walk cs ss s p m 0 0 0 ≡ rest_from cs ss s p m w
  unfolding first_by off_by
  miss q e =
      let z : 0 + w ≡ w = omega arith in
      let all : m - 0 ≡ m = omega arith in
      rw (all, z) at (by_miss cs ss s p w g same m wm w 0 (omega arith) (omega arith) e)

-- without codes every entry is 0
pub find_none : (cs ss : List ℕ) (g : ℕ → ℕ) (n k o : ℕ) → ((l : ℕ) → l < 17 → get_or cs l 0 ≡ 0) → k + n < 17 → find cs ss g n k 0 o ≡ 0
unfolding find
find_none cs ss g zero k o none h = refl
find_none cs ss g (suc n) k o none h =
    simp (none (k + 1) (omega arith), le-ltb (g (k + 1)) 0 (omega arith)) (find_none cs ss g n (k + 1) (o + 0) none (omega arith))

-- the symbols before those of more than k bits are not too many
pub off_small : (cs : List ℕ) (k : ℕ) → ((l : ℕ) → l < 17 → get_or cs l 0 ≤ 65535) → k < 17 → off_by cs k ≤ 65535 * k
unfolding off_by
off_small cs zero few h = omega arith
off_small cs (suc k) few h = omega (arith, off_small cs k few (omega arith), few (k + 1) (omega arith))
