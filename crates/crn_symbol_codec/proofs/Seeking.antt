-- Finding a code in 64 bits: by the entry of the first of them, and then length by length.
use Prim.Native.Nat.{ℕ, zero, suc, ◌+◌, ◌-◌, ◌*◌, ◌/◌, ◌^◌, ◌<◌, ◌≤◌}
use mathlib.Core.List.{List}
use mathlib.Core.Path.{◌≡◌, refl, sym, ap, ◌∙◌}
use native.Mathlib.Decide.{dec_lt, ℕ_discrete}
use native.Mathlib.Omega.{arith}
use native.Mathlib.Nat.{add-zero, lt_of_lt_of_le}
use lib.ListN.{length, get_or, take, drop, length-drop}
use lib.Seq.{get_or-drop, take_all}
use lib.Pow.{shr_lt, shr-shr, pow_mono}
use borrow.Author.Tests.{lt-ltb, le-ltb}
use Rattle.crn_symbol_codec.specs.Decoders.{width_in, longest_in, first_in, offset_in, counts_in, entries_in, find, front, found_in, short_in, first_by, off_by, Usable}
use Rattle.crn_symbol_codec.proofs.Finding.{first_step, off_step, missed, find_none, off_small}

-- ---- over any bits, of which g l are the first l

-- only the first w bits matter
find_cong : (cs ss : List ℕ) {g h : ℕ → ℕ} (w : ℕ) → ((j : ℕ) → j ≤ w → g j ≡ h j) → (n k f o : ℕ) → k + n ≤ w → find cs ss g n k f o ≡ find
    cs ss h n k f o
unfolding find
find_cong cs ss w same zero k f o a = refl
find_cong cs ss w same (suc n) k f o a = rw (
  same (k + 1) (omega arith),
  find_cong cs ss w same n (k + 1) (2 * (f + get_or cs (k + 1) 0))
      (o + get_or cs (k + 1) 0) (omega arith),
)

module _ (cs ss : List ℕ) (g : ℕ → ℕ) where
  -- more lengths find what fewer found
  find_hit : (n m k f o : ℕ) → n ≤ m → (find cs ss g n k f o ≡ 0 → ⊥) → find cs ss g m k f o ≡ find cs ss g n k f o
  unfolding find
  find_hit zero m k f o a some = absurd (some refl)
  find_hit (suc n) zero k f o a some = absurd (omega arith)
  find_hit (suc n) (suc m) k f o a some = go (find_hit n m (k + 1) (2 * (f + get_or cs (k + 1) 0)) (o + get_or cs (k + 1) 0) (omega arith))
      (dec_lt (g (k + 1)) (f + get_or cs (k + 1) 0))
    where
      go : ((find cs ss g n (k + 1) (2 * (f + get_or cs (k + 1) 0)) (o + get_or cs (k + 1) 0) ≡ 0 → ⊥)
          → find cs ss g m (k + 1) (2 * (f + get_or cs (k + 1) 0)) (o + get_or cs (k + 1) 0) ≡ find cs ss g n (k + 1)
          (2 * (f + get_or cs (k + 1) 0)) (o + get_or cs (k + 1) 0))
          → Dec (g (k + 1) < f + get_or cs (k + 1) 0) → find cs ss g (suc m) k f o ≡ find cs ss g (suc n) k f o
      go ih (yes v) = simp (lt-ltb _ _ v)
      go ih (no v) =
          let h = le-ltb (g (k + 1)) (f + get_or cs (k + 1) 0) (omega arith) in
          simp h (ih (λ z. some (simp h z)))

  -- and go on where fewer found nothing
  find_miss : (n m k : ℕ) → n ≤ m → find cs ss g n k (first_by cs k) (off_by cs k) ≡ 0
      → find cs ss g m k (first_by cs k) (off_by cs k) ≡ find cs ss g (m - n) (k + n) (first_by cs (k + n)) (off_by cs (k + n))
  unfolding find
  find_miss zero m k a e = let z : m - 0 ≡ m = omega arith in rw (z, add-zero)
  find_miss (suc n) zero k a e = absurd (omega arith)
  find_miss (suc n) (suc m) k a e =
      let here = missed cs ss g n k e in
      let kn : k + suc n ≡ k + 1 + n = omega arith in
      let mn : suc m - suc n ≡ m - n = omega arith in
      rw (kn, mn) (simp (le-ltb _ _ here.0, sym (first_step cs k), sym (off_step cs k)) (find_miss n m (k + 1) (omega arith) here.1))

  -- the bits are then not below the first longer code
  module _ (w : ℕ) (double : (j : ℕ) → j < w → 2 * g j ≤ g (j + 1)) where
    find-low : (n k : ℕ) → k + n < w → first_by cs k ≤ g (k + 1) → find cs ss g n k (first_by cs k) (off_by cs k) ≡ 0 → first_by cs (k + n)
        ≤ g (k + n + 1)
    find-low zero k a h e = rw add-zero h
    find-low (suc n) k a h e =
        let kn : k + suc n ≡ k + 1 + n = omega arith in
        let here = missed cs ss g n k e in
        rw kn (find-low n (k + 1) (omega arith) (omega (arith, first_step cs k, double (k + 1) (omega arith), here.0)) here.1)

  -- ---- a turn, where m is the longest length

  module _ {m k : ℕ} (f o : ℕ) (l : k < m) where
    left : m - k ≡ suc (m - (k + 1))
    left = omega arith

    find-here : g (k + 1) < f + get_or cs (k + 1) 0 → find cs ss g (m - k) k f o ≡ 64 * get_or ss (o + (g (k + 1) - f)) 0 + (k + 1)
    unfolding find
    find-here h = rw left (simp (lt-ltb _ _ h))

    find-more : f + get_or cs (k + 1) 0 ≤ g (k + 1) → find cs ss g (m - k) k f o ≡ find cs ss g (m - (k + 1)) (k + 1)
        (2 * (f + get_or cs (k + 1) 0)) (o + get_or cs (k + 1) 0)
    unfolding find
    find-more h = rw left (simp (le-ltb _ _ h))

  find_done : {m k : ℕ} (f o : ℕ) → m ≤ k → find cs ss g (m - k) k f o ≡ 0
  unfolding find
  find_done {m} {k} f o h = let e : m - k ≡ 0 = omega arith in rw e

-- ---- 64 bits

double : (bits j : ℕ) → j < 64 → 2 * front 64 bits j ≤ front 64 bits (j + 1)
double bits j h =
    let e : 64 - j ≡ (64 - (j + 1)) + 1 = omega arith in
    let q : bits / 2 ^ (64 - j) ≡ bits / 2 ^ (64 - (j + 1)) / 2 = rw e (sym (shr-shr bits (64 - (j + 1)) 1)) in
    omega (arith, q)

-- in two shifts
pub front-twice : (bits a b l : ℕ) → a + b ≡ 64 - l → bits / 2 ^ a / 2 ^ b ≡ front 64 bits l
front-twice bits a b l e = shr-shr bits a b ∙ ap (λ (k : ℕ). bits / 2 ^ k) e

-- the entries, as a slice
entries-whole : (lookup : List ℕ) → take (length lookup - 32) (drop 32 lookup) ≡ entries_in lookup
entries-whole lookup = take_all (length lookup - 32) (drop 32 lookup) (omega (arith, length-drop 32 lookup))

pub entries-length : (lookup : List ℕ) → length (take (length lookup - 32) (drop 32 lookup)) ≡ length lookup - 32
entries-length lookup = ap length (entries-whole lookup) ∙ length-drop 32 lookup

module _ {lookup sorted : List ℕ} (u : Usable lookup sorted) where
  -- ---- the entry of the first bits

  module _ (bits : ℕ) (fits : bits < 2 ^ 64) where
    index : front 64 bits (width_in lookup) < 2 ^ width_in lookup
    index =
        let e : width_in lookup + (64 - width_in lookup) ≡ 64 = omega (arith, u.few) in
        shr_lt (width_in lookup) (64 - width_in lookup) (rw e fits)

    pub within-entries : 32 + front 64 bits (width_in lookup) < length lookup
    within-entries = omega (arith, index, u.entries.long, length-drop 32 lookup)

    pub entry-short : get_or (take (length lookup - 32) (drop 32 lookup)) (front 64 bits (width_in lookup)) 0 ≡ short_in lookup sorted bits
    entry-short =
        ap (λ (es : List ℕ). get_or es (front 64 bits (width_in lookup)) 0) (entries-whole lookup)
        ∙ u.entries.each (front 64 bits (width_in lookup)) index
        ∙ find_cong (counts_in lookup) sorted (width_in lookup)
        (λ j h. front-twice bits (64 - width_in lookup) (width_in lookup - j) j (omega (arith, u.few))) (width_in lookup) 0 0 0
        (omega arith)

  -- one that is not 0 is what the bits begin with
  pub short-found : (bits : ℕ) → (short_in lookup sorted bits ≡ 0 → ⊥) → short_in lookup sorted bits ≡ found_in lookup sorted bits
  short-found bits some = sym (find_hit (counts_in lookup) sorted (front 64 bits) (width_in lookup) (longest_in lookup) 0 0 0
      (coded (ℕ_discrete (longest_in lookup) 0)) some)
    where
      coded : Dec (longest_in lookup ≡ 0) → width_in lookup ≤ longest_in lookup
      coded (yes z) = absurd (some (find_none (counts_in lookup) sorted (front 64 bits) (width_in lookup) 0 0 (u.none z)
          (omega (arith, u.few))))
      coded (no z) = u.under (omega arith)

-- ---- the codes of more than `width_in lookup` bits

-- what the codes of up to k bits leave: the code to come is not below `first`, and its symbol stands from `offset` on
pub record Long (lookup sorted : List ℕ) (bits k first offset : ℕ) : Type 0 where
  pub low : k < longest_in lookup → first ≤ front 64 bits (k + 1)
  pub few : k < longest_in lookup → offset ≤ 65535 * k
  pub same : find (counts_in lookup) sorted (front 64 bits) (longest_in lookup - k) k first offset ≡ found_in lookup sorted bits

found_none : (lookup sorted : List ℕ) (bits : ℕ) → longest_in lookup ≡ 0 → found_in lookup sorted bits ≡ 0
unfolding find
found_none lookup sorted bits z = rw z

module _ {lookup sorted : List ℕ} (u : Usable lookup sorted) {bits : ℕ} where
  pub long_begins : short_in lookup sorted bits ≡ 0 → Long lookup sorted bits (width_in lookup) (first_in lookup) (offset_in lookup)
  unfolding first_by off_by
  long_begins missed-all = go (ℕ_discrete (longest_in lookup) 0)
    where
      cs : List ℕ
      cs = counts_in lookup

      at_width : 0 + width_in lookup ≡ width_in lookup
      at_width = omega arith

      go : Dec (longest_in lookup ≡ 0) → Long lookup sorted bits (width_in lookup) (first_in lookup) (offset_in lookup)
      go (yes z) =
          record {
            low = λ l. absurd (omega arith);
            few = λ l. absurd (omega arith);
            same = find_done cs sorted (front 64 bits) _ _ (omega arith) ∙ sym (found_none lookup sorted bits z);
          }
      go (no z) =
          record {
            low = λ l. rw u.first (rw at_width at (find-low cs sorted (front 64 bits) 64 (double bits) (width_in lookup) 0
                (omega (arith, u.few)) (omega arith) missed-all));
            few = λ l. rw u.offset (off_small cs (width_in lookup) u.counts (omega (arith, u.few)));
            same = rw (u.first, u.offset) (sym (rw at_width at (find_miss cs sorted (front 64 bits) (width_in lookup) (longest_in lookup) 0
                (u.under (omega arith)) missed-all)));
          }

  module _ {k first offset : ℕ} (t : Long lookup sorted bits k first offset) where
    pub long_done : longest_in lookup ≤ k → 0 ≡ found_in lookup sorted bits
    long_done l = sym (find_done (counts_in lookup) sorted (front 64 bits) first offset l) ∙ t.same

    -- a turn's numbers are small
    pub long-small : bits < 2 ^ 64 → k < longest_in lookup → (front 64 bits (k + 1) < 65536) × (get_or lookup (8 + (k + 1)) 0 ≤ 65535)
    long-small fits l =
        let e : (k + 1) + (64 - (k + 1)) ≡ 64 = omega (arith, u.most) in (
          lt_of_lt_of_le (shr_lt (k + 1) (64 - (k + 1)) (rw e fits)) (pow_mono {i = k + 1} {j = 16} (omega (arith, u.most))),
          rw get_or-drop
              at (u.counts (k + 1) (omega (arith, u.most))),
        )

    -- a length more: v are the bits, n is how many codes have it
    module _ (v n : ℕ) (l : k < longest_in lookup) (v-is : v ≡ front 64 bits (k + 1)) (n-is : n ≡ get_or lookup (8 + (k + 1)) 0) where
      count_is : n ≡ get_or (counts_in lookup) (k + 1) 0
      count_is = n-is ∙ sym (get_or-drop 8 lookup (k + 1) 0)

      pub long-found : v < first + n → 64 * get_or sorted (offset + (v - first)) 0 + (k + 1) ≡ found_in lookup sorted bits
      long-found b =
          let g : front 64 bits (k + 1) < first + get_or (counts_in lookup) (k + 1) 0 = omega (arith, v-is, count_is) in
          rw v-is (sym (find-here (counts_in lookup) sorted (front 64 bits) first offset l g) ∙ t.same)

      pub long-more : first + n ≤ v → Long lookup sorted bits (k + 1) (2 * (first + n)) (offset + n)
      long-more b =
          let g : first + get_or (counts_in lookup) (k + 1) 0 ≤ front 64 bits (k + 1) = omega (arith, v-is, count_is) in
          record {
            low = λ m. omega (arith, v-is, double bits (k + 1) (omega (arith, u.most)));
            few = λ m. omega (arith, t.few l, count_is, u.counts (k + 1) (omega (arith, u.most)));
            same = rw count_is (sym (find-more (counts_in lookup) sorted (front 64 bits) first offset l g) ∙ t.same);
          }
