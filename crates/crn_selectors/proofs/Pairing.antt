-- Pairs of values in the halves of bytes: a symbol changes a pair as it changes its values.
use Prim.Native.Nat.{ℕ, zero, suc, ◌+◌, ◌*◌, ◌/◌, ◌%◌, ◌^◌, ◌<◌, ◌≤◌}
use mathlib.Core.Bool.{Bool, true, false}
use mathlib.Core.List.{List, [], ◌∷◌}
use mathlib.Core.Path.{◌≡◌, refl, sym, ap, ap₂, ◌∙◌}
use native.Mathlib.Omega.{arith}
use native.Mathlib.Decide.{ℕ_discrete, dec_lt}
use native.Mathlib.Nat.{add-mod-mod}
use lib.ListN.{length, get_or, set, replicate, length-set, length-replicate}
use lib.Seq.{get_or-set_same, get_or-set_other, set_out}
use borrow.Author.Tests.{lt-ltb}
use Rattle.crn_format.specs.Palettes.{delta_count, raised, pair_moved, from_linear}
use Rattle.crn_format.proofs.Zeros.{zeros-at}
use Rattle.crn_format.proofs.SelectorOrder.{written-within}
use Rattle.crn_consts.specs.declared.Deltas.{Deltas}
use Rattle.crn_consts.specs.AlphaDeltas.{AlphaDeltas}
use Rattle.crn_selectors.specs.Selectors.{top_of, bits_of, DeltasOf, Halves, values_of, Pairs, PairDelta, PairMoved, written_pair}
use Rattle.crn_selectors.proofs.Packing.{Packed, packed-kept, two_fit, packed-two}

-- ---- a list by its indices

-- one more element of a table
pub table_more : (P : ℕ → ℕ → Type 0) (out : List ℕ) (i v : ℕ) → i < length out → ((k : ℕ) → k < i → P k (get_or out k 0)) → P i v → (k : ℕ)
    → k < i + 1 → P k (get_or (set out i v) k 0)
table_more P out i v h below here k l = go (ℕ_discrete k i)
  where
    go : Dec (k ≡ i) → P k (get_or (set out i v) k 0)
    go (yes e) = rw (e, get_or-set_same out i v 0 h) here
    go (no e) = rw (get_or-set_other out i k v 0 e) (below k (omega arith))

-- ---- the values of pairs

pub values_first : (ps : List ℕ) (j : ℕ) → get_or (values_of ps) (2 * j) 0 ≡ get_or ps j 0 % 16
unfolding values_of
values_first [] j = refl
values_first (p ∷ ps) zero = refl
values_first (p ∷ ps) (suc j) = let t : 2 * suc j ≡ suc (suc (2 * j)) = omega arith in rw t (values_first ps j)

pub values_second : (ps : List ℕ) (j : ℕ) → get_or (values_of ps) (2 * j + 1) 0 ≡ get_or ps j 0 / 16
unfolding values_of
values_second [] j = refl
values_second (p ∷ ps) zero = refl
values_second (p ∷ ps) (suc j) = let t : 2 * suc j + 1 ≡ suc (suc (2 * j + 1)) = omega arith in rw t (values_second ps j)

pub values_set : (ps : List ℕ) (j p : ℕ) → values_of (set ps j p) ≡ set (set (values_of ps) (2 * j) (p % 16)) (2 * j + 1) (p / 16)
unfolding values_of
values_set [] j p = refl
values_set (x ∷ ps) zero p = refl
values_set (x ∷ ps) (suc j) p =
    let t : 2 * suc j ≡ suc (suc (2 * j)) = omega arith in
    let u : 2 * suc j + 1 ≡ suc (suc (2 * j + 1)) = omega arith in
    rw (u, t) (ap (λ (l : List ℕ). x % 16 ∷ x / 16 ∷ l) (values_set ps j p))

-- ---- how far a half goes

below_top : (alpha : Bool) {x : ℕ} (y : ℕ) → x ≡ y % (top_of alpha + 1) → x ≤ top_of alpha
below_top true y e = omega arith
below_top false y e = omega arith

pub delta_halves : {alpha : Bool} {s delta : ℕ} → PairDelta alpha s delta → Halves alpha delta
delta_halves {alpha} {s} d =
    record {
      first = below_top alpha (raised (top_of alpha) (s % delta_count (top_of alpha))) d.first;
      second = below_top alpha (raised (top_of alpha) (s / delta_count (top_of alpha))) d.second;
    }

pub moved-halves : {alpha : Bool} {pair delta r : ℕ} → PairMoved alpha pair delta r → Halves alpha r
moved-halves {alpha} {pair} {delta} m =
    record { first = below_top alpha (pair % 16 + delta % 16) m.first; second = below_top alpha (pair / 16 + delta / 16) m.second }

pub halves_small : (alpha : Bool) {pair : ℕ} → Halves alpha pair → pair < 128
halves_small true h = omega arith
halves_small false h = omega arith

-- an alpha symbol's deltas, from the constant table
pub table_deltas : {s : ℕ} {r : Deltas} → s < 225 → AlphaDeltas s r → DeltasOf true s r
table_deltas {s} {r} h d =
    let e : r ≡ record { first = raised 7 (s % 15); second = raised 7 (s / 15) } = simp (lt-ltb s 225 h) at d.rule in
    record { first = ap (λ (r : Deltas). r.first) e; second = ap (λ (r : Deltas). r.second) e; low = d.first; high = d.second }

-- a symbol's deltas, one in each half
pub pair_delta_is : (alpha : Bool) {t s a b : ℕ} → t ≡ top_of alpha → a ≡ raised (top_of alpha) (s % delta_count (top_of alpha))
    → b ≡ raised (top_of alpha) (s / delta_count (top_of alpha)) → PairDelta alpha s (a % (t + 1) + 16 * (b % (t + 1)))
pair_delta_is true e f g = rw e (record { first = omega (arith, f); second = omega (arith, g) })
pair_delta_is false e f g = rw e (record { first = omega (arith, f); second = omega (arith, g) })

-- all pairs are zero at first
halves-none : (alpha : Bool) → Halves alpha 0
halves-none true = record { first = omega arith; second = omega arith }
halves-none false = record { first = omega arith; second = omega arith }

pub pairs-zero : (alpha : Bool) → Pairs alpha (replicate 8 0)
pairs-zero alpha = record { long = length-replicate {A = ℕ} 8 0; halves = λ j. rw (zeros-at 8 j) (halves-none alpha) }

-- a value as it is written fits its bits
pub written_small : (alpha : Bool) (v : ℕ) → from_linear (top_of alpha) v < 2 ^ bits_of alpha
written_small true v = omega (arith, written-within 7 v (omega arith))
written_small false v = omega (arith, written-within 3 v (omega arith))

-- ---- a pair that is moved

module _ {alpha : Bool} (ps : List ℕ) (j : ℕ) {delta r : ℕ} (m : PairMoved alpha (get_or ps j 0) delta r) where
  pub values_moved : {s : ℕ} → PairDelta alpha s delta → values_of (set ps j r) ≡ pair_moved (top_of alpha) j s (values_of ps)
  values_moved {s} d =
      values_set ps j r
      ∙ ap₂ (λ (x y : ℕ). set (set (values_of ps) (2 * j) x) (2 * j + 1) y)
      (m.first ∙ ap (λ (n : ℕ). (get_or ps j 0 % 16 + n) % (top_of alpha + 1)) d.first
      ∙ add-mod-mod (get_or ps j 0 % 16) (raised (top_of alpha) (s % delta_count (top_of alpha))) (top_of alpha + 1)
      ∙ ap (λ (n : ℕ). (n + raised (top_of alpha) (s % delta_count (top_of alpha))) % (top_of alpha + 1)) (sym (values_first ps j)))
      (m.second ∙ ap (λ (n : ℕ). (get_or ps j 0 / 16 + n) % (top_of alpha + 1)) d.second
      ∙ add-mod-mod (get_or ps j 0 / 16) (raised (top_of alpha) (s / delta_count (top_of alpha))) (top_of alpha + 1)
      ∙ ap (λ (n : ℕ). (n + raised (top_of alpha) (s / delta_count (top_of alpha))) % (top_of alpha + 1)) (sym (values_second ps j)))

  pub pairs-moved : Pairs alpha ps → Pairs alpha (set ps j r)
  pairs-moved h = record { long = length-set ps j r ∙ h.long; halves = λ k. go k (ℕ_discrete k j) (dec_lt j (length ps)) }
    where
      go : (k : ℕ) → Dec (k ≡ j) → Dec (j < length ps) → Halves alpha (get_or (set ps j r) k 0)
      go k (no e) l = rw (get_or-set_other ps j k r 0 e) (h.halves k)
      go k (yes e) (yes l) = rw (e, get_or-set_same ps j r 0 l) (moved-halves m)
      go k (yes e) (no l) = rw (set_out ps j r (omega arith)) (h.halves k)

-- ---- a pair that is written

pub few_bits : (alpha : Bool) → bits_of alpha ≤ 3
few_bits true = omega arith
few_bits false = omega arith

-- r, which is written n, takes the place of the j-th pair
module _ (alpha : Bool) (ps : List ℕ) (j r : ℕ) {n word shift : ℕ}
    (x : Packed (top_of alpha) (bits_of alpha) (values_of ps) word (2 * j) shift) (h : j < 8) (l : j < length ps)
    (e : n ≡ written_pair alpha r) where
  before : Packed (top_of alpha) (bits_of alpha) (values_of (set ps j r)) word (2 * j) shift
  before = rw (values_set ps j r) (packed-kept (packed-kept x (2 * j) (r % 16) (omega arith)) (2 * j + 1) (r / 16) (omega arith))

  first-written : from_linear (top_of alpha) (r % 16) ≡ from_linear (top_of alpha) (get_or (values_of (set ps j r)) (2 * j) 0)
  first-written = rw (values_first (set ps j r) j, get_or-set_same ps j r 0 l)

  second-written : from_linear (top_of alpha) (r / 16) ≡ from_linear (top_of alpha) (get_or (values_of (set ps j r)) (2 * j + 1) 0)
  second-written = rw (values_second (set ps j r) j, get_or-set_same ps j r 0 l)

  first_small : from_linear (top_of alpha) (r % 16) < 2 ^ bits_of alpha
  first_small = written_small alpha (r % 16)

  second-small : from_linear (top_of alpha) (r / 16) < 2 ^ bits_of alpha
  second-small = written_small alpha (r / 16)

  pub pair_fits : word + n * 2 ^ shift % 2 ^ 64 < 2 ^ 64
  pair_fits = rw e (two_fit _ _ before (few_bits alpha) (omega arith) first_small second-small first-written second-written)

  pub pair-packed : {width : ℕ} → width ≡ 2 * bits_of alpha
      → Packed (top_of alpha) (bits_of alpha) (values_of (set ps j r)) (word + n * 2 ^ shift % 2 ^ 64) (2 * (j + 1)) (shift + width)
  pair-packed {width} f =
      let k : 2 * (j + 1) ≡ 2 * j + 1 + 1 = omega arith in
      let s : shift + width ≡ shift + bits_of alpha + bits_of alpha = omega (arith, f) in
      rw (e, k, s) (packed-two _ _ before (few_bits alpha) (omega arith) first_small second-small first-written second-written)
