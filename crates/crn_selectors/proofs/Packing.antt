-- A turn of packing: a pair of values, the k-th and the next, is written above those before it.
use Prim.Native.Nat.{ℕ, zero, suc, ◌+◌, ◌*◌, ◌%◌, ◌^◌, ◌<◌, ◌≤◌}
use mathlib.Core.List.{List}
use mathlib.Core.Path.{◌≡◌, refl, sym, ap, ap₂, ◌∙◌}
use native.Mathlib.Omega.{arith}
use native.Mathlib.Nat.{mul_comm, mul_assoc, add-mul, suc-mul, mul-suc, mul-le-mul_right}
use native.Mathlib.Numerals.{add-one}
use lib.ListN.{get_or, set}
use lib.Seq.{get_or-set_other}
use lib.Pow.{pow-add, pow_mono, shl_exact}
use Rattle.crn_format.specs.Palettes.{from_linear, packed}

-- the first k values, `bits` bits each, take the lowest `shift` bits of the word
pub record Packed (top bits : ℕ) (vs : List ℕ) (word k shift : ℕ) : Type 0 where
  pub within : k ≤ 16
  pub place : shift ≡ bits * k
  pub near : shift ≤ 3 * k
  pub same : word ≡ packed top bits vs k
  pub small : word < 2 ^ shift

above : (word w s b : ℕ) → word < 2 ^ s → w < 2 ^ b → word + w * 2 ^ s < 2 ^ (s + b)
above word w s b h l =
    let m : suc w * 2 ^ s ≤ 2 ^ b * 2 ^ s = mul-le-mul_right (2 ^ s) l in
    omega (arith, m, suc-mul w (2 ^ s), pow-add 2 s b, mul_comm (2 ^ s) (2 ^ b))

pub packed_none : (top : ℕ) (bits : ℕ) (vs : List ℕ) → Packed top bits vs 0 0 0
unfolding packed
packed_none top bits vs = record { within = omega arith; place = omega arith; near = omega arith; same = refl; small = omega arith }

module _ {top bits : ℕ} {vs : List ℕ} {word k shift w : ℕ} (x : Packed top bits vs word k shift) (few : bits ≤ 3) (h : k < 16)
    (l : w < 2 ^ bits) where
  exact : w * 2 ^ shift % 2 ^ 64 ≡ w * 2 ^ shift
  exact = shl_exact bits shift 64 l (omega (arith, x.near))

  packed-fits : word + w * 2 ^ shift % 2 ^ 64 < 2 ^ 64
  packed-fits = rw exact (omega (arith, above word w shift bits x.small l, pow_mono {i = shift + bits} {j = 64} (omega (arith, x.near))))

  packed_more : w ≡ from_linear top (get_or vs k 0) → Packed top bits vs (word + w * 2 ^ shift % 2 ^ 64) (k + 1) (shift + bits)
  unfolding packed
  packed_more e =
      record {
        within = omega arith;
        place = omega (arith, x.place, ap (λ (n : ℕ). bits * n) (add-one k), mul-suc bits k);
        near = omega (arith, x.near);
        same =
            ap (λ (n : ℕ). word + n) (exact ∙ mul_comm w (2 ^ shift) ∙ ap (λ (n : ℕ). 2 ^ shift * n) e)
            ∙ ap (λ (n : ℕ). n + 2 ^ shift * from_linear top (get_or vs k 0)) x.same
            ∙ ap (λ (n : ℕ). packed top bits vs k + 2 ^ n * from_linear top (get_or vs k 0)) x.place
            ∙ ap (packed top bits vs) (sym (add-one k));
        small = rw exact (above word w shift bits x.small l);
      }

-- what is packed stays where a later value is changed
kept : (top : ℕ) (bits : ℕ) (vs : List ℕ) (i v n : ℕ) → n ≤ i → packed top bits (set vs i v) n ≡ packed top bits vs n
unfolding packed
kept top bits vs i v zero h = refl
kept top bits vs i v (suc n) h =
    ap₂ (λ (p q : ℕ). p + 2 ^ (bits * n) * from_linear top q) (kept top bits vs i v n (omega arith))
    (get_or-set_other vs i n v 0 (λ e. omega arith))

pub packed-kept : {top bits : ℕ} {vs : List ℕ} {word k shift : ℕ} → Packed top bits vs word k shift → (i v : ℕ) → k ≤ i
    → Packed top bits (set vs i v) word k shift
packed-kept {top} {bits} {vs} {k = k} x i v h =
    record { within = x.within; place = x.place; near = x.near; same = x.same ∙ sym (kept top bits vs i v k h); small = x.small }

module _ {top bits : ℕ} {vs : List ℕ} {word k shift : ℕ} (v w : ℕ) (x : Packed top bits vs word k shift) (few : bits ≤ 3) (h : k + 1 < 16)
    (l : v < 2 ^ bits) (m : w < 2 ^ bits) where
  both : (v + 2 ^ bits * w) * 2 ^ shift ≡ v * 2 ^ shift + w * 2 ^ (shift + bits)
  both =
      add-mul v (2 ^ bits * w) (2 ^ shift)
      ∙ ap (λ (n : ℕ). v * 2 ^ shift + n * 2 ^ shift) (mul_comm (2 ^ bits) w)
      ∙ ap (λ (n : ℕ). v * 2 ^ shift + n) (mul_assoc w (2 ^ bits) (2 ^ shift) ∙ ap (λ (n : ℕ). w * n)
      (mul_comm (2 ^ bits) (2 ^ shift) ∙ sym (pow-add 2 shift bits)))

  whole : (v + 2 ^ bits * w) * 2 ^ shift % 2 ^ 64 ≡ (v + 2 ^ bits * w) * 2 ^ shift
  whole = shl_exact (bits + bits) shift 64 (rw (mul_comm (2 ^ bits) w) (above v w bits bits l m)) (omega (arith, x.near))

  module _ (e : v ≡ from_linear top (get_or vs k 0)) (f : w ≡ from_linear top (get_or vs (k + 1) 0)) where
    first : Packed top bits vs (word + v * 2 ^ shift % 2 ^ 64) (k + 1) (shift + bits)
    first = packed_more x few (omega arith) l e

    sum : word + v * 2 ^ shift % 2 ^ 64 + w * 2 ^ (shift + bits) % 2 ^ 64 ≡ word + (v + 2 ^ bits * w) * 2 ^ shift % 2 ^ 64
    sum = rw (whole, exact x few (omega arith) l, exact first few (omega arith) m) (omega (arith, both))

    pub two_fit : word + (v + 2 ^ bits * w) * 2 ^ shift % 2 ^ 64 < 2 ^ 64
    two_fit = rw (← sum) (packed-fits first few (omega arith) m)

    pub packed-two : Packed top bits vs (word + (v + 2 ^ bits * w) * 2 ^ shift % 2 ^ 64) (k + 1 + 1) (shift + bits + bits)
    packed-two = rw sum at (packed_more first few (omega arith) m f)
