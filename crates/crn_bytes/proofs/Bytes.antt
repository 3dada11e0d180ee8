-- The number that bits spell, part by part and byte by byte; and that of the same bytes with the first lowest.
use Prim.Native.Nat.{ℕ, zero, suc, ◌+◌, ◌-◌, ◌*◌, ◌/◌, ◌%◌, ◌^◌, ◌<◌, ◌≤◌}
use mathlib.Core.List.{List}
use mathlib.Core.Path.{◌≡◌, refl, sym, ap, ◌∙◌}
use native.Mathlib.Nat.{zero-div, add_assoc, mod-eq_of_lt, lt_of_lt_of_le}
use native.Mathlib.Decide.{dec_lt}
use native.Mathlib.Omega.{arith}
use lib.ListN.{length, get_or, get_or-eq_default}
use lib.Pow.{pow_mono, high, shr-shr}
use Rattle.crn_format.specs.Bits.{bit_count, bit_at, spelled}
use Rattle.crn_format.proofs.Drawing.{field_lt, field_add}
use Rattle.crn_utils.specs.Little.{little_at}

-- the first bits
pub field-front : (s : List ℕ) (p n c : ℕ) → spelled s p n ≡ spelled s p (n + c) / 2 ^ c
field-front s p n c = rw (field_add s p n c) (sym (high (spelled s p n) c (field_lt s (p + n) c)))

-- ---- past the end
pub bit_past : (s : List ℕ) (q : ℕ) → bit_count s ≤ q → bit_at s q ≡ 0
bit_past s q h =
    let g : length s ≤ q / 8 = omega arith in
    let z : get_or s (q / 8) 0 ≡ 0 = get_or-eq_default s 0 g in
    rw (z, zero-div)

pub field_past : (s : List ℕ) (p n : ℕ) → bit_count s ≤ p → spelled s p n ≡ 0
unfolding spelled
field_past s p zero h = refl
field_past s p (suc n) h = rw (field_past s p n h, bit_past s (p + n) (omega arith))

-- ---- a byte
bit_in : (s : List ℕ) (q k : ℕ) → k < 8 → bit_at s (8 * q + k) ≡ get_or s q 0 / 2 ^ (7 - k) % 2
bit_in s q k h =
    let e : (8 * q + k) / 8 ≡ q = omega arith in
    let f : (8 * q + k) % 8 ≡ k = omega arith in
    rw (e, f)

in_byte : (s : List ℕ) (q k : ℕ) → get_or s q 0 < 256 → k ≤ 8 → spelled s (8 * q) k ≡ get_or s q 0 / 2 ^ (8 - k)
unfolding spelled
in_byte s q zero b h = omega arith
in_byte s q (suc k) b h =
    let x = get_or s q 0 / 2 ^ (7 - k) in
    let e : 8 - k ≡ (7 - k) + 1 = omega arith in
    let f : 8 - suc k ≡ 7 - k = omega arith in
    let g : get_or s q 0 / 2 ^ (8 - k) ≡ x / 2 = rw e (sym (shr-shr (get_or s q 0) (7 - k) 1)) in
    rw f (omega (arith, in_byte s q k b (omega arith), bit_in s q k h, g))

field-byte : (s : List ℕ) (q : ℕ) → get_or s q 0 < 256 → spelled s (8 * q) 8 ≡ get_or s q 0
field-byte s q b = omega (arith, in_byte s q 8 b (omega arith))

-- ---- bytes, the first lowest
pub low-eight : (s : List ℕ) (i : ℕ)
    → little_at s i 8 ≡ get_or s i 0 + get_or s (i + 1) 0 * 256 + get_or s (i + 2) 0 * 65536 + get_or s (i + 3) 0 * 16777216
    + get_or s (i + 4) 0 * 4294967296 + get_or s (i + 5) 0 * 1099511627776 + get_or s (i + 6) 0 * 281474976710656
    + get_or s (i + 7) 0 * 72057594037927936
unfolding little_at
low-eight s i = simp add_assoc (omega arith)

-- where their number is 0, each of them is
pub low-none : (s : List ℕ) (n i : ℕ) → little_at s i n ≡ 0 → (k : ℕ) → i ≤ k → k < i + n → get_or s k 0 ≡ 0
unfolding little_at
low-none s zero i z k h l = omega arith
low-none s (suc n) i z k h l = go (dec_lt i k) (low-none s n (i + 1) (omega arith) k)
  where
    go : Dec (i < k) → (i + 1 ≤ k → k < i + 1 + n → get_or s k 0 ≡ 0) → get_or s k 0 ≡ 0
    go (yes g) later = later (omega arith) (omega arith)
    go (no g) later = let e : k ≡ i = omega arith in rw e (omega arith)

-- ---- bytes, the first highest
high-four : (s : List ℕ) (i : ℕ) → ((k : ℕ) → get_or s k 0 < 256)
    → spelled s (8 * i) 32 ≡ get_or s i 0 * 16777216 + get_or s (i + 1) 0 * 65536 + get_or s (i + 2) 0 * 256 + get_or s (i + 3) 0
high-four s i b =
    let e : 8 * i + 8 ≡ 8 * (i + 1) = omega arith in
    let f : 8 * i + 16 ≡ 8 * (i + 2) = omega arith in
    let g : 8 * i + 24 ≡ 8 * (i + 3) = omega arith in
    let second = rw e at (field_add s (8 * i) 8 8) in
    let third = rw f at (field_add s (8 * i) 16 8) in
    let fourth = rw g at (field_add s (8 * i) 24 8) in
    omega (
      arith,
      second,
      third,
      fourth,
      field-byte s i (b i),
      field-byte s (i + 1) (b (i + 1)),
      field-byte s (i + 2) (b (i + 2)),
      field-byte s (i + 3) (b (i + 3)),
    )

pub high-eight : (s : List ℕ) (i : ℕ) → ((k : ℕ) → get_or s k 0 < 256)
    → spelled s (8 * i) 64 ≡ get_or s i 0 * 72057594037927936 + get_or s (i + 1) 0 * 281474976710656 + get_or s (i + 2) 0 * 1099511627776
    + get_or s (i + 3) 0 * 4294967296 + get_or s (i + 4) 0 * 16777216 + get_or s (i + 5) 0 * 65536 + get_or s (i + 6) 0 * 256
    + get_or s (i + 7) 0
high-eight s i b =
    let e : 8 * i + 32 ≡ 8 * (i + 4) = omega arith in
    omega (arith, rw e at (field_add s (8 * i) 32 32), high-four s i b, simp add_assoc at (high-four s (i + 4) b))

-- ---- the last bytes, from i to the end, in a word of 64 bits
pub byte_more : (s : List ℕ) (i k : ℕ) → i ≤ k → get_or s k 0 < 256
    → spelled s (8 * i) (8 * (k + 1 - i)) ≡ spelled s (8 * i) (8 * (k - i)) * 256 + get_or s k 0
byte_more s i k h b =
    let e : 8 * (k + 1 - i) ≡ 8 * (k - i) + 8 = omega arith in
    let q : 8 * i + 8 * (k - i) ≡ 8 * k = omega arith in
    rw e (rw q at (field_add s (8 * i) (8 * (k - i)) 8) ∙ ap (λ (x : ℕ). spelled s (8 * i) (8 * (k - i)) * 256 + x) (field-byte s k b))

pub all-bytes : (s : List ℕ) (i k : ℕ) → i ≤ k → k < i + 8 → length s ≤ k
    → spelled s (8 * i) (8 * (k - i)) * 2 ^ (8 * (8 - (k - i))) % 2 ^ 64 ≡ spelled s (8 * i) 64
all-bytes s i k h l m =
    let n = 8 * (8 - (k - i)) in
    let e : 8 * (k - i) + n ≡ 64 = omega arith in
    let q : 8 * i + 8 * (k - i) ≡ 8 * k = omega arith in
    let z = field_past s (8 * k) n (omega arith) in
    let w : spelled s (8 * i) 64 ≡ spelled s (8 * i) (8 * (k - i)) * 2 ^ n = omega
    (arith, rw (e, q) at (field_add s (8 * i) (8 * (k - i)) n), z) in
    rw (← w) (mod-eq_of_lt (field_lt s (8 * i) 64))

pub no_byte : (s : List ℕ) (i : ℕ) → 0 ≡ spelled s (8 * i) (8 * (i - i))
unfolding spelled
no_byte s i = let e : 8 * (i - i) ≡ 0 = omega arith in rw e

pub few_bytes : (s : List ℕ) (i k : ℕ) → k < i + 8 → spelled s (8 * i) (8 * (k - i)) < 72057594037927936
few_bytes s i k h = lt_of_lt_of_le (field_lt s (8 * i) (8 * (k - i))) (pow_mono {i = 8 * (k - i)} {j = 56} (omega arith))
