-- The bytes of a row's texels, their stores one after another, and a block's texels by its rows. Assumes nothing.
use mathlib.Core.Path.{◌≡◌, refl, sym, ap, ◌∙◌}
use mathlib.Core.List.{List, ◌++◌}
use Prim.Native.Nat.{ℕ, zero, suc, ◌+◌, ◌*◌, ◌/◌, ◌%◌, ◌^◌, ◌≤◌, ◌<◌}
use native.Mathlib.Omega.{arith}
use lib.ListN.{length, get_or, take}
use lib.Seq.{sets, get_or-take, get_or-append-add, length-take-le}
use lib.Pow.{shr-shr}
use Rattle.crn_format.specs.Grid.{little}
use Rattle.crn_blocks.proofs.Places.{sets-append}
use Rattle.crn_blocks.proofs.Words.{two_words}
use Rattle.bcn_rows.specs.Rows.{texel_of, row_bytes, row_of, texel_at, chosen, Holds, Filled, Addable, Added}
use Rattle.bcn_rows.specs.declared.Row.{Row}
use Rattle.bcn_rows.specs.declared.Sixteen.{Sixteen}

-- ---- a row's bytes are its texels'

two-texels : (v : ℕ) → little 8 v ≡ little 4 (v % 4294967296) ++ little 4 (v / 4294967296)
two-texels v =
    let parts : v ≡ v % 4294967296 + 4294967296 * (v / 4294967296) = omega arith in
    ap (little 8) parts ∙ two_words 4 4 (v % 4294967296) (v / 4294967296) (omega arith)

-- the selectors from the first one on
from_first : (s k : ℕ) → s / 2 ^ (k * 0) ≡ s
from_first s k =
    let none : k * 0 ≡ 0 = omega arith in
    let all : s / 1 ≡ s = omega arith in
    rw (none, all)

module _ (r : Row) where
  abbrev texels : List ℕ
  texels = (little 4 (texel_of r 0) ++ little 4 (texel_of r 1)) ++ (little 4 (texel_of r 2) ++ little 4 (texel_of r 3))

  all-texels : little 8 r.left ++ little 8 r.right ≡ texels
  unfolding texel_of
  all-texels = rw (two-texels r.left, two-texels r.right)

  more-texels : (n : ℕ) → n < 4 → take (4 * suc n) texels ≡ take (4 * n) texels ++ little 4 (texel_of r n)
  unfolding little
  more-texels zero h = refl
  more-texels (suc zero) h = refl
  more-texels (suc (suc zero)) h = refl
  more-texels (suc (suc (suc zero))) h = refl
  more-texels (suc (suc (suc (suc n)))) h = absurd (omega arith)

  more_bytes : (n : ℕ) → n < 4 → row_bytes r (suc n) ≡ row_bytes r n ++ little 4 (texel_of r n)
  more_bytes n h = rw all-texels (more-texels n h)

  pub row-length : (n : ℕ) → n ≤ 4 → length (row_bytes r n) ≡ 4 * n
  unfolding little
  row-length n h = length-take-le (4 * n) _ (omega arith)

  last_byte : (j i : ℕ) → j < 4 → get_or (row_bytes r (suc j)) (4 * j + i) 0 ≡ get_or (little 4 (texel_of r j)) i 0
  last_byte j i h =
      let here : 4 * j + i ≡ length (row_bytes r j) + i = rw (row-length j (omega arith)) in
      rw (more_bytes j h, here) (get_or-append-add (row_bytes r j) (little 4 (texel_of r j)) i 0)

  pub row-byte : (n j i : ℕ) → n ≤ 4 → j < n → i < 4 → get_or (row_bytes r n) (4 * j + i) 0 ≡ get_or (little 4 (texel_of r j)) i 0
  row-byte n j i few h l =
      let all = little 8 r.left ++ little 8 r.right in
      let at : get_or (row_bytes r n) (4 * j + i) 0 ≡ get_or all (4 * j + i) 0 = get_or-take (4 * n) all (4 * j + i) 0 (omega arith) in
      at ∙ sym (get_or-take (4 * suc j) all (4 * j + i) 0 (omega arith)) ∙ last_byte j i (omega arith)

  -- the last texel, and what stands for it past the end
  pub fourth : (i : ℕ) → (i ≡ 0 → ⊥) → (i ≡ 1 → ⊥) → (i ≡ 2 → ⊥) → r.right / 4294967296 ≡ texel_of r i
  unfolding texel_of
  fourth zero a b c = absurd (a refl)
  fourth (suc zero) a b c = absurd (b refl)
  fourth (suc (suc zero)) a b c = absurd (c refl)
  fourth (suc (suc (suc i))) a b c = refl

  -- ---- a row's first texel put, and the next one where n are

  pub first-texel : (d : List ℕ) {h : List ℕ} (at : ℕ) {v : ℕ} → v ≡ texel_of r 0 → h ≡ sets d at (little 4 v) → h ≡ sets d at
      (row_bytes r 1)
  first-texel d at is put = rw (more_bytes 0 (omega arith), ← is) put

  pub next-texel : (d : List ℕ) {e h : List ℕ} (at n : ℕ) {v : ℕ} → n < 4 → e ≡ sets d at (row_bytes r n) → v ≡ texel_of r n
      → h ≡ sets e (at + 4 * n) (little 4 v) → h ≡ sets d at (row_bytes r (suc n))
  next-texel d at n few before is put =
      rw (more_bytes n few, sets-append (row_bytes r n) (little 4 (texel_of r n)) d at, row-length n (omega arith), ← before, ← is) put

  -- or all of them, two by two
  pub whole_row : (n : ℕ) → n ≡ 4 → little 8 r.left ++ little 8 r.right ≡ row_bytes r n
  unfolding little
  whole_row n e = rw e

  -- ---- a row's texels, two by two

  pub holds : {f : ℕ → ℕ} → (r.left % 4294967296 ≡ f 0) × (r.left / 4294967296 ≡ f 1)
      → (r.right % 4294967296 ≡ f 2) × (r.right / 4294967296 ≡ f 3) → Holds f r
  unfolding texel_of
  holds {f} left right = record { each = column }
    where
      column : (i : ℕ) → i < 4 → texel_of r i ≡ f i
      column zero h = left.0
      column (suc zero) h = left.1
      column (suc (suc zero)) h = right.0
      column (suc (suc (suc zero))) h = right.1
      column (suc (suc (suc (suc i)))) h = absurd (omega arith)

-- two texels and two texels
pub sum-holds : (v w : ℕ) → v % 4294967296 + w % 4294967296 < 4294967296
    → ((v + w) % 4294967296 ≡ v % 4294967296 + w % 4294967296) × ((v + w) / 4294967296 ≡ v / 4294967296 + w / 4294967296)
sum-holds v w few = (omega arith, omega arith)

-- ---- a block's texels are its rows'

pub in_sixteen : (r : Sixteen) (j i : ℕ) → i < 4 → texel_of (row_of r j) i ≡ texel_at r (4 * j + i)
in_sixteen r j i h =
    let row : (4 * j + i) / 4 ≡ j = omega arith in
    let column : (4 * j + i) % 4 ≡ i = omega arith in
    rw (row, column)

-- row j holds g j
module _ (f : ℕ → ℕ) (g : ℕ → ℕ → ℕ) (r : Sixteen) (same : (j i : ℕ) → i < 4 → g j i ≡ f (4 * j + i)) where
  row-holds : Holds (g 0) r.a → Holds (g 1) r.b → Holds (g 2) r.c → Holds (g 3) r.d → (j : ℕ) → j < 4 → Holds (g j) (row_of r j)
  unfolding row_of
  row-holds a b c d zero h = a
  row-holds a b c d (suc zero) h = b
  row-holds a b c d (suc (suc zero)) h = c
  row-holds a b c d (suc (suc (suc zero))) h = d
  row-holds a b c d (suc (suc (suc (suc j)))) h = absurd (omega arith)

  filled : Holds (g 0) r.a → Holds (g 1) r.b → Holds (g 2) r.c → Holds (g 3) r.d → Filled f r
  filled a b c d =
      record {
        each = λ t h.
            let whole : 4 * (t / 4) + t % 4 ≡ t = omega arith in
            (row-holds a b c d (t / 4) (omega arith)).each (t % 4) (omega arith) ∙ same (t / 4) (t % 4) (omega arith) ∙ ap f whole;
      }

-- rows chosen by their parts of the selectors
pub all-chosen : (bits : ℕ) (table : List ℕ) (s : ℕ) (r : Sixteen) → Holds (chosen bits table s) r.a
    → Holds (chosen bits table (s / 2 ^ (4 * bits))) r.b → Holds (chosen bits table (s / 2 ^ (8 * bits))) r.c
    → Holds (chosen bits table (s / 2 ^ (12 * bits))) r.d → Filled (chosen bits table s) r
all-chosen bits table s r a b c d =
    let one : 4 * bits * 1 ≡ 4 * bits = omega arith in
    let two : 4 * bits * 2 ≡ 8 * bits = omega arith in
    let three : 4 * bits * 3 ≡ 12 * bits = omega arith in
    filled (chosen bits table s) (λ j. chosen bits table (s / 2 ^ (4 * bits * j))) r same (rw (from_first s (4 * bits)) a) (rw one b)
    (rw two c) (rw three d)
  where
    same : (j i : ℕ) → i < 4 → chosen bits table (s / 2 ^ (4 * bits * j)) i ≡ chosen bits table s (4 * j + i)
    same j i h =
        let power : 4 * bits * j + bits * i ≡ bits * (4 * j + i) = omega arith in
        rw (shr-shr s (4 * bits * j) (bits * i), power)

-- rows that are added
module _ (v w : Sixteen) where
  pub addable_row : Addable v w → (j : ℕ) → j < 4 → (i : ℕ) → i < 4 → texel_of (row_of v j) i + texel_of (row_of w j) i < 4294967296
  addable_row few j h i l = rw (in_sixteen v j i l, in_sixteen w j i l) (few.each (4 * j + i) (omega arith))

  pub all-added : (r : Sixteen) → Holds (λ i. texel_of v.a i + texel_of w.a i) r.a
      → Holds (λ i. texel_of v.b i + texel_of w.b i) r.b → Holds (λ i. texel_of v.c i + texel_of w.c i) r.c
      → Holds (λ i. texel_of v.d i + texel_of w.d i) r.d → Added v w r
  unfolding row_of
  all-added r =
      filled (λ t. texel_at v t + texel_at w t) (λ j i. texel_of (row_of v j) i + texel_of (row_of w j) i) r
      (λ j i h. rw (in_sixteen v j i h, in_sixteen w j i h))
