-- A look at a file's first bytes, beside how many it has, is a look at the whole file: its 122 first bytes are all that the header is read
-- from (document 02, request 2: the crawler reads no more of a file that it does not load).
use Prim.Native.Nat.{ℕ, zero, suc, ◌+◌, ◌*◌, ◌≤◌, ◌<◌}
use mathlib.Core.Path.{◌≡◌, refl, ap, ap₂}
use mathlib.Core.List.{List, ◌∷◌}
use native.Mathlib.Omega.{arith}
use lib.ListN.{length, get_or, take}
use lib.Dec.{ltb}
use lib.Seq.{get_or-take}
use Rattle.crn_format.specs.Choice.{pick}
use Rattle.crn_format.specs.Header.{signed_in, field, part_at, offsets_from, header_of}
use Rattle.crn_format.specs.Look.{head_bytes, look_at, look_of}

-- two files whose first bytes are the same
abbrev pub Begin : List ℕ → List ℕ → Type 0
Begin a b = (i : ℕ) → i < head_bytes → get_or a i 0 ≡ get_or b i 0

module _ (a b : List ℕ) (same : Begin a b) where
  fields : (at n : ℕ) → at + n ≤ head_bytes → field a at n ≡ field b at n
  unfolding field
  fields at zero h = refl
  fields at (suc n) h = ap₂ (λ (x y : ℕ). 256 * x + y) (fields at n (omega arith)) (same (at + n) (omega arith))

  parts : (at : ℕ) → at + 8 ≤ head_bytes → part_at a at ≡ part_at b at
  parts at h = rw (fields at 3 (omega arith), fields (at + 3) 3 (omega arith), fields (at + 6) 2 (omega arith)) refl

  offsets : (levels i n : ℕ) → 70 + 4 * (i + n) ≤ head_bytes → offsets_from a levels i n ≡ offsets_from b levels i n
  unfolding offsets_from
  offsets levels i zero h = refl
  offsets levels i (suc n) h =
      ap₂ ◌∷◌ (ap (λ (x : ℕ). pick (ltb i levels) x 0) (fields (70 + 4 * i) 4 (omega arith))) (offsets levels (i + 1) n (omega arith))

  pub same-header : header_of a ≡ header_of b
  unfolding header_of
  same-header =
      rw (
        fields 2 2 (omega arith),
        fields 4 2 (omega arith),
        fields 6 4 (omega arith),
        fields 10 2 (omega arith),
        fields 12 2 (omega arith),
        fields 14 2 (omega arith),
        fields 16 1 (omega arith),
        fields 17 1 (omega arith),
        fields 18 1 (omega arith),
        fields 19 2 (omega arith),
        fields 21 4 (omega arith),
        fields 25 4 (omega arith),
        fields 29 4 (omega arith),
        parts 33 (omega arith),
        parts 41 (omega arith),
        parts 49 (omega arith),
        parts 57 (omega arith),
        fields 65 2 (omega arith),
        fields 67 3 (omega arith),
        offsets (field b 16 1) 0 13 (omega arith),
      ) refl

  pub same-look : (n : ℕ) → look_at a n ≡ look_at b n
  unfolding look_at signed_in
  same-look n = rw (same-header, same 0 (omega arith), same 1 (omega arith)) refl

-- as many first bytes as the longest header has, or more
pub look-at_head : (file : List ℕ) (k : ℕ) → head_bytes ≤ k → look_at (take k file) (length file) ≡ look_of file
look-at_head file k h = same-look (take k file) file (λ i l. get_or-take k file i 0 (omega arith)) (length file)
