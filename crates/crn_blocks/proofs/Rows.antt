-- The chunks of a row in their order, and where a chunk lies by the definition: by its number. Assumes nothing.
use mathlib.Core.Path.{◌≡◌, refl, sym, ap, ◌∙◌}
use mathlib.Core.Bool.{true}
use mathlib.Core.List.{[], ◌∷◌}
use mathlib.Core.Logic.{⊎_elim}
use Prim.Native.Nat.{ℕ, ◌+◌, ◌*◌, ◌-◌, ◌/◌, ◌%◌, ◌≤◌, ◌<◌}
use native.Mathlib.Nat.{add-mul, one-mul, zero-mul, add-zero, mul_assoc, mul-add-div_right, mul-add-mod_self_right, mod-eq_of_lt, div-eq_of_lt}
use native.Mathlib.Omega.{arith}
use borrow.Author.Tests.{eq-eqb, ne_eqb}
use lib.Dec.{ltb}
use Rattle.crn_format.specs.Choice.{both}
use Rattle.crn_format.specs.Grid.{chunk_columns, chunk_rows, chunk_count, row_of, column_of, inside}
use Rattle.crn_format.specs.declared.Grid.{Grid}
use Rattle.crn_blocks.specs.Sheet.{row_start, chunk_number, Covered}
use Rattle.crn_blocks.proofs.Places.{no_less}
use Rattle.crn_blocks.proofs.Turns.{parity, side, side_even, side_odd, side-below, chunk-at}

-- chunk k of a row that goes right, and of one that goes left
pub chunk-number-right : (g : Grid) (f k cy : ℕ) → cy % 2 ≡ 0 → chunk_number g f k cy ≡ row_start g f cy + k
chunk-number-right g f k cy even = chunk-at g f k cy k (side_even g k cy even)

pub chunk-number-left : (g : Grid) (f k cy : ℕ) → cy % 2 ≡ 1 → k < chunk_columns g → chunk_number g f (chunk_columns g - 1 - k) cy ≡
    row_start g f cy + k
chunk-number-left g f k cy odd h = chunk-at g f (chunk_columns g - 1 - k) cy k (side_odd g (chunk_columns g - 1 - k) cy odd ∙ omega arith)

-- the first row, the next row, the next face's first, and past the last face
pub row_first : (g : Grid) → row_start g 0 0 ≡ 0
row_first g = simp (zero-mul, add-zero)

pub row_next : (g : Grid) (f cy : ℕ) → row_start g f (cy + 1) ≡ row_start g f cy + chunk_columns g
row_next g f cy = omega (arith, add-mul cy 1 (chunk_columns g), one-mul (chunk_columns g))

pub face-next : (g : Grid) (f : ℕ) → row_start g f (chunk_rows g) ≡ row_start g (f + 1) 0
face-next g f = omega (
  arith,
  add-mul f 1 (chunk_rows g * chunk_columns g),
  one-mul (chunk_rows g * chunk_columns g),
  zero-mul
      (chunk_columns g),
)

pub face-last : (g : Grid) → row_start g g.faces 0 ≡ chunk_count g
face-last g = omega (arith, zero-mul (chunk_columns g))

-- a later row and a later face start later
pub row_later : (g : Grid) (f : ℕ) {cy cy' : ℕ} → cy ≤ cy' → row_start g f cy ≤ row_start g f cy'
row_later g f h = omega (arith, no_less (chunk_columns g) h)

pub face_later : (g : Grid) {f f' : ℕ} → f ≤ f' → row_start g f 0 ≤ row_start g f' 0
face_later g h = omega (arith, no_less (chunk_rows g * chunk_columns g) h)

-- ---- by the number

module _ (m n f y k : ℕ) (hy : y < n) (hk : k < m) where
  flat : f * (n * m) + y * m + k ≡ (f * n + y) * m + k
  flat = ap (λ (t : ℕ). t + k) (sym (add-mul (f * n) y m ∙ ap (λ (t : ℕ). t + y * m) (mul_assoc f n m)))

  rest : (f * (n * m) + y * m + k) % m ≡ k
  rest = rw flat (mul-add-mod_self_right (f * n + y) m k ∙ mod-eq_of_lt hk)

  line : (f * (n * m) + y * m + k) / m % n ≡ y
  line =
      rw (flat, mul-add-div_right {m = m} (omega arith) (f * n + y) k, div-eq_of_lt hk, add-zero)
      (mul-add-mod_self_right f n y ∙ mod-eq_of_lt hy)

module _ (g : Grid) (f cx cy : ℕ) (at : Covered g f cx cy) where
  pub row-of : row_of g (chunk_number g f cx cy) ≡ cy
  row-of = rw (chunk-at g f cx cy (side g cx cy) refl) (line (chunk_columns g) (chunk_rows g) f cy (side g cx cy) at.row
      (side-below g cx cy at.column))

  before : chunk_number g f cx cy % chunk_columns g ≡ side g cx cy
  before = rw (chunk-at g f cx cy (side g cx cy) refl) (rest (chunk_columns g) (chunk_rows g) f cy (side g cx cy) at.row
      (side-below g cx cy at.column))

  pub column-of : column_of g (chunk_number g f cx cy) ≡ cx
  column-of =
      ⊎_elim
      (λ e. rw (row-of, before, eq-eqb (cy % 2) 0 e) (side_even g cx cy e))
      (λ o. rw (row-of, before, ne_eqb (cy % 2) 0 (λ z. omega arith), side_odd g cx cy o) (omega (arith, at.column)))
      (parity cy)

  pub inside_of : inside g (chunk_number g f cx cy)
      ≡ true ∷ ltb (2 * cx + 1) g.columns ∷ ltb (2 * cy + 1) g.rows ∷ both (ltb (2 * cx + 1) g.columns) (ltb (2 * cy + 1) g.rows) ∷ []
  unfolding inside
  inside_of = rw (column-of, row-of)
