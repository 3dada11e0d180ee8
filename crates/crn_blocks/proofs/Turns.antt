-- Each position has a turn of its own. Assumes nothing.
use mathlib.Core.Path.{◌≡◌, refl, sym, ap, ◌∙◌}
use mathlib.Core.Logic.{◌⊎◌, inl, inr, ⊎_elim}
use Prim.Native.Nat.{ℕ, ◌+◌, ◌*◌, ◌-◌, ◌/◌, ◌%◌, ◌<◌}
use native.Mathlib.Omega.{arith}
use borrow.Author.Tests.{eq-eqb, ne_eqb}
use lib.Dec.{eqb}
use Rattle.crn_format.specs.Choice.{pick}
use Rattle.crn_format.specs.Grid.{chunk_columns, chunk_rows, chunk_count, position_of}
use Rattle.crn_format.specs.declared.Grid.{Grid}
use Rattle.crn_blocks.specs.Sheet.{In, row_start, chunk_number, turn, Covered}
use Rattle.crn_blocks.proofs.Places.{below_or, further, place, Same}

pub parity : (n : ℕ) → (n % 2 ≡ 0) ⊎ (n % 2 ≡ 1)
parity n = ⊎_elim (λ h. inl (omega arith)) (λ h. inr (omega arith)) (below_or (n % 2) 1)

-- chunk rows go left to right and right to left in turn: how many chunks of its row come before the one in chunk column cx
unfoldable pub side : Grid → ℕ → ℕ → ℕ
side g cx cy = pick (eqb (cy % 2) 0) cx (chunk_columns g - 1 - cx)

pub side_even : (g : Grid) (cx cy : ℕ) → cy % 2 ≡ 0 → side g cx cy ≡ cx
unfolding side
side_even g cx cy h = rw (eq-eqb (cy % 2) 0 h)

pub side_odd : (g : Grid) (cx cy : ℕ) → cy % 2 ≡ 1 → side g cx cy ≡ chunk_columns g - 1 - cx
unfolding side
side_odd g cx cy h = rw (ne_eqb (cy % 2) 0 (λ z. omega arith))

pub side-below : (g : Grid) (cx cy : ℕ) → cx < chunk_columns g → side g cx cy < chunk_columns g
side-below g cx cy h = ⊎_elim (λ e. omega (arith, side_even g cx cy e)) (λ o. omega (arith, side_odd g cx cy o)) (parity cy)

side_tells : (g : Grid) (cx cx' cy : ℕ) → cx < chunk_columns g → cx' < chunk_columns g → side g cx cy ≡ side g cx' cy → cx ≡ cx'
side_tells g cx cx' cy h h' same =
    ⊎_elim
    (λ e. omega (arith, side_even g cx cy e, side_even g cx' cy e))
    (λ o. omega (arith, side_odd g cx cy o, side_odd g cx' cy o))
    (parity cy)

-- a chunk's number, by its row's
pub chunk-at : (g : Grid) (f cx cy k : ℕ) → side g cx cy ≡ k → chunk_number g f cx cy ≡ row_start g f cy + k
unfolding side
chunk-at g f cx cy k is = ap (λ (t : ℕ). row_start g f cy + t) is

-- a chunk's number is its own
chunk_tells : (g : Grid) (f cx cy f' cx' cy' : ℕ) → cx < chunk_columns g → cy < chunk_rows g → cx' < chunk_columns g → cy' < chunk_rows g
    → chunk_number g f cx cy ≡ chunk_number g f' cx' cy' → Same f cx cy f' cx' cy'
chunk_tells g f cx cy f' cx' cy' hx hy hx' hy' same =
    let s = side-below g cx cy hx in
    let s' = side-below g cx' cy' hx' in
    let all : row_start g f cy + side g cx cy ≡ row_start g f' cy' + side g cx' cy' = sym (chunk-at g f cx cy _ refl) ∙ same ∙ chunk-at g f'
    cx' cy' _ refl in
    let fs = place (chunk_rows g * chunk_columns g) f f' (cy * chunk_columns g + side g cx cy) (cy' * chunk_columns g + side g cx' cy')
    (omega (arith, further (chunk_columns g) hy)) (omega (arith, further (chunk_columns g) hy')) (omega arith) in
    let ys = place (chunk_columns g) cy cy' (side g cx cy) (side g cx' cy') s s' fs.1 in
    record { face = fs.0; column = side_tells g cx cx' cy hx hx' (ys.1 ∙ ap (side g cx') (sym ys.0)); row = ys.0 }

-- a position's turn is its own
pub turn_tells : (g : Grid) (f x y f' x' y' : ℕ) → x / 2 < chunk_columns g → y / 2 < chunk_rows g → x' / 2 < chunk_columns g → y' / 2 <
    chunk_rows g
    → turn g f x y ≡ turn g f' x' y' → Same f x y f' x' y'
unfolding turn
turn_tells g f x y f' x' y' hx hy hx' hy' same =
    let s = chunk_tells g f (x / 2) (y / 2) f' (x' / 2) (y' / 2) hx hy hx' hy' (omega arith) in
    let ex : x / 2 ≡ x' / 2 = s.column in
    let ey : y / 2 ≡ y' / 2 = s.row in
    record { face = s.face; column = omega arith; row = omega arith }

-- the four positions of a chunk have its four turns
pub turn-of : (g : Grid) (f x y cx cy : ℕ) → x / 2 ≡ cx → y / 2 ≡ cy → turn g f x y ≡ 4 * chunk_number g f cx cy + position_of x y
unfolding turn
turn-of g f x y cx cy ex ey = ap (λ (t : ℕ). 4 * t + position_of x y)
    (ap (λ (t : ℕ). chunk_number g f t (y / 2)) ex ∙ ap (chunk_number g f cx) ey)

-- every chunk that covers the grid has its number before the end, and every block its turn
pub chunk-below : (g : Grid) (f cx cy : ℕ) → Covered g f cx cy → chunk_number g f cx cy < chunk_count g
chunk-below g f cx cy at =
    omega (
      arith,
      chunk-at g f cx cy _ refl,
      side-below g cx cy at.column,
      further (chunk_columns g) at.row,
      further
          (chunk_rows g * chunk_columns g) at.face,
    )

pub turn_below : (g : Grid) (f x y : ℕ) → In g f x y → turn g f x y < 4 * chunk_count g
turn_below g f x y at =
    let in-chunk : Covered g f (x / 2) (y / 2) = record { face = at.face; column = omega (arith, at.column); row = omega (arith, at.row) }
    in
    omega (arith, turn-of g f x y (x / 2) (y / 2) refl refl, chunk-below g f (x / 2) (y / 2) in-chunk)
