-- Numbers beside multiples, runs of stores, and blocks that do not overlap. Assumes nothing.
use mathlib.Core.Path.{◌≡◌, refl, sym, ap, ◌∙◌}
use mathlib.Core.Logic.{◌⊎◌, inl, inr, ⊎_elim}
use mathlib.Core.List.{List, [], ◌∷◌, ◌++◌}
use Prim.Native.Nat.{ℕ, zero, suc, ◌+◌, ◌*◌, ◌-◌, ◌/◌, ◌≤◌, ◌<◌}
use native.Mathlib.Nat.{add-mul, one-mul, div-eq_of_lt-le, le_refl, mul-le-mul, suc-mul, add-zero, add-suc, suc-add}
use native.Mathlib.Decide.{dec_lt}
use native.Mathlib.Omega.{arith}
use lib.ListN.{length, get_or, set, length-set}
use lib.Seq.{sets, get_or-set_same, get_or-set_other}
use Rattle.crn_format.specs.Grid.{place_of}
use Rattle.crn_format.specs.declared.Grid.{Grid}
use Rattle.crn_blocks.specs.Sheet.{In, Within, Room}

pub below_or : (a b : ℕ) → (a < b) ⊎ (b ≤ a)
below_or a b = go (dec_lt a b)
  where
    go : Dec (a < b) → (a < b) ⊎ (b ≤ a)
    go (yes h) = inl h
    go (no h) = inr (omega arith)

-- a row later is at least a row's length further on
pub further : (m : ℕ) {a b : ℕ} → a < b → a * m + m ≤ b * m
further m {a} {b} h = rw suc-mul at (mul-le-mul h (le_refl m))

pub no_less : (m : ℕ) {a b : ℕ} → a ≤ b → a * m ≤ b * m
no_less m h = mul-le-mul h (le_refl m)

-- a number from a multiple of m on and before the next
slot : (m a k : ℕ) → a * m ≤ k → k < a * m + m → a ≡ k / m
slot m a k from to = sym (div-eq_of_lt-le m from (omega (arith, add-mul a 1 m, one-mul m)))

-- a multiple of m and a number below m say which they are
pub place : (m a b r s : ℕ) → r < m → s < m → a * m + r ≡ b * m + s → (a ≡ b) × (r ≡ s)
place m a b r s hr hs e =
    let ab : a ≡ b = slot m a (a * m + r) (omega arith) (omega arith) ∙ sym (slot m b (a * m + r) (omega arith) (omega arith)) in
    (ab, omega (arith, ap (λ (t : ℕ). t * m) ab))

-- a number that does not lie in a stretch lies before it or after it
pub beside : (p n k : ℕ) → (p ≤ k → k < p + n → ⊥) → (k < p) ⊎ (p + n ≤ k)
beside p n k out = ⊎_elim (λ lt. inl lt) (λ ge. ⊎_elim (λ lt. absurd (out ge lt)) (λ ge'. inr ge') (below_or k (p + n))) (below_or k p)

-- ---- a run of stores, read at an index

pub sets-out : (vs l : List ℕ) (i k : ℕ) → (k < i) ⊎ (i + length vs ≤ k) → get_or (sets l i vs) k 0 ≡ get_or l k 0
sets-out [] l i k h = refl
sets-out (a ∷ vs) l i k h =
    sets-out vs (set l i a) (suc i) k (⊎_elim (λ w. inl (omega arith)) (λ w. inr (omega arith)) h)
    ∙ get_or-set_other l i k a 0 (⊎_elim (λ w. omega arith) (λ w. omega arith) h)

pub sets_in : (vs l : List ℕ) (i j : ℕ) → j < length vs → i + length vs ≤ length l → get_or (sets l i vs) (i + j) 0 ≡ get_or vs j 0
sets_in [] l i j h r = absurd (omega arith)
sets_in (a ∷ vs) l i zero h r =
    rw add-zero (sets-out vs (set l i a) (suc i) i (inl (omega arith)) ∙ get_or-set_same l i a 0 (omega arith))
sets_in (a ∷ vs) l i (suc j) h r =
    let e : i + suc j ≡ suc i + j = omega arith in
    rw e (sets_in vs (set l i a) (suc i) j (omega arith) (simp length-set (omega arith)))

pub sets-append : (vs ws l : List ℕ) (i : ℕ) → sets l i (vs ++ ws) ≡ sets (sets l i vs) (i + length vs) ws
sets-append [] ws l i = rw add-zero
sets-append (a ∷ vs) ws l i = rw (add-suc, ← suc-add) (sets-append vs ws (set l i a) (suc i))

-- ---- where a block lies

-- a row of the grid ends within the destination
pub row_ends : {g : Grid} {n f y : ℕ} → Room g n → f < g.faces → y < g.rows → f * g.distance + y * g.pitch + g.columns * g.bytes ≤ n
row_ends {g} {n} {f} {y} room hf hy =
    let f-last : f ≤ g.faces - 1 = omega arith in
    let y-last : y ≤ g.rows - 1 = omega arith in
    omega (arith, no_less g.distance f-last, no_less g.pitch y-last, room.all)

-- a block ends within its row, its face and the destination
pub record Lies (g : Grid) (f x y n : ℕ) : Type 0 where
  pub in_row : x * g.bytes + g.bytes ≤ g.pitch
  pub wide : 8 ≤ g.bytes
  pub in_face : y * g.pitch + g.pitch ≤ g.distance
  pub in_all : place_of g f x y + g.bytes ≤ n

pub lies : {g : Grid} {n f x y : ℕ} → Room g n → In g f x y → Lies g f x y n
lies {g} {n} {f} {x} {y} room at =
    record {
      in_row = omega (arith, further g.bytes at.column, room.pitch);
      wide = ⊎_elim (λ e. omega arith) (λ e. omega arith) room.size;
      in_face = omega (arith, further g.pitch at.row, room.distance);
      in_all = omega (arith, row_ends room at.face at.row, further g.bytes at.column);
    }

-- the face, row and column of the only block that can hold byte k
module _ (g : Grid) (k : ℕ) where
  abbrev pub face_at : ℕ
  face_at = k / g.distance

  abbrev pub row_at : ℕ
  row_at = (k - face_at * g.distance) / g.pitch

  abbrev pub column_at : ℕ
  column_at = (k - face_at * g.distance - row_at * g.pitch) / g.bytes

-- the same place
pub record Same (f x y f' x' y' : ℕ) : Type 0 where
  pub face : f ≡ f'
  pub column : x ≡ x'
  pub row : y ≡ y'

module _ {g : Grid} {n f x y k : ℕ} (room : Room g n) (at : In g f x y) (w : Within g f x y k) where
  face-told : f ≡ face_at g k
  face-told = let l = lies room at in slot g.distance f k (omega arith) (omega arith)

  face-start : f * g.distance ≡ face_at g k * g.distance
  face-start = ap (λ (t : ℕ). t * g.distance) face-told

  row_told : y ≡ row_at g k
  row_told = let l = lies room at in slot g.pitch y (k - face_at g k * g.distance) (omega (arith, face-start)) (omega (arith, face-start))

  row-start : y * g.pitch ≡ row_at g k * g.pitch
  row-start = ap (λ (t : ℕ). t * g.pitch) row_told

  column-told : x ≡ column_at g k
  column-told =
      slot g.bytes x (k - face_at g k * g.distance - row_at g k * g.pitch) (omega (arith, face-start, row-start))
      (omega (arith, face-start, row-start))

  pub told : Same f x y (face_at g k) (column_at g k) (row_at g k)
  told = record { face = face-told; column = column-told; row = row_told }

-- two blocks of the grid that share a byte are one
pub apart : {g : Grid} {n f x y f' x' y' k : ℕ} → Room g n → In g f x y → In g f' x' y' → Within g f x y k → Within g f' x' y' k → Same f x
    y f' x' y'
apart room at at' w w' =
    let s = told room at w in
    let s' = told room at' w' in
    record { face = s.face ∙ sym s'.face; column = s.column ∙ sym s'.column; row = s.row ∙ sym s'.row }

-- room goes by the length alone
pub room-kept : {g : Grid} {m n : ℕ} → Room g m → n ≡ m → Room g n
room-kept {g} {m} {n} room is = rw is room
