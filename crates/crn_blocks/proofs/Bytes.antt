-- The picture of the definition, byte by byte: what a byte of a block is, and one of none. Assumes nothing.
use mathlib.Core.Path.{◌≡◌, ◌∙◌}
use mathlib.Core.Logic.{◌⊎◌, inl, inr, ⊎_elim}
use mathlib.Core.List.{List}
use Prim.Native.Nat.{ℕ, ◌+◌, ◌<◌}
use native.Mathlib.Omega.{arith}
use lib.ListN.{length, get_or}
use lib.Seq.{sets, length-sets}
use Rattle.crn_format.specs.Grid.{place_of, row_painted, face_painted, painted}
use Rattle.crn_format.specs.declared.Grid.{Grid}
use Rattle.crn_blocks.specs.Sheet.{In, Within, Room}
use Rattle.crn_blocks.proofs.Stages.{left_alone, made_once}
use Rattle.crn_blocks.proofs.Places.{below_or, beside, sets_in, sets-out, lies, Lies, face_at, row_at, column_at, told, apart, Same}

-- ---- the block that a byte lies in

pub record Holder (g : Grid) (k : ℕ) : Type 0 where
  pub face : ℕ
  pub column : ℕ
  pub row : ℕ
  pub at : In g face column row
  pub holds : Within g face column row k

abbrev pub Free : Grid → ℕ → Type 0
Free g k = (f x y : ℕ) → In g f x y → Within g f x y k → ⊥

-- there is one or there is none
pub look : {g : Grid} {n : ℕ} → Room g n → (k : ℕ) → Holder g k ⊎ Free g k
look {g} room k = ⊎_elim in_face (λ h. inr (λ f x y at w. omega (arith, (told room at w).face, at.face))) (below_or (face_at g k) g.faces)
  where
    same : {f x y : ℕ} → In g f x y → Within g f x y k → place_of g f x y ≡ place_of g (face_at g k) (column_at g k) (row_at g k)
    same at w = let s = told room at w in cc

    lying : In g (face_at g k) (column_at g k) (row_at g k) → Holder g k ⊎ Free g k
    lying at =
        ⊎_elim
        (λ h. inr (λ f x y i w. omega (arith, same i w, w.starts)))
        (λ h. ⊎_elim
        (λ t. inl (record { face = face_at g k; column = column_at g k; row = row_at g k; at = at; holds = record { starts = h; ends = t } }))
        (λ t. inr (λ f x y i w. omega (arith, same i w, w.ends)))
        (below_or k (place_of g (face_at g k) (column_at g k) (row_at g k) + g.bytes)))
        (below_or k (place_of g (face_at g k) (column_at g k) (row_at g k)))

    in_row : face_at g k < g.faces → row_at g k < g.rows → Holder g k ⊎ Free g k
    in_row hf hy =
        ⊎_elim
        (λ hx. lying (record { face = hf; column = hx; row = hy }))
        (λ h. inr (λ f x y at w. omega (arith, (told room at w).column, at.column)))
        (below_or (column_at g k) g.columns)

    in_face : face_at g k < g.faces → Holder g k ⊎ Free g k
    in_face hf = ⊎_elim (in_row hf) (λ h. inr (λ f x y at w. omega (arith, (told room at w).row, at.row))) (below_or (row_at g k) g.rows)

-- ---- the picture

module _ (g : Grid) (block : ℕ → ℕ → ℕ → List ℕ) where
  pub row-length : (f y n : ℕ) (d : List ℕ) → length (row_painted g block f y n d) ≡ length d
  unfolding row_painted
  row-length f y n d =
      left_alone (λ m. length (row_painted g block f y m d)) n (λ m _. length-sets (row_painted g block f y m d) (place_of g f m y)
      (block f m y))

  pub face-length : (f n : ℕ) (d : List ℕ) → length (face_painted g block f n d) ≡ length d
  unfolding face_painted
  face-length f n d = left_alone (λ m. length (face_painted g block f m d)) n (λ m _. row-length f m g.columns (face_painted g block f m d))

  pub painted-length : (n : ℕ) (d : List ℕ) → length (painted g block n d) ≡ length d
  unfolding painted
  painted-length n d = left_alone (λ m. length (painted g block m d)) n (λ m _. face-length m g.rows (painted g block m d))

-- each block of the grid has its number of bytes
abbrev pub Sized : Grid → (ℕ → ℕ → ℕ → List ℕ) → Type 0
Sized g block = (f x y : ℕ) → In g f x y → length (block f x y) ≡ g.bytes

module _ {g : Grid} (block : ℕ → ℕ → ℕ → List ℕ) (sized : Sized g block) where
  -- a byte that is in none of the blocks that are painted is as before
  block-kept : {f x y : ℕ} (d : List ℕ) (k : ℕ) → In g f x y → (Within g f x y k → ⊥) → get_or (sets d (place_of g f x y) (block f x y)) k 0
      ≡ get_or d k 0
  block-kept {f} {x} {y} d k at out =
      sets-out (block f x y) d (place_of g f x y) k
      (beside (place_of g f x y) (length (block f x y)) k (λ from to. out (record { starts = from; ends = omega (arith, sized f x y at) })))

  row_kept : (f y : ℕ) (d : List ℕ) (k : ℕ) → f < g.faces → y < g.rows → ((x : ℕ) → In g f x y → Within g f x y k → ⊥)
      → get_or (row_painted g block f y g.columns d) k 0 ≡ get_or d k 0
  unfolding row_painted
  row_kept f y d k hf hy out =
      left_alone (λ x. get_or (row_painted g block f y x d) k 0) g.columns
      (λ x hx. let at : In g f x y = record { face = hf; column = hx; row = hy } in block-kept (row_painted g block f y x d) k at
      (out x at))

  face-kept : (f : ℕ) (d : List ℕ) (k : ℕ) → f < g.faces → ((x y : ℕ) → In g f x y → Within g f x y k → ⊥)
      → get_or (face_painted g block f g.rows d) k 0 ≡ get_or d k 0
  unfolding face_painted
  face-kept f d k hf out =
      left_alone (λ y. get_or (face_painted g block f y d) k 0) g.rows
      (λ y hy. row_kept f y (face_painted g block f y d) k hf hy (λ x. out x y))

  pub kept : (d : List ℕ) (k : ℕ) → Free g k → get_or (painted g block g.faces d) k 0 ≡ get_or d k 0
  unfolding painted
  kept d k free =
      left_alone (λ f. get_or (painted g block f d) k 0) g.faces (λ f hf. face-kept f (painted g block f d) k hf (λ x y. free f x y))

  -- a byte of a block that is painted is the block's
  module _ {n f x y i : ℕ} (room : Room g n) (at : In g f x y) (h : i < g.bytes) where
    same : {f' x' y' : ℕ} → In g f' x' y' → Within g f' x' y' (place_of g f x y + i) → Same f x y f' x' y'
    same at' w = apart room at at' (record { starts = omega arith; ends = omega arith }) w

    row-drawn : (d : List ℕ) → length d ≡ n → get_or (row_painted g block f y g.columns d) (place_of g f x y + i) 0 ≡ get_or (block f x y) i
        0
    unfolding row_painted
    row-drawn d long =
        let l : Lies g f x y n = lies room at in
        made_once (λ x'. get_or (row_painted g block f y x' d) (place_of g f x y + i) 0) g.columns x (get_or (block f x y) i 0) at.column
        (sets_in (block f x y) (row_painted g block f y x d) (place_of g f x y) i (omega (arith, sized f x y at))
        (omega (arith, sized f x y at, row-length g block f y x d)))
        (λ x' later in_row.
        let at' : In g f x' y = record { face = at.face; column = in_row; row = at.row } in
        block-kept (row_painted g block f y x' d) (place_of g f x y + i) at' (λ w. omega (arith, (same at' w).column)))

    face-drawn : (d : List ℕ) → length d ≡ n → get_or (face_painted g block f g.rows d) (place_of g f x y + i) 0 ≡ get_or (block f x y) i 0
    unfolding face_painted
    face-drawn d long =
        made_once (λ y'. get_or (face_painted g block f y' d) (place_of g f x y + i) 0) g.rows y (get_or (block f x y) i 0) at.row
        (row-drawn (face_painted g block f y d) (face-length g block f y d ∙ long))
        (λ y' later in_face.
        row_kept f y' (face_painted g block f y' d) (place_of g f x y + i) at.face in_face (λ x' at' w. omega (arith, (same at' w).row)))

    pub drawn : (d : List ℕ) → length d ≡ n → get_or (painted g block g.faces d) (place_of g f x y + i) 0 ≡ get_or (block f x y) i 0
    unfolding painted
    drawn d long =
        made_once (λ f'. get_or (painted g block f' d) (place_of g f x y + i) 0) g.faces f (get_or (block f x y) i 0) at.face
        (face-drawn (painted g block f d) (painted-length g block f d ∙ long))
        (λ f' later in_all.
        face-kept f' (painted g block f' d) (place_of g f x y + i) in_all (λ x' y' at' w. omega (arith, (same at' w).face)))
