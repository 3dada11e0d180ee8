-- What was done to a whole destination, by the definition: painted in turns, painted anew, counted. Assumes nothing.
use mathlib.Core.Path.{◌≡◌, refl, sym, ap, ap₂, ◌∙◌}
use mathlib.Core.Logic.{⊎_elim}
use mathlib.Core.List.{List}
use Prim.Native.Nat.{ℕ, zero, suc, ◌+◌, ◌*◌, ◌-◌, ◌≤◌, ◌<◌}
use native.Mathlib.Omega.{arith}
use lib.ListN.{length, get_or, drop, length-drop, length-replicate}
use lib.Seq.{sets, length-take-le, get_or-take, get_or-drop, ext_get_or}
use Rattle.crn_format.specs.Grid.{place_of, row_painted, face_painted, painted, blank, chunk_count, row_cutouts, face_cutouts, cutouts}
use Rattle.crn_format.specs.declared.Grid.{Grid}
use Rattle.crn_blocks.specs.Sheet.{In, Room, Painted, Outside, turn, standing}
use Rattle.crn_blocks.proofs.Places.{lies, Lies, room-kept}
use Rattle.crn_blocks.proofs.Turns.{turn_below}
use Rattle.crn_blocks.proofs.Bytes.{Holder, Free, look, Sized, painted-length, kept, drawn}
use Rattle.crn_blocks.proofs.Stages.{alike}

module _ {g : Grid} (d : List ℕ) (room : Room g (length d)) (block : ℕ → ℕ → ℕ → List ℕ) (sized : Sized g block) where
  -- the picture is the only list that has each block's bytes in their places and all else as before
  pub pictured : (e : List ℕ) → length e ≡ length d
      → ((f x y i : ℕ) → In g f x y → i < g.bytes → get_or e (place_of g f x y + i) 0 ≡ get_or (block f x y) i 0)
      → ((k : ℕ) → Free g k → get_or e k 0 ≡ get_or d k 0) → e ≡ painted g block g.faces d
  pictured e long same rest =
      ext_get_or 0 e (painted g block g.faces d) (long ∙ sym (painted-length g block g.faces d))
      (λ k h. ⊎_elim (holder k) (λ free. rest k free ∙ sym (kept block sized d k free)) (look room k))
    where
      holder : (k : ℕ) → Holder g k → get_or e k 0 ≡ get_or (painted g block g.faces d) k 0
      holder k b =
          let i : ℕ = k - place_of g b.face b.column b.row in
          let is : place_of g b.face b.column b.row + (k - place_of g b.face b.column b.row) ≡ k = omega (arith, b.holds.starts) in
          let small : i < g.bytes = omega (arith, b.holds.ends, b.holds.starts) in
          rw is at (same b.face b.column b.row i b.at small ∙ sym (drawn block sized room b.at small d refl))

  -- what stands in a block's place is the block
  pub stands : (f x y : ℕ) → In g f x y → standing g (painted g block g.faces d) f x y ≡ block f x y
  stands f x y at =
      ext_get_or 0 (standing g (painted g block g.faces d) f x y) (block f x y) (long ∙ sym (sized f x y at))
      (λ i h. let lt : i < g.bytes = omega (arith, long) in
      get_or-take g.bytes (drop (place_of g f x y) (painted g block g.faces d)) i 0 lt
      ∙ get_or-drop (place_of g f x y) (painted g block g.faces d) i 0 ∙ drawn block sized room at lt d refl)
    where
      long : length (standing g (painted g block g.faces d) f x y) ≡ g.bytes
      long =
          let l : Lies g f x y (length d) = lies room at in
          length-take-le g.bytes (drop (place_of g f x y) (painted g block g.faces d))
          (rw length-drop (omega (arith, painted-length g block g.faces d)))

-- all turns: the picture
pub whole : {g : Grid} {value : ℕ → List ℕ} {d e : List ℕ} (block : ℕ → ℕ → ℕ → List ℕ) → Room g (length d) → Painted g value 0
    (4 * chunk_count g) d e
    → ((f x y : ℕ) → In g f x y → (value (turn g f x y) ≡ block f x y) × (length (block f x y) ≡ g.bytes)) → e ≡ painted g block g.faces d
whole {g} {value} {d} {e} block room p is =
    pictured d room block (λ f x y at. (is f x y at).1) e p.long
    (λ f x y i at h. p.drawn f x y i at h (omega arith) (turn_below g f x y at) ∙ ap (λ (l : List ℕ). get_or l i 0) (is f x y at).0)
    (λ k free. p.kept k (λ f x y at _ _ w. free f x y at w))

-- the picture is the same over anything that was done to the grid's blocks
pub painted_over : {g : Grid} {d e : List ℕ} (block : ℕ → ℕ → ℕ → List ℕ) → Sized g block → Room g (length d) → Outside g d e
    → painted g block g.faces e ≡ painted g block g.faces d
painted_over {g} {d} {e} block sized room o =
    let there : Room g (length e) = room-kept room o.long in
    pictured d room block sized (painted g block g.faces e) (painted-length g block g.faces e ∙ o.long)
    (λ f x y i at h. drawn block sized there at h e refl) (λ k free. kept block sized e k free ∙ o.kept k free)

pub wiped : {g : Grid} {d e : List ℕ} → Room g (length d) → Outside g d e → painted g (blank g) g.faces e ≡ painted g (blank g) g.faces d
wiped {g} room o = painted_over (blank g) (λ f x y at. length-replicate g.bytes 0) room o

-- painting stays in the grid
pub picture_outside : {g : Grid} {d : List ℕ} (block : ℕ → ℕ → ℕ → List ℕ) → Sized g block → Outside g d (painted g block g.faces d)
picture_outside {g} {d} block sized = record { long = painted-length g block g.faces d; kept = kept block sized d }

-- ---- only the blocks of the grid count

module _ {g : Grid} (block block' : ℕ → ℕ → ℕ → List ℕ) (same : (f x y : ℕ) → In g f x y → block f x y ≡ block' f x y) where
  paint-row : (f y x : ℕ) (d : List ℕ) → f < g.faces → y < g.rows → x ≤ g.columns → row_painted g block f y x d ≡ row_painted g block' f y x
      d
  unfolding row_painted
  paint-row f y zero d hf hy hx = refl
  paint-row f y (suc x) d hf hy hx =
      ap₂ (λ (e bs : List ℕ). sets e (place_of g f x y) bs) (paint-row f y x d hf hy (omega arith))
      (same f x y (record { face = hf; column = hx; row = hy }))

  paint-face : (f y : ℕ) (d : List ℕ) → f < g.faces → y ≤ g.rows → face_painted g block f y d ≡ face_painted g block' f y d
  unfolding face_painted
  paint-face f zero d hf hy = refl
  paint-face f (suc y) d hf hy =
      paint-row f y g.columns (face_painted g block f y d) hf hy (omega arith) ∙ ap (row_painted g block' f y g.columns)
      (paint-face f y d hf (omega arith))

  paint : (f : ℕ) (d : List ℕ) → f ≤ g.faces → painted g block f d ≡ painted g block' f d
  unfolding painted
  paint zero d hf = refl
  paint (suc f) d hf =
      paint-face f g.rows (painted g block f d) hf (omega arith) ∙ ap (face_painted g block' f g.rows) (paint f d (omega arith))

  pub painted_same : (d : List ℕ) → painted g block g.faces d ≡ painted g block' g.faces d
  painted_same d = paint g.faces d (omega arith)

  row_same : (f y : ℕ) → f < g.faces → y < g.rows → row_cutouts block f y g.columns ≡ row_cutouts block' f y g.columns
  unfolding row_cutouts
  row_same f y hf hy =
      alike (row_cutouts block f y) (row_cutouts block' f y) g.columns refl
      (λ x hx before. rw (same f x y (record { face = hf; column = hx; row = hy }), before))

  face-same : (f : ℕ) → f < g.faces → face_cutouts g block f g.rows ≡ face_cutouts g block' f g.rows
  unfolding face_cutouts
  face-same f hf = alike (face_cutouts g block f) (face_cutouts g block' f) g.rows refl (λ y hy before. rw (row_same f y hf hy, before))

  pub cutouts-same : cutouts g block g.faces ≡ cutouts g block' g.faces
  unfolding cutouts
  cutouts-same = alike (cutouts g block) (cutouts g block') g.faces refl (λ f hf before. rw (face-same f hf, before))

pub counted : {g : Grid} (d : List ℕ) (block : ℕ → ℕ → ℕ → List ℕ) → Room g (length d) → Sized g block
    → cutouts g (standing g (painted g block g.faces d)) g.faces ≡ cutouts g block g.faces
counted {g} d block room sized = cutouts-same (standing g (painted g block g.faces d)) block (stands d room block sized)
