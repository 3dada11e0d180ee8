-- The picture of the definition, byte by byte, and that it is the only buffer in which every stretch is drawn. Assumes nothing.
use mathlib.Core.Path.{◌≡◌, refl, sym, ◌∙◌}
use mathlib.Core.Logic.{◌⊎◌, inl, inr, ⊎_elim}
use mathlib.Core.List.{List}
use Prim.Native.Nat.{ℕ, ◌+◌, ◌*◌, ◌-◌, ◌/◌, ◌%◌, ◌≤◌, ◌<◌}
use native.Mathlib.Nat.{div-add-mod', mod-lt}
use native.Mathlib.Omega.{arith}
use lib.ListN.{length, get_or}
use lib.Seq.{sets, length-sets, ext_get_or}
use Rattle.crn_format.specs.Grid.{blocks}
use Rattle.crn_blocks.proofs.Places.{below_or, place, beside, sets_in, sets-out, no_less, further}
use Rattle.crn_blocks.proofs.Stages.{left_alone, made_once}
use Rattle.bcn_format.specs.Picture.{texel_place, row_drawn, drawn}
use Rattle.bcn_format.specs.declared.Face.{Face}
use Rattle.texels.specs.Sheet.{In, Within, stretch, Drawn, Room, first}
use Rattle.texels.proofs.Drawing.{one-texel}

-- ---- the definition

module _ (s : Face) (value : ℕ → ℕ → List ℕ) where
  row-length : (y n : ℕ) (d : List ℕ) → length (row_drawn s value y n d) ≡ length d
  unfolding row_drawn
  row-length y n d = left_alone (λ m. length (row_drawn s value y m d)) n
      (λ m _. length-sets (row_drawn s value y m d) (texel_place s m y) (value m y))

  pub drawn-length : (n : ℕ) (d : List ℕ) → length (drawn s value n d) ≡ length d
  unfolding drawn
  drawn-length n d = left_alone (λ m. length (drawn s value m d)) n (λ m _. row-length m s.width (drawn s value m d))

  -- each texel has four bytes
  abbrev pub Fours : Type 0
  Fours = (x y : ℕ) → length (value x y) ≡ 4

  module _ (fours : Fours) where
    texel-kept : {x y : ℕ} (d : List ℕ) (k : ℕ) → (Within s x y k → ⊥) → get_or (sets d (texel_place s x y) (value x y)) k 0 ≡ get_or d k 0
    texel-kept {x} {y} d k out =
        sets-out (value x y) d (texel_place s x y) k
        (beside (texel_place s x y) (length (value x y)) k (λ from to. out (record { starts = from; ends = omega (arith, fours x y) })))

    row_kept : (y : ℕ) (d : List ℕ) (k : ℕ) → y < s.height → ((x : ℕ) → In s x y → Within s x y k → ⊥) → get_or
        (row_drawn s value y s.width d) k 0 ≡ get_or d k 0
    unfolding row_drawn
    row_kept y d k hy out =
        left_alone (λ x. get_or (row_drawn s value y x d) k 0) s.width (λ x hx. texel-kept (row_drawn s value y x d) k
        (out x (record { column = hx; row = hy })))

    pub drawn-kept : (d : List ℕ) (k : ℕ) → ((x y : ℕ) → In s x y → Within s x y k → ⊥) → get_or
        (drawn s value s.height d) k 0 ≡ get_or d k 0
    unfolding drawn
    drawn-kept d k out = left_alone (λ y. get_or (drawn s value y d) k 0) s.height
        (λ y hy. row_kept y (drawn s value y d) k hy (λ x. out x y))

    module _ {room x y i : ℕ} (r : Room s room) (at : In s x y) (h : i < 4) where
      same : {x' y' : ℕ} → In s x' y' → Within s x' y' (texel_place s x y + i) → (x ≡ x') × (y ≡ y')
      same at' w = one-texel r.narrow at at' (record { starts = omega arith; ends = omega arith }) w

      fits : texel_place s x y + 4 ≤ room
      fits =
          let last : y ≤ s.height - 1 = omega (arith, at.row) in
          omega (arith, no_less s.pitch last, r.all, at.column)

      row-drawn : (d : List ℕ) → length d ≡ room → get_or (row_drawn s value y s.width d) (texel_place s x y + i) 0 ≡ get_or (value x y) i 0
      unfolding row_drawn
      row-drawn d long =
          made_once (λ x'. get_or (row_drawn s value y x' d) (texel_place s x y + i) 0) s.width x (get_or (value x y) i 0) at.column
          (sets_in (value x y) (row_drawn s value y x d) (texel_place s x y) i (omega (arith, fours x y))
          (omega (arith, fours x y, row-length y x d, fits)))
          (λ x' later in_row.
          let at' : In s x' y = record { column = in_row; row = at.row } in
          texel-kept (row_drawn s value y x' d) (texel_place s x y + i) (λ w. omega (arith, (same at' w).0)))

      pub drawn-there : (d : List ℕ) → length d ≡ room → get_or (drawn s value s.height d) (texel_place s x y + i) 0 ≡ get_or (value x y) i
          0
      unfolding drawn
      drawn-there d long =
          made_once (λ y'. get_or (drawn s value y' d) (texel_place s x y + i) 0) s.height y (get_or (value x y) i 0) at.row
          (row-drawn (drawn s value y d) (drawn-length y d ∙ long))
          (λ y' later in_face. row_kept y' (drawn s value y' d) (texel_place s x y + i) in_face (λ x' at' w. omega (arith, (same at' w).1)))

-- ---- a byte lies in a texel or in none

pub record Holder (s : Face) (k : ℕ) : Type 0 where
  pub column : ℕ
  pub row : ℕ
  pub at : In s column row
  pub holds : Within s column row k

abbrev pub Free : Face → ℕ → Type 0
Free s k = (x y : ℕ) → In s x y → Within s x y k → ⊥

look : {s : Face} {room : ℕ} → Room s room → (k : ℕ) → Holder s k ⊎ Free s k
look {s} r k = ⊎_elim wide (λ none. inr (λ x y at w. omega (arith, r.narrow, at.column))) (below_or 0 s.pitch)
  where
    split : k / s.pitch * s.pitch + k % s.pitch ≡ k
    split = div-add-mod' k s.pitch

    -- the row of a texel that holds it
    row_is : (x y : ℕ) → In s x y → Within s x y k → 0 < s.pitch → (y ≡ k / s.pitch) × (k - y * s.pitch ≡ k % s.pitch)
    row_is x y at w some =
        place s.pitch y (k / s.pitch) (k - y * s.pitch) (k % s.pitch) (omega (arith, w.ends, w.starts, at.column, r.narrow))
        (mod-lt k some) (omega (arith, w.starts, split))

    wide : 0 < s.pitch → Holder s k ⊎ Free s k
    wide some =
        ⊎_elim
        (λ hx. ⊎_elim
        (λ hy. inl (record {
          column = k % s.pitch / 4;
          row = k / s.pitch;
          at = record { column = hx; row = hy };
          holds = record
              { starts = omega (arith, split); ends = omega (arith, split) };
        }))
        (λ past. inr (λ x y at w. omega (arith, (row_is x y at w some).0, at.row)))
        (below_or (k / s.pitch) s.height))
        (λ past. inr (λ x y at w. omega (arith, (row_is x y at w some).1, at.column, w.ends, w.starts)))
        (below_or (k % s.pitch / 4) s.width)

-- every texel lies in a stretch of the face's blocks
stretch-below : {s : Face} {x y : ℕ} → In s x y → stretch s x y < first s 0 (blocks s.height)
unfolding stretch
stretch-below {s} {x} {y} at =
    let row : y / 4 < blocks s.height = omega (arith, at.row) in
    omega (arith, further (blocks s.width) row, at.column)

-- ---- the only one

pub whole : {s : Face} {value : ℕ → ℕ → List ℕ} {d e : List ℕ} → Room s (length d) → Fours s value → Drawn s value 0
    (first s 0 (blocks s.height)) d e → e ≡ drawn s value s.height d
whole {s} {value} {d} {e} r fours p =
    ext_get_or 0 e (drawn s value s.height d) (p.long ∙ sym (drawn-length s value s.height d))
    (λ k h. ⊎_elim (held k) (λ free. p.kept k (λ x y at from to w. free x y at w) ∙ sym (drawn-kept s value fours d k free)) (look r k))
  where
    held : (k : ℕ) → Holder s k → get_or e k 0 ≡ get_or (drawn s value s.height d) k 0
    held k o =
        let is : texel_place s o.column o.row + (k - texel_place s o.column o.row) ≡ k = omega (arith, o.holds.starts) in
        let small : k - texel_place s o.column o.row < 4 = omega (arith, o.holds.starts, o.holds.ends) in
        rw is at (p.drawn o.column o.row (k - texel_place s o.column o.row) o.at small (omega arith) (stretch-below o.at)
        ∙ sym (drawn-there s value fours r o.at small d refl))
