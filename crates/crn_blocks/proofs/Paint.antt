-- Paintings in a row are one painting. Assumes nothing.
use mathlib.Core.Path.{◌≡◌, refl, sym, ap, ◌∙◌, subst}
use mathlib.Core.Logic.{⊎_elim}
use mathlib.Core.List.{List}
use Prim.Native.Nat.{ℕ, ◌+◌, ◌*◌, ◌/◌, ◌%◌, ◌≤◌, ◌<◌}
use native.Mathlib.Omega.{arith}
use lib.ListN.{length, get_or}
use lib.Seq.{sets, length-sets}
use Rattle.crn_format.specs.Grid.{place_of}
use Rattle.crn_format.specs.declared.Grid.{Grid}
use Rattle.crn_blocks.specs.Sheet.{In, Within, Room, Painted, Outside, Covered, turn, chunk_number}
use Rattle.crn_blocks.proofs.Places.{below_or, beside, sets_in, sets-out, apart, lies, Same}
use Rattle.crn_blocks.proofs.Turns.{turn_tells, turn-of}

-- a painting touches nothing outside the grid
pub painted_outside : {g : Grid} {value : ℕ → List ℕ} {a b : ℕ} {d e : List ℕ} → Painted g value a b d e → Outside g d e
painted_outside p = record { long = p.long; kept = λ k off. p.kept k (λ f x y i _ _ w. off f x y i w) }

pub outside_then : {g : Grid} {d e h : List ℕ} → Outside g d e → Outside g e h → Outside g d h
outside_then p q = record { long = q.long ∙ p.long; kept = λ k off. q.kept k off ∙ p.kept k off }

pub outside_start : {g : Grid} {d : List ℕ} → Outside g d d
outside_start = record { long = refl; kept = λ k off. refl }

-- the turn of a position, by its chunk and its number there
turn-here : (g : Grid) (f cx cy q : ℕ) → q < 4 → turn g f (2 * cx + q % 2) (2 * cy + q / 2) ≡ 4 * chunk_number g f cx cy + q
turn-here g f cx cy q four = turn-of g f (2 * cx + q % 2) (2 * cy + q / 2) cx cy (omega arith) (omega arith) ∙ omega arith

module _ {g : Grid} {value : ℕ → List ℕ} where
  -- where no block of the grid has such a turn, there is nothing to paint
  none : {a b : ℕ} {d : List ℕ} → ((f x y : ℕ) → In g f x y → a ≤ turn g f x y → turn g f x y < b → ⊥) → Painted g value a b d d
  none empty = record { long = refl; drawn = λ f x y i at h lo hi. absurd (empty f x y at lo hi); kept = λ k off. refl }

  pub start : {a : ℕ} {d : List ℕ} → Painted g value a a d d
  start = none (λ f x y at lo hi. omega arith)

  -- one painting after the other
  pub then : {n a b c : ℕ} {d e h : List ℕ} → Room g n → a ≤ b → b ≤ c → Painted g value a b d e → Painted g value b c e h → Painted g value
      a c d h
  then {n} {a} {b} {c} {d} {e} {h} room ab bc p q =
      record {
        long = q.long ∙ p.long;
        drawn = λ f x y i at i8 lo hi.
            ⊎_elim
            (λ lt. q.kept (place_of g f x y + i) (early f x y i at i8 lt) ∙ p.drawn f x y i at i8 lo lt)
            (λ ge. q.drawn f x y i at i8 ge hi)
            (below_or (turn g f x y) b);
        kept = λ k untold.
            q.kept k (λ f x y at lo hi w. untold f x y at (omega arith) hi w) ∙ p.kept k
            (λ f x y at lo hi w. untold f x y at lo (omega arith) w);
      }
    where
      early : (f x y i : ℕ) → In g f x y → i < g.bytes → turn g f x y < b → (f' x' y' : ℕ) → In g f' x' y'
          → b ≤ turn g f' x' y' → turn g f' x' y' < c → Within g f' x' y' (place_of g f x y + i) → ⊥
      early f x y i at i8 lt f' x' y' at' lo hi w =
          let s : Same f x y f' x' y' = apart room at at' (record { starts = omega arith; ends = omega arith }) w in
          let e1 : f ≡ f' = s.face in
          let e2 : x ≡ x' = s.column in
          let e3 : y ≡ y' = s.row in
          let o : turn g f x y ≡ turn g f' x' y' = cc in
          omega arith

  -- the same turns, said otherwise
  pub until : {a b b' : ℕ} {d e : List ℕ} → b ≡ b' → Painted g value a b d e → Painted g value a b' d e
  until {a} {b} {b'} {d} {e} is p = subst (λ (k : ℕ). Painted g value a k d e) is p

  pub onward : {a a' b : ℕ} {d e : List ℕ} → a ≡ a' → Painted g value a b d e → Painted g value a' b d e
  onward {a} {a'} {b} {d} {e} is p = subst (λ (k : ℕ). Painted g value k b d e) is p

  -- one block of the grid
  pub one : {d : List ℕ} (f x y : ℕ) (bs : List ℕ) → Room g (length d) → In g f x y → bs ≡ value (turn g f x y) → length bs ≡ g.bytes
      → Painted g value (turn g f x y) (turn g f x y + 1) d (sets d (place_of g f x y) bs)
  one {d} f x y bs room at is long =
      record {
        long = length-sets d (place_of g f x y) bs;
        drawn = λ f' x' y' i at' i8 lo hi.
            let s : Same f' x' y' f x y = turn_tells g f' x' y' f x y (omega (arith, at'.column)) (omega (arith, at'.row))
            (omega (arith, at.column)) (omega (arith, at.row)) (omega arith) in
            let e1 : f' ≡ f = s.face in
            let e2 : x' ≡ x = s.column in
            let e3 : y' ≡ y = s.row in
            let o : turn g f' x' y' ≡ turn g f x y = cc in
            let p : place_of g f' x' y' ≡ place_of g f x y = cc in
            ap (λ (k : ℕ). get_or (sets d (place_of g f x y) bs) (k + i) 0) p
            ∙ sets_in bs d (place_of g f x y) i (omega arith) fits
            ∙ ap (λ (l : List ℕ). get_or l i 0) (is ∙ ap value (sym o));
        kept = λ k untold.
            sets-out bs d (place_of g f x y) k
            (beside (place_of g f x y) (length bs) k (λ from to. untold f x y at (omega arith) (omega arith)
            (record { starts = from; ends = omega arith })));
      }
    where
      fits : place_of g f x y + length bs ≤ length d
      fits = let l = lies room at in omega arith

  -- a position of a covering chunk that lies beyond the grid
  pub nothing : {d : List ℕ} (f x y : ℕ) → Covered g f (x / 2) (y / 2) → (In g f x y → ⊥) → Painted g value (turn g f x y)
      (turn g f x y + 1) d d
  nothing {d} f x y in-chunk beyond = none told
    where
      told : (f' x' y' : ℕ) → In g f' x' y' → turn g f x y ≤ turn g f' x' y' → turn g f' x' y' < turn g f x y + 1 → ⊥
      told f' x' y' at' lo hi =
          let s : Same f' x' y' f x y = turn_tells g f' x' y' f x y (omega (arith, at'.column)) (omega (arith, at'.row)) in-chunk.column
          in-chunk.row (omega arith) in
          beyond (record { face = in-chunk.face; column = omega (arith, s.column, at'.column); row = omega (arith, s.row, at'.row) })

  -- a position of a chunk that is one of the grid
  pub put_in : {d e : List ℕ} (f cx cy q : ℕ) {at : ℕ} {bs : List ℕ} → Room g (length d) → q < 4 → In g f (2 * cx + q % 2) (2 * cy + q / 2)
      → at ≡ place_of g f (2 * cx + q % 2) (2 * cy + q / 2) → e ≡ sets d at bs → bs ≡ value (4 * chunk_number g f cx cy + q) → length bs ≡
      g.bytes
      → Painted g value (4 * chunk_number g f cx cy + q) (4 * chunk_number g f cx cy + q + 1) d e
  put_in {d} {e} f cx cy q {at} {bs} room four here is put of long =
      let t = turn-here g f cx cy q four in
      subst (λ (k : ℕ). Painted g value k (k + 1) d e) t
      (subst (λ (l : List ℕ). Painted g value (turn g f (2 * cx + q % 2) (2 * cy + q / 2)) (turn g f (2 * cx + q % 2) (2 * cy + q / 2) + 1)
      d l)
      (sym (put ∙ ap (λ (k : ℕ). sets d k bs) is))
      (one f (2 * cx + q % 2) (2 * cy + q / 2) bs room here (of ∙ ap value (sym t)) long))

  -- one beyond it
  pub skipped : {d : List ℕ} (f cx cy q : ℕ) → Covered g f cx cy → q < 4 → (In g f (2 * cx + q % 2) (2 * cy + q / 2) → ⊥)
      → Painted g value (4 * chunk_number g f cx cy + q) (4 * chunk_number g f cx cy + q + 1) d d
  skipped {d} f cx cy q in-chunk four beyond =
      let covered : Covered g f ((2 * cx + q % 2) / 2) ((2 * cy + q / 2) / 2) = record
      { face = in-chunk.face; column = omega (arith, in-chunk.column); row = omega (arith, in-chunk.row) } in
      subst (λ (k : ℕ). Painted g value k (k + 1) d d) (turn-here g f cx cy q four)
      (nothing f (2 * cx + q % 2) (2 * cy + q / 2) covered beyond)
