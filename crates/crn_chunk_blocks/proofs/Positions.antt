-- The bytes of the block at a position of a chunk, by the chunk's encoding and indices.
use Prim.Native.Nat.{ℕ, zero, suc, ◌+◌, ◌*◌, ◌/◌, ◌%◌, ◌<◌}
use mathlib.Core.Path.{◌≡◌, refl, sym, ap, ◌∙◌}
use mathlib.Core.Bool.{Bool, true, false, false≢true, ◌&&◌, ◌||◌}
use mathlib.Core.Logic.{◌⊎◌, inl, inr, ⊎_elim}
use mathlib.Core.List.{List, [], ◌∷◌, ◌++◌, append-nil}
use native.Mathlib.Omega.{arith}
use native.Mathlib.Nat.{add-mul}
use borrow.Author.Tests.{ltb-true, ltb-false, eqb-true, eqb-false}
use lib.Dec.{T, ltb, ltb→lt, eqb}
use lib.ListN.{length, get_or, take, drop}
use lib.Seq.{get_or-take, get_or-drop}
use Rattle.crn_format.specs.Choice.{pick}
use Rattle.crn_format.specs.Level.{tile_counts, tile_map, tile_at}
use Rattle.crn_format.specs.Grid.{Shade, half, halves, little, nth_list, block_of, place_of}
use Rattle.crn_format.specs.Opening.{Palettes}
use Rattle.crn_format.specs.declared.Grid.{Grid}
use Rattle.crn_format.proofs.Choices.{and_hold}
use Rattle.crn_consts.specs.Tiles.{tile_in, Tiles}
use Rattle.crn_consts.proofs.Packed.{up_to, each_up_to}
use Rattle.crn_chunks.specs.Meaning.{row, chunk_of}
use Rattle.crn_chunks.specs.Reads.{inside_of}
use Rattle.crn_chunks.specs.declared.Planes.{Planes}
use Rattle.crn_blocks.specs.Sheet.{In, Covered}
use Rattle.crn_blocks.specs.Halves.{Half}
use Rattle.crn_chunk_blocks.specs.Blocks.{shade_of, block_with, block_in}
use Rattle.crn_chunk_blocks.proofs.Shapes.{Shaped, none, more, block-long}

-- the tile at a position is one of the encoding's
abbrev known : ℕ → Bool
known i = ltb (get_or tile_map i 0) (get_or tile_counts (i / 4) 0)

all_known : T (up_to known 32)
unfolding tile_map tile_counts
all_known = tt

pub tile_below : (e q : ℕ) → e < 8 → q < 4 → tile_at e q < get_or tile_counts e 0
tile_below e q he hq =
    let is : (4 * e + q) / 4 ≡ e = omega arith in
    rw is at (ltb→lt (tile_at e q) (get_or tile_counts ((4 * e + q) / 4) 0) (each_up_to known 32 (4 * e + q) all_known (omega arith)))

-- ---- one plane or two

joined : (two : Bool) (a b : Shade) (xs ys : List ℕ) (tile s₀ s₁ e₀ e₁ : ℕ) → e₀ ≡ get_or xs tile 0 → e₁ ≡ get_or ys tile 0
    → half a e₀ s₀ ++ pick two (half b e₁ s₁) [] ≡ halves (row two a b) (row two xs ys) (row two s₀ s₁) tile
unfolding halves
joined true a b xs ys tile s₀ s₁ e₀ e₁ is₀ is₁ =
    rw (is₀, is₁) (ap (λ (l : List ℕ). half a (get_or xs tile 0) s₀ ++ l) (sym (append-nil (half b (get_or ys tile 0) s₁))))
joined false a b xs ys tile s₀ s₁ e₀ e₁ is₀ is₁ = rw is₀

-- the indices at a position
nth : (two : Bool) (out : List ℕ) (q : ℕ) → q < 4
    → nth_list
    (row two (get_or out 8 0) (get_or out 12 0) ∷ row two (get_or out 9 0) (get_or out 13 0) ∷ row two (get_or out 10 0) (get_or out 14 0)
    ∷ row two (get_or out 11 0) (get_or out 15 0) ∷ [])
    q
    ≡ row two (get_or out (8 + q) 0) (get_or out (12 + q) 0)
unfolding nth_list
nth two out zero h = refl
nth two out (suc zero) h = refl
nth two out (suc (suc zero)) h = refl
nth two out (suc (suc (suc zero))) h = refl
nth two out (suc (suc (suc (suc q)))) h = absurd (omega arith)

by_tile : (p : Palettes) (ps : Planes) (e : ℕ) (out : List ℕ) (q : ℕ) → e < 8 → q < 4 → block_with p ps out (tile_at e q) q ≡ block_in p ps
    e out q
unfolding block_in block_of chunk_of
by_tile p ps e out q he hq =
    let is : q % 4 ≡ q = omega arith in
    rw (is, nth ps.two out q hq)
    (joined ps.two (shade_of p ps.first) (shade_of p ps.second) (take n out) (take n (drop 4 out)) (tile_at e q) (get_or out (8 + q) 0)
    (get_or out (12 + q) 0)
    (get_or out (tile_at e q) 0) (get_or out (4 + tile_at e q) 0) (sym (get_or-take n out (tile_at e q) 0 below))
    (sym (get_or-take n (drop 4 out) (tile_at e q) 0 below ∙ get_or-drop 4 out (tile_at e q) 0)))
  where
    n : ℕ
    n = get_or tile_counts e 0

    below : tile_at e q < n
    below = tile_below e q he hq

-- the tile is the one that the byte has
pub by_byte : (p : Palettes) (ps : Planes) (e : ℕ) (out : List ℕ) (byte q : ℕ) → e < 8 → q < 4 → Tiles e byte → block_with p ps out
    (tile_in byte q) q ≡ block_in p ps e out q
by_byte p ps e out byte q he hq tiles = ap (λ (tile : ℕ). block_with p ps out tile q) (tiles.each q hq) ∙ by_tile p ps e out q he hq

-- its halves, as they are put
module _ (p : Palettes) (ps : Planes) (out : List ℕ) (tile q lo : ℕ)
    (first : Half (shade_of p ps.first) (get_or out tile 0) (get_or out (8 + q) 0) lo) where
  pub of_two : (hi : ℕ) → ps.two ≡ true → Half (shade_of p ps.second) (get_or out (4 + tile) 0) (get_or out (12 + q) 0) hi → little 8 lo ++
      little 8 hi ≡ block_with p ps out tile q
  of_two hi double second =
      rw double
      (ap (λ (l : List ℕ). l ++ little 8 hi) first ∙ ap (λ (l : List ℕ). half (shade_of p ps.first) (get_or out tile 0)
      (get_or out (8 + q) 0) ++ l) second)

-- the turn counts by its position alone
pub same_block : (p : Palettes) (ps : Planes) (e : ℕ) (out : List ℕ) (n q : ℕ) → block_in p ps e out q ≡ block_in p ps e out (4 * n + q)
unfolding block_in
same_block p ps e out n q = let is : (4 * n + q) % 4 ≡ q % 4 = omega arith in rw is

-- eight bytes for each plane
shaped : (two : Bool) (a b : Shade) (e : ℕ) (out : List ℕ) → Shaped (length (row two a b)) (chunk_of two e out)
unfolding chunk_of
shaped true a b e out = record { tiles = refl; positions = more refl (more refl (more refl (more refl none))) }
shaped false a b e out = record { tiles = refl; positions = more refl (more refl (more refl (more refl none))) }

eight_each : (two : Bool) (a b : Shade) → 8 * length (row two a b) ≡ pick two 16 8
eight_each true a b = refl
eight_each false a b = refl

pub block-sized : (p : Palettes) (ps : Planes) (e : ℕ) (out : List ℕ) (t : ℕ) → length (block_in p ps e out t) ≡ pick ps.two 16 8
unfolding block_in
block-sized p ps e out t =
    let a = shade_of p ps.first in
    let b = shade_of p ps.second in
    block-long (row ps.two a b) (chunk_of ps.two e out) (t % 4) (shaped ps.two a b e out) (omega arith) ∙ eight_each ps.two a b

-- ---- which positions lie inside the grid, by the code's test

one_fails : (a b : Bool) → (a && b) ≡ false → (a ≡ false) ⊎ (b ≡ false)
one_fails true b e = inr e
one_fails false b e = inl refl

-- k is the part of the position that counts: over which side it is
module _ (at size k : ℕ) (few : k < 2) (covers : at < (size + 1) / 2) where
  reaches : (more here : Bool) → more ≡ ltb (2 * at + 1) size → (here ≡ true → k ≡ 0) → (more || here) ≡ true → 2 * at + k < size
  reaches true here is first e = omega (arith, ltb-true (2 * at + 1) size (sym is))
  reaches false here is first e = omega (arith, first e)

  misses : (more here : Bool) → more ≡ ltb (2 * at + 1) size → (here ≡ false → k ≡ 0 → ⊥) → (more || here) ≡ false → 2 * at + k < size → ⊥
  misses true here is one e h = false≢true (sym e)
  misses false here is one e h = one e (omega (arith, ltb-false (2 * at + 1) size (sym is)))

module _ (g : Grid) (f cx cy q : ℕ) (right bottom : Bool) (in-chunk : Covered g f cx cy) (four : q < 4)
    (is : (right ≡ ltb (2 * cx + 1) g.columns) × (bottom ≡ ltb (2 * cy + 1) g.rows)) where
  pub in_grid : ((right || eqb (q % 2) 0) && (bottom || ltb q 2)) ≡ true → In g f (2 * cx + q % 2) (2 * cy + q / 2)
  in_grid e =
      let h = and_hold (right || eqb (q % 2) 0) (bottom || ltb q 2) e in
      record {
        face = in-chunk.face;
        column = reaches cx g.columns (q % 2) (omega arith) in-chunk.column right (eqb (q % 2) 0) is.0 (λ z. eqb-true (q % 2) 0 z) h.0;
        row = reaches cy g.rows (q / 2) (omega arith) in-chunk.row bottom (ltb q 2) is.1 (λ z. let l = ltb-true q 2 z in omega arith) h.1;
      }

  pub off_grid : ((right || eqb (q % 2) 0) && (bottom || ltb q 2)) ≡ false → In g f (2 * cx + q % 2) (2 * cy + q / 2) → ⊥
  off_grid e at =
      ⊎_elim
      (λ h. misses cx g.columns (q % 2) (omega arith) in-chunk.column right (eqb (q % 2) 0) is.0 (λ z y. eqb-false (q % 2) 0 z y) h
      at.column)
      (λ h. misses cy g.rows (q / 2) (omega arith) in-chunk.row bottom (ltb q 2) is.1 (λ z y. let l = ltb-false q 2 z in omega arith) h
      at.row)
      (one_fails (right || eqb (q % 2) 0) (bottom || ltb q 2) e)

-- as the chunk's reading has it
pub inside_so : (right bottom : Bool) (q : ℕ) → q < 4 → ((right || eqb (q % 2) 0) && (bottom || ltb q 2)) ≡ true → get_or
    (inside_of right bottom) q true ≡ true
inside_so right bottom zero h e = refl
inside_so true bottom (suc zero) h e = refl
inside_so false bottom (suc zero) h e = e
inside_so right true (suc (suc zero)) h e = refl
inside_so true false (suc (suc zero)) h e = e
inside_so false false (suc (suc zero)) h e = e
inside_so true true (suc (suc (suc zero))) h e = refl
inside_so true false (suc (suc (suc zero))) h e = e
inside_so false bottom (suc (suc (suc zero))) h e = e
inside_so right bottom (suc (suc (suc (suc q)))) h e = absurd (omega arith)

-- where a position's block starts, from where the chunk's first does
pub place_by : (g : Grid) (f cx cy q : ℕ) → f * g.distance + 2 * cy * g.pitch + 2 * cx * g.bytes + q / 2 * g.pitch + q % 2 * g.bytes
    ≡ place_of g f (2 * cx + q % 2) (2 * cy + q / 2)
place_by g f cx cy q = omega (arith, add-mul (2 * cy) (q / 2) g.pitch, add-mul (2 * cx) (q % 2) g.bytes)
