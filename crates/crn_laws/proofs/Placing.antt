-- The block at each position of the grid is the one that the script gives it.
use Prim.Native.Nat.{ℕ, zero, suc, ◌+◌, ◌*◌, ◌/◌, ◌%◌, ◌<◌}
use mathlib.Core.Path.{◌≡◌, refl, sym, ap, ap₂, ◌∙◌}
use mathlib.Core.Logic.{◌⊎◌, inl, inr}
use mathlib.Core.Bool.{Bool, true, false}
use mathlib.Core.List.{List, [], ◌∷◌, ◌++◌}
use native.Mathlib.Omega.{arith}
use native.Mathlib.Nat.{mod-lt, zero-add}
use lib.ListN.{length, get_or}
use lib.Dec.{ltb}
use borrow.Author.Tests.{lt-ltb}
use Rattle.crn_format.specs.Choice.{both}
use Rattle.crn_format.specs.Level.{Plane, Chunk, fresh, tile_at}
use Rattle.crn_format.specs.Grid.{Shade, half, halves, nth_list, chunk_at, block_of, block_at, chunk_of, position_of, chunk_count, inside, insides}
use Rattle.crn_format.specs.declared.Grid.{Grid}
use Rattle.crn_blocks.specs.Sheet.{In, Covered}
use Rattle.crn_blocks.proofs.Turns.{parity, chunk-below}
use Rattle.crn_blocks.proofs.Rows.{inside_of}
use Rattle.crn_chunk_blocks.proofs.Positions.{tile_below}
use Rattle.crn_laws.specs.Scripts.{Draws, chunks_by, Fits}
use Rattle.crn_laws.specs.Blocks.{encoding_at, endpoint_by, selector_by, halves_by, block_by}
use Rattle.crn_laws.proofs.Carrying.{encoding-at, endpoint-at, selector-at, tiles-long, positions-long, true_within}
use Rattle.crn_laws.proofs.Bounding.{as_many}

-- ---- a position of the grid lies inside it

inside-nth : (g : Grid) (a n c : ℕ) → c < n → nth_list (insides g a n) c ≡ inside g (a + c)
unfolding insides nth_list
inside-nth g a zero c h = absurd (omega arith)
inside-nth g a (suc n) zero h = let e : a + 0 ≡ a = omega arith in rw e
inside-nth g a (suc n) (suc c) h = let e : a + suc c ≡ a + 1 + c = omega arith in rw e (inside-nth g (a + 1) n c (omega arith))

covers : (g : Grid) (f x y : ℕ) → In g f x y → Covered g f (x / 2) (y / 2)
covers g f x y at = record { face = at.face; column = omega (arith, at.column); row = omega (arith, at.row) }

inside-at : (g : Grid) (f x y : ℕ) → In g f x y → get_or (inside g (chunk_of g f x y)) (position_of x y) false ≡ true
inside-at g f x y at = rw (inside_of g f (x / 2) (y / 2) (covers g f x y at)) (by (parity x) (parity y))
  where
    right : x % 2 ≡ 1 → ltb (2 * (x / 2) + 1) g.columns ≡ true
    right o = lt-ltb (2 * (x / 2) + 1) g.columns (omega (arith, at.column))

    bottom : y % 2 ≡ 1 → ltb (2 * (y / 2) + 1) g.rows ≡ true
    bottom o = lt-ltb (2 * (y / 2) + 1) g.rows (omega (arith, at.row))

    by : (x % 2 ≡ 0) ⊎ (x % 2 ≡ 1) → (y % 2 ≡ 0) ⊎ (y % 2 ≡ 1)
        → get_or (true ∷ ltb (2 * (x / 2) + 1) g.columns ∷ ltb (2 * (y / 2) + 1) g.rows ∷ both (ltb (2 * (x / 2) + 1) g.columns)
        (ltb (2 * (y / 2) + 1) g.rows) ∷ []) (position_of x y) false
        ≡ true
    by (inl ex) (inl ey) = rw (ex, ey)
    by (inl ex) (inr oy) = rw (ex, oy) (bottom oy)
    by (inr ox) (inl ey) = rw (ox, ey) (right ox)
    by (inr ox) (inr oy) = rw (ox, oy, right ox) (bottom oy)

-- ---- the planes' bytes, by number

halves_by_lem : (shades : List Shade) (ts : List (List ℕ)) (ss : List ℕ) (tile : ℕ) (e s : ℕ → ℕ) (k : ℕ) → length ts ≡ length shades →
    length ss ≡ length shades
    → ((j : ℕ) → j < length shades → get_or (nth_list ts j) tile 0 ≡ e (k + j)) → ((j : ℕ) → j < length shades → get_or ss j 0 ≡ s (k + j))
    → halves shades ts ss tile ≡ halves_by shades e s k
unfolding halves halves_by nth_list
halves_by_lem [] ts ss tile e s k lt ls he hs = refl
halves_by_lem (p ∷ ps) [] ss tile e s k lt ls he hs = absurd (omega arith)
halves_by_lem (p ∷ ps) (t ∷ ts) [] tile e s k lt ls he hs = absurd (omega arith)
halves_by_lem (p ∷ ps) (t ∷ ts) (i ∷ ss) tile e s k lt ls he hs =
    ap₂ ◌++◌ (ap₂ (half p) (he 0 (omega arith) ∙ ap e here) (hs 0 (omega arith) ∙ ap s here))
    (halves_by_lem ps ts ss tile e s (k + 1) (omega arith) (omega arith) (λ j b. he (suc j) (omega arith) ∙ ap e (further j))
    (λ j b. hs (suc j) (omega arith) ∙ ap s (further j)))
  where
    here : k + 0 ≡ k
    here = omega arith

    further : (j : ℕ) → k + suc j ≡ k + 1 + j
    further j = omega arith

module _ (g : Grid) (shades : List Shade) (ps : List Plane) (many : length shades ≡ length ps) (ds : List Draws)
    (h : Fits ps (insides g 0 (chunk_count g)) (fresh ps) ds) where
  abbrev chunks : List Chunk
  chunks = chunks_by ps (fresh ps) ds

  -- the block of the chunks that are read is the block by the script
  pub block-is : (f x y : ℕ) → In g f x y → block_at g shades chunks f x y ≡ block_by g shades ps ds f x y
  unfolding block_at block_of block_by
  block-is f x y at =
      ap (λ (e : ℕ). halves shades (chunk_at chunks c).tiles (nth_list (chunk_at chunks c).positions q) (tile_at e q))
      (encoding-at ps all ds h c counted)
      ∙ halves_by_lem shades (chunk_at chunks c).tiles (nth_list (chunk_at chunks c).positions q) t (endpoint_by ps ds c q)
      (selector_by ps ds c q) 0
      (tiles-long ps all ds h c counted ∙ sym many) (positions-long ps all ds h c counted q (true_within (nth_list all c) q used) ∙ sym
      many)
      (λ j b. endpoint-at ps all ds h c counted j t (omega (arith, many))
      (tile_below (encoding_at ds c) q (mod-lt _ (omega arith)) (omega arith))
      ∙ ap (endpoint_by ps ds c q) (zeroth j))
      (λ j b. selector-at ps all ds h c counted j q (omega (arith, many)) used ∙ ap (selector_by ps ds c q) (zeroth j))
    where
      all : List (List Bool)
      all = insides g 0 (chunk_count g)

      c : ℕ
      c = chunk_of g f x y

      q : ℕ
      q = position_of x y

      t : ℕ
      t = tile_at (encoding_at ds c) q

      zeroth : (j : ℕ) → j ≡ 0 + j
      zeroth j = omega arith

      below : c < chunk_count g
      below = chunk-below g f (x / 2) (y / 2) (covers g f x y at)

      counted : c < length all
      counted = rw (as_many g 0 (chunk_count g)) below

      used : get_or (nth_list all c) q false ≡ true
      used = rw (inside-nth g 0 (chunk_count g) c below, zero-add) (inside-at g f x y at)
