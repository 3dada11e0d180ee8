-- A chunk that is read has its endpoint indices in range, and its selector indices at the positions inside the grid: so the palettes have the entries of its blocks.
use Prim.Native.Nat.{ℕ, zero, suc, ◌+◌, ◌<◌}
use Rattle.std.specs.Prelude.{Ok}
use mathlib.Core.Path.{◌≡◌, refl, sym, ap, ◌∙◌, subst}
use mathlib.Core.Bool.{Bool, true, false, false≢true}
use mathlib.Core.List.{List, [], ◌∷◌, ◌++◌, append-nil, append_assoc}
use native.Mathlib.Omega.{arith}
use native.Mathlib.Nat.{not-suc-le-zero}
use borrow.Author.Tests.{ltb-true}
use lib.Dec.{ltb}
use lib.ListN.{get_or, drop}
use lib.Seq.{get_or-take, get_or-drop}
use Rattle.crn_format.specs.Choice.{not, either}
use Rattle.crn_format.specs.Reading.{Reading, answer, refuse, symbol, next, got, run}
use Rattle.crn_format.specs.Level.{Plane, Running, Chunk, stepped, endpoint_index, selector_index, endpoint_indices, plane_endpoints, plane_selectors, position_selectors, encoding, tile_counts, tile_at, chunk}
use Rattle.crn_format.specs.Grid.{Shade, color, alpha}
use Rattle.crn_format.specs.Opening.{Palettes}
use Rattle.crn_format.proofs.Answers.{All, run-all, all-next, Any, all_any, all-pick, all-answer}
use Rattle.crn_chunks.specs.Meaning.{source, spending, row, plane_of, planes, Coded, Served, running_of, chunk_of}
use Rattle.crn_chunks.specs.Reads.{Reads, Answer, chunked, inside_of}
use Rattle.crn_chunks.specs.declared.Planes.{Planes}
use Rattle.crn_chunks.specs.declared.Carried.{Carried}
use Rattle.crn_chunks.specs.declared.Stream.{Stream}
use Rattle.crn_blocks.specs.Halves.{Has, Reach}
use Rattle.crn_chunk_blocks.specs.Blocks.{shade_of, Reaches, AllFilled}
use Rattle.crn_chunk_blocks.proofs.Positions.{tile_below}

-- ---- lists

-- n numbers, each below m
data Below (m : ℕ) : ℕ → List ℕ → Type 0 where
  none : Below m 0 []
  more : {n x : ℕ} {xs : List ℕ} → x < m → Below m n xs → Below m (suc n) (x ∷ xs)

one_more : {m n x : ℕ} {xs : List ℕ} → Below m n xs → x < m → Below m (suc n) (xs ++ (x ∷ []))
one_more none h = more h none
one_more (more g xs) h = more g (one_more xs h)

below_at : {m n : ℕ} {xs : List ℕ} → Below m n xs → (k : ℕ) → k < n → get_or xs k 0 < m
below_at none k h = absurd (not-suc-le-zero h)
below_at (more g xs) zero h = g
below_at (more g xs) (suc k) h = below_at xs k (omega arith)

-- each plane has R to what stands for it
data Along {A : Type 0} (R : Plane → A → Type 0) : List Plane → List A → Type 0 where
  none : {ps : List Plane} → Along R ps []
  more : {p : Plane} {ps : List Plane} {a : A} {bs : List A} → R p a → Along R ps bs → Along R (p ∷ ps) (a ∷ bs)

in_row : {A : Type 0} {R : Plane → A → Type 0} (two : Bool) {p q : Plane} {a b : A} → Along R (row two p q) (row two a b) → R p a ×
    (two ≡ true → R q b)
in_row true (more h (more g none)) = (h, λ _. g)
in_row false (more h none) = (h, λ e. absurd (false≢true e))

along_next : {A : Type 0} (R : Plane → A → Type 0) (p : Plane) (ps : List Plane) (m : Reading A) (rest : Reading (List A)) → All (R p) m →
    All (Along R ps) rest
    → All (Along R (p ∷ ps)) (next m λ a. next rest λ more. answer (a ∷ more))
along_next R p ps m rest h g =
    all-next (R p) (Along R (p ∷ ps)) m _ h
    (λ a here. all-next (Along R ps) (Along R (p ∷ ps)) rest _ g (λ bs there. all-answer (Along R (p ∷ ps)) (more here there)))

-- ---- the tiles

abbrev Tiles : ℕ → Plane → List ℕ → Type 0
Tiles n p t = Below p.endpoints n t

endpoint-below : (p : Plane) (i : ℕ) → All (λ j. j < p.endpoints) (endpoint_index p i)
unfolding endpoint_index
endpoint-below p i =
    all-next Any (λ j. j < p.endpoints) (symbol p.endpoint_deltas) _ (all_any (symbol p.endpoint_deltas))
    (λ d _. all-pick (λ j. j < p.endpoints) (ltb (stepped p.endpoints i d) p.endpoints) (answer (stepped p.endpoints i d)) (refuse 14)
    (λ e. all-answer (λ j. j < p.endpoints) (ltb-true (stepped p.endpoints i d) p.endpoints e)) (λ _. unfold All in tt))

endpoints-below : (p : Plane) (n i k m : ℕ) (is : List ℕ) → k + n ≡ m → Tiles k p is → All (Tiles m p) (endpoint_indices p n i is)
unfolding endpoint_indices
endpoints-below p zero i k m is e h = let z : k ≡ m = omega arith in all-answer (Tiles m p) (subst (λ (x : ℕ). Tiles x p is) z h)
endpoints-below p (suc n) i k m is e h =
    all-next (λ j. j < p.endpoints) (Tiles m p) (endpoint_index p i) _ (endpoint-below p i)
    (λ j below. endpoints-below p n j (suc k) m (is ++ (j ∷ [])) (omega arith) (one_more h below))

tiles_in : (ps : List Plane) (n : ℕ) (is : List ℕ) → All (Along (Tiles n) ps) (plane_endpoints ps n is)
unfolding plane_endpoints
tiles_in [] n is = all-answer (Along (Tiles n) []) none
tiles_in (p ∷ ps) n [] = all-answer (Along (Tiles n) (p ∷ ps)) none
tiles_in (p ∷ ps) n (i ∷ is) =
    along_next (Tiles n) p ps (endpoint_indices p n i []) (plane_endpoints ps n is) (endpoints-below p n i 0 n [] (omega arith) none)
    (tiles_in ps n is)

-- ---- the selectors at a position, where it lies inside

abbrev Picked : Bool → Plane → ℕ → Type 0
Picked inside p j = inside ≡ true → j < p.selectors

looked_at : (inside below : Bool) → either below (not inside) ≡ true → inside ≡ true → below ≡ true
looked_at inside true e is = refl
looked_at true false e is = e
looked_at false false e is = absurd (false≢true is)

selector-below : (p : Plane) (inside : Bool) (i : ℕ) → All (Picked inside p) (selector_index p inside i)
unfolding selector_index
selector-below p inside i =
    all-next Any (Picked inside p) (symbol p.selector_deltas) _ (all_any (symbol p.selector_deltas))
    (λ d _. all-pick (Picked inside p) (either (ltb (stepped p.selectors i d) p.selectors) (not inside)) (answer (stepped p.selectors i d))
    (refuse 14)
    (λ e. all-answer (Picked inside p) (λ is. ltb-true (stepped p.selectors i d) p.selectors
    (looked_at inside (ltb (stepped p.selectors i d) p.selectors) e is)))
    (λ _. unfold All in tt))

picked_in : (ps : List Plane) (inside : Bool) (is : List ℕ) → All (Along (Picked inside) ps) (plane_selectors ps inside is)
unfolding plane_selectors
picked_in [] inside is = all-answer (Along (Picked inside) []) none
picked_in (p ∷ ps) inside [] = all-answer (Along (Picked inside) (p ∷ ps)) none
picked_in (p ∷ ps) inside (i ∷ is) =
    along_next (Picked inside) p ps (selector_index p inside i) (plane_selectors ps inside is) (selector-below p inside i)
    (picked_in ps inside is)

-- ---- the positions

data Places (ps : List Plane) : List Bool → List (List ℕ) → Type 0 where
  none : Places ps [] []
  more : {b : Bool} {bs : List Bool} {r : List ℕ} {rs : List (List ℕ)} → Along (Picked b) ps r → Places ps bs rs → Places ps (b ∷ bs)
      (r ∷ rs)

last : {ps : List Plane} {b : Bool} {bs : List Bool} {r : List ℕ} {rs : List (List ℕ)} → Places ps bs rs → Along (Picked b) ps r → Places ps
    (bs ++ (b ∷ [])) (rs ++ (r ∷ []))
last none h = more h none
last (more g rs) h = more g (last rs h)

places_in : (ps : List Plane) (before after : List Bool) (is : List ℕ) (rows : List (List ℕ)) → Places ps before rows
    → All (Places ps (before ++ after)) (position_selectors ps after is rows)
unfolding position_selectors
places_in ps before [] is rows h =
    all-answer (Places ps (before ++ [])) (subst (λ (bs : List Bool). Places ps bs rows) (sym (append-nil before)) h)
places_in ps before (inside ∷ after) is rows h =
    subst (λ (bs : List Bool). All (Places ps bs) (next (plane_selectors ps inside is) λ js. position_selectors ps after js
    (rows ++ (js ∷ []))))
    (append_assoc before (inside ∷ []) after)
    (all-next (Along (Picked inside) ps) (Places ps ((before ++ (inside ∷ [])) ++ after)) (plane_selectors ps inside is) _
    (picked_in ps inside is)
    (λ js picked. places_in ps (before ++ (inside ∷ [])) after js (rows ++ (js ∷ [])) (last h picked)))

-- ---- a chunk

record InRange (ps : List Plane) (inside : List Bool) (c : Chunk) : Type 0 where
  tiles : Along (Tiles (get_or tile_counts c.encoding 0)) ps c.tiles
  places : Places ps inside c.positions

chunk_in : (ls : List ℕ) (ps : List Plane) (inside : List Bool) (r : Running) → All (λ a. InRange ps inside a.0) (chunk ls ps inside r)
unfolding chunk
chunk_in ls ps inside r =
    all-next Any (λ (a : Chunk × Running). InRange ps inside a.0) (encoding ls r.pending) _ (all_any (encoding ls r.pending))
    (λ e _. all-next (Along (Tiles (get_or tile_counts e.0 0)) ps) (λ (a : Chunk × Running). InRange ps inside a.0)
    (plane_endpoints ps (get_or tile_counts e.0 0) r.endpoint) _
    (tiles_in ps (get_or tile_counts e.0 0) r.endpoint)
    (λ t tiles. all-next (Places ps inside) (λ (a : Chunk × Running). InRange ps inside a.0) (position_selectors ps inside r.selector []) _
    (places_in ps [] inside r.selector [] none)
    (λ q places. all-answer (λ (a : Chunk × Running). InRange ps inside a.0) (record { tiles = tiles; places = places }))))

-- ---- its indices, as they stand in `out`

picked-at : (two : Bool) (p₀ p₁ : Plane) (out : List ℕ) {right bottom : Bool} (q : ℕ) → q < 4
    → Places (row two p₀ p₁) (inside_of right bottom)
    (row two (get_or out 8 0) (get_or out 12 0) ∷ row two (get_or out 9 0) (get_or out 13 0) ∷ row two (get_or out 10 0) (get_or out 14 0)
    ∷ row two (get_or out 11 0) (get_or out 15 0) ∷ [])
    → Along (Picked (get_or (inside_of right bottom) q true)) (row two p₀ p₁) (row two (get_or out (8 + q) 0) (get_or out (12 + q) 0))
picked-at two p₀ p₁ out zero h (more a _) = a
picked-at two p₀ p₁ out (suc zero) h (more _ (more b _)) = b
picked-at two p₀ p₁ out (suc (suc zero)) h (more _ (more _ (more c _))) = c
picked-at two p₀ p₁ out (suc (suc (suc zero))) h (more _ (more _ (more _ (more d _)))) = d
picked-at two p₀ p₁ out (suc (suc (suc (suc q)))) h _ = absurd (omega arith)

has : (x : Shade) {m n : ℕ} (e s : ℕ) → Reach x m n → e < m → s < n → Has x e s
has (color ends sels) e s reach he hs = (omega arith, omega arith)
has (alpha ends sels) e s reach he hs = (omega arith, omega arith)

module _ {lookup sorted seg out : List ℕ} {ps : Planes} {right bottom : Bool} {r : Carried} {s : Stream} {a : Answer}
    (reads : Reads lookup sorted seg ps right bottom r s out a)
    {e : ℕ} {n : Carried} {t : Stream} (is : a ≡ Ok (e, n, t)) where
  -- by every code that the tables decode
  pub read_so : (cs : ℕ → List ℕ) → Coded cs ps lookup sorted
      → run (source seg) (chunk (cs 0) (planes cs ps) (inside_of right bottom) (running_of ps.two r)) (spending s) ≡ got
      (chunk_of ps.two e out, running_of ps.two n) (spending t)
  read_so cs coded = sym (reads.same cs coded) ∙ ap (chunked ps.two out) is ∙ (unfold chunked in refl)

  in_range : (served : Served ps lookup sorted) → InRange (planes served.codes ps) (inside_of right bottom) (chunk_of ps.two e out)
  in_range served =
      run-all (source seg) (λ (x : Chunk × Running). InRange (planes served.codes ps) (inside_of right bottom) x.0)
      (chunk (served.codes 0) (planes served.codes ps) (inside_of right bottom) (running_of ps.two r))
      (chunk_in (served.codes 0) (planes served.codes ps) (inside_of right bottom) (running_of ps.two r)) (spending s)
      (read_so served.codes served.coded)

  pub filled : Served ps lookup sorted → (p : Palettes) → Reaches p ps.first × Reaches p ps.second → AllFilled p ps e out right bottom
  unfolding chunk_of plane_of
  filled served p reach q four inside =
      let known : e < 8 = (reads.on e n t is).1 in
      let tile : tile_at e q < get_or tile_counts e 0 = tile_below e q known four in
      let tiles = in_row ps.two (in_range served).tiles in
      let picked = in_row ps.two (picked-at ps.two (plane_of served.codes ps.first) (plane_of served.codes ps.second) out q four
      (in_range served).places) in
      record {
        first = has (shade_of p ps.first) (get_or out (tile_at e q) 0) (get_or out (8 + q) 0) reach.0
            (rw (get_or-take _ out (tile_at e q) 0 tile) at (below_at tiles.0 (tile_at e q) tile)) (picked.0 inside);
        second = λ two.
            has (shade_of p ps.second) (get_or out (4 + tile_at e q) 0) (get_or out (12 + q) 0) reach.1
            (rw (get_or-take _ (drop 4 out) (tile_at e q) 0 tile, get_or-drop 4 out (tile_at e q) 0) at
            (below_at (tiles.1 two) (tile_at e q) tile)) (picked.1 two inside);
      }
