-- The readings of a level refuse by 13, of a chunk symbol, and by 14, of a palette index.
use Prim.Native.Nat.{ℕ, zero, suc}
use mathlib.Core.Bool.{Bool, true}
use mathlib.Core.List.{List, [], ◌∷◌, ◌++◌}
use mathlib.Core.Path.{◌≡◌}
use lib.ListN.{get_or}
use lib.Dec.{ltb}
use Rattle.crn_format.specs.Choice.{not, either}
use Rattle.crn_format.specs.Limits.{chunk_symbols}
use Rattle.crn_format.specs.Reading.{Reading, answer, next}
use Rattle.crn_format.specs.Level.{Plane, Chunk, Running, stepped, endpoint_index, selector_index, endpoint_indices, plane_endpoints, plane_selectors, position_selectors, encoding, tile_counts, chunk, chunks, fresh, level}
use Rattle.crn_format.proofs.Refusing.{Refuses, answers, refusing, by_test, one_then, symbol-then}

module _ (ok : ℕ → Bool) (fourteen : ok 14 ≡ true) where
  an_endpoint : (p : Plane) (i : ℕ) → Refuses ok (endpoint_index p i)
  unfolding endpoint_index
  an_endpoint p i =
      symbol-then ok p.endpoint_deltas _ (λ d. by_test ok (ltb (stepped p.endpoints i d) p.endpoints) _ _ (answers ok _)
      (refusing ok ℕ 14 fourteen))

  a_selector : (p : Plane) (inside : Bool) (i : ℕ) → Refuses ok (selector_index p inside i)
  unfolding selector_index
  a_selector p inside i =
      symbol-then ok p.selector_deltas _ (λ d. by_test ok (either (ltb (stepped p.selectors i d) p.selectors) (not inside)) _ _
      (answers ok _)
      (refusing ok ℕ 14 fourteen))

  endpoints : (p : Plane) (n i : ℕ) (is : List ℕ) → Refuses ok (endpoint_indices p n i is)
  unfolding endpoint_indices
  endpoints p zero i is = answers ok is
  endpoints p (suc n) i is = one_then ok (endpoint_index p i) _ (an_endpoint p i) (λ j. endpoints p n j (is ++ (j ∷ [])))

  -- an answer put before a list of answers
  put-before : {A : Type 0} (m : Reading A) (rest : Reading (List A)) → Refuses ok m → Refuses ok rest
      → Refuses ok (next m λ a. next rest λ more. answer (a ∷ more))
  put-before m rest h k = one_then ok m _ h (λ a. one_then ok rest _ k (λ more. answers ok (a ∷ more)))

  tiles : (ps : List Plane) (n : ℕ) (is : List ℕ) → Refuses ok (plane_endpoints ps n is)
  unfolding plane_endpoints
  tiles [] n is = answers ok []
  tiles (p ∷ ps) n [] = answers ok []
  tiles (p ∷ ps) n (i ∷ is) = put-before (endpoint_indices p n i []) (plane_endpoints ps n is) (endpoints p n i []) (tiles ps n is)

  selectors : (ps : List Plane) (inside : Bool) (is : List ℕ) → Refuses ok (plane_selectors ps inside is)
  unfolding plane_selectors
  selectors [] inside is = answers ok []
  selectors (p ∷ ps) inside [] = answers ok []
  selectors (p ∷ ps) inside (i ∷ is) =
      put-before (selector_index p inside i) (plane_selectors ps inside is) (a_selector p inside i) (selectors ps inside is)

  positions : (ps : List Plane) (insides : List Bool) (is : List ℕ) (rows : List (List ℕ)) → Refuses ok
      (position_selectors ps insides is rows)
  unfolding position_selectors
  positions ps [] is rows = answers ok rows
  positions ps (inside ∷ more) is rows =
      one_then ok (plane_selectors ps inside is) _ (selectors ps inside is) (λ js. positions ps more js (rows ++ (js ∷ [])))

  module _ (thirteen : ok 13 ≡ true) (table : List ℕ) (ps : List Plane) where
    an_encoding : (pending : List ℕ) → Refuses ok (encoding table pending)
    unfolding encoding
    an_encoding [] = symbol-then ok table _ (λ s. by_test ok (ltb s chunk_symbols) _ _ (answers ok _)
        (refusing ok (ℕ × List ℕ) 13 thirteen))
    an_encoding (e ∷ pending) = answers ok (e, pending)

    a_chunk : (inside : List Bool) (r : Running) → Refuses ok (chunk table ps inside r)
    unfolding chunk
    a_chunk inside r =
        one_then ok (encoding table r.pending) _ (an_encoding r.pending)
        (λ e. one_then ok (plane_endpoints ps (get_or tile_counts e.0 0) r.endpoint) _ (tiles ps _ r.endpoint)
        (λ t. one_then ok (position_selectors ps inside r.selector []) _ (positions ps inside r.selector []) (λ q. answers ok _)))

    all-chunks : (insides : List (List Bool)) (r : Running) (cs : List Chunk) → Refuses ok (chunks table ps insides r cs)
    unfolding chunks
    all-chunks [] r cs = answers ok (cs, r)
    all-chunks (inside ∷ more) r cs = one_then ok (chunk table ps inside r) _ (a_chunk inside r)
        (λ a. all-chunks more a.1 (cs ++ (a.0 ∷ [])))

    pub level_refuses : (insides : List (List Bool)) → Refuses ok (level table ps insides)
    unfolding level
    level_refuses insides = one_then ok (chunks table ps insides (fresh ps) []) _ (all-chunks insides (fresh ps) []) (λ a. answers ok a.0)
