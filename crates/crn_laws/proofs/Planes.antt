-- A chunk's indices, plane by plane: by a plane's number, what its deltas give from its running index on.
use Prim.Native.Nat.{ℕ, zero, suc, ◌<◌}
use mathlib.Core.Path.{◌≡◌, refl, ap, ap₂, subst, ◌∙◌}
use mathlib.Core.Bool.{Bool, true, false, false≢true}
use mathlib.Core.List.{List, [], ◌∷◌}
use native.Mathlib.Omega.{arith}
use lib.ListN.{length, get_or}
use Rattle.crn_format.specs.Level.{Plane, stepped, last_or, lasts, last_row}
use Rattle.crn_format.specs.Grid.{nth_list}
use Rattle.crn_laws.specs.Scripts.{indices, endpoints_of, selectors_at, selectors_of, AllBelow, EndpointsFit, PositionFits, SelectorsFit}
use Rattle.crn_laws.specs.Blocks.{column, plane_at}

-- ---- endpoints

pub record EndpointsOf (ps : List Plane) (n : ℕ) (is : List ℕ) (yss : List (List ℕ)) (k : ℕ) : Type 0 where
  pub are : nth_list (endpoints_of ps is yss) k ≡ indices (plane_at ps k).endpoints (get_or is k 0) (nth_list yss k)
  pub many : length (nth_list yss k) ≡ n
  pub below : AllBelow (plane_at ps k).endpoints (indices (plane_at ps k).endpoints (get_or is k 0) (nth_list yss k))

pub endpoints-of : (ps : List Plane) (n : ℕ) (is : List ℕ) (yss : List (List ℕ)) (k : ℕ) → EndpointsFit ps n is yss → length is ≡ length ps
    → k < length ps
    → EndpointsOf ps n is yss k
unfolding EndpointsFit endpoints_of nth_list plane_at
endpoints-of [] n is yss k h l b = absurd (omega arith)
endpoints-of (p ∷ ps) n [] yss k h l b = absurd (omega arith)
endpoints-of (p ∷ ps) n (i ∷ is) [] k h l b = absurd h
endpoints-of (p ∷ ps) n (i ∷ is) (ys ∷ yss) zero h l b = record { are = refl; many = h.0; below = h.1.0 }
endpoints-of (p ∷ ps) n (i ∷ is) (ys ∷ yss) (suc k) h l b =
    let r = endpoints-of ps n is yss k h.1.1 (omega arith) (omega arith) in
    record { are = r.are; many = r.many; below = r.below }

pub endpoints-long : (ps : List Plane) (n : ℕ) (is : List ℕ) (yss : List (List ℕ)) → EndpointsFit ps n is yss → length is ≡ length ps
    → length (endpoints_of ps is yss) ≡ length ps
unfolding EndpointsFit endpoints_of
endpoints-long [] n is yss h l = refl
endpoints-long (p ∷ ps) n [] yss h l = absurd (omega arith)
endpoints-long (p ∷ ps) n (i ∷ is) [] h l = absurd h
endpoints-long (p ∷ ps) n (i ∷ is) (ys ∷ yss) h l = ap suc (endpoints-long ps n is yss h.1.1 (omega arith))

-- the last of each
pub lasts-of : (is : List ℕ) (xss : List (List ℕ)) (k : ℕ) → length xss ≡ length is → k < length is → get_or (lasts is xss) k 0 ≡ last_or
    (get_or is k 0) (nth_list xss k)
unfolding lasts nth_list
lasts-of [] xss k h b = absurd (omega arith)
lasts-of (i ∷ is) [] k h b = absurd (omega arith)
lasts-of (i ∷ is) (xs ∷ xss) zero h b = refl
lasts-of (i ∷ is) (xs ∷ xss) (suc k) h b = lasts-of is xss k (omega arith) (omega arith)

-- ---- selectors

pub record PositionOf (ps : List Plane) (inside : Bool) (is ys : List ℕ) (k : ℕ) : Type 0 where
  pub is-next : get_or (selectors_at ps is ys) k 0 ≡ stepped (plane_at ps k).selectors (get_or is k 0) (get_or ys k 0)
  pub below : inside ≡ true → stepped (plane_at ps k).selectors (get_or is k 0) (get_or ys k 0) < (plane_at ps k).selectors

position-of : (ps : List Plane) (inside : Bool) (is ys : List ℕ) (k : ℕ) → PositionFits ps inside is ys → length is ≡ length ps → k < length
    ps
    → PositionOf ps inside is ys k
unfolding PositionFits selectors_at plane_at
position-of [] inside is ys k h l b = absurd (omega arith)
position-of (p ∷ ps) inside [] ys k h l b = absurd (omega arith)
position-of (p ∷ ps) inside (i ∷ is) [] k h l b = absurd h
position-of (p ∷ ps) inside (i ∷ is) (y ∷ ys) zero h l b = record { is-next = refl; below = h.0 }
position-of (p ∷ ps) inside (i ∷ is) (y ∷ ys) (suc k) h l b =
    let r = position-of ps inside is ys k h.1 (omega arith) (omega arith) in record { is-next = r.is-next; below = r.below }

position-long : (ps : List Plane) (inside : Bool) (is ys : List ℕ) → PositionFits ps inside is ys → length is ≡ length ps
    → length (selectors_at ps is ys) ≡ length ps
unfolding PositionFits selectors_at
position-long [] inside is ys h l = refl
position-long (p ∷ ps) inside [] ys h l = absurd (omega arith)
position-long (p ∷ ps) inside (i ∷ is) [] h l = absurd h
position-long (p ∷ ps) inside (i ∷ is) (y ∷ ys) h l = ap suc (position-long ps inside is ys h.1 (omega arith))

pub record SelectorsOf (ps : List Plane) (insides : List Bool) (is : List ℕ) (yss : List (List ℕ)) (k : ℕ) : Type 0 where
  pub are : column (selectors_of ps is yss) k ≡ indices (plane_at ps k).selectors (get_or is k 0) (column yss k)
  pub many : length (column yss k) ≡ length insides
  pub below : (q : ℕ) → get_or insides q false ≡ true
      → get_or (indices (plane_at ps k).selectors (get_or is k 0) (column yss k)) q 0 < (plane_at ps k).selectors

pub selectors-of : (ps : List Plane) (insides : List Bool) (is : List ℕ) (yss : List (List ℕ)) (k : ℕ) → SelectorsFit ps insides is yss
    → length is ≡ length ps → k < length ps → SelectorsOf ps insides is yss k
unfolding SelectorsFit selectors_of column indices
selectors-of ps [] is [] k h l b = record { are = refl; many = refl; below = λ q e. absurd (false≢true e) }
selectors-of ps [] is (ys ∷ yss) k h l b = absurd (omega arith)
selectors-of ps (inside ∷ more) is [] k h l b = absurd h
selectors-of ps (inside ∷ more) is (ys ∷ yss) k h l b =
    let p = position-of ps inside is ys k h.0 l b in
    let r = selectors-of ps more (selectors_at ps is ys) yss k h.1 (position-long ps inside is ys h.0 l) b in
    let n = (plane_at ps k).selectors in
    let j = stepped n (get_or is k 0) (get_or ys k 0) in
    record {
      are = ap₂ ◌∷◌ p.is-next (r.are ∙ ap (λ (x : ℕ). indices n x (column yss k)) p.is-next);
      many = ap suc r.many;
      below = at n j (column yss k) p.below (subst (λ (x : ℕ). (q : ℕ) → get_or more q false ≡ true → get_or (indices n x (column yss k)) q
          0 < n) p.is-next
          r.below);
    }
  where
    at : (n j : ℕ) (zs : List ℕ) → (inside ≡ true → j < n) → ((q : ℕ) → get_or more q false ≡ true → get_or (indices n j zs) q 0 < n)
        → (q : ℕ) → get_or (inside ∷ more) q false ≡ true → get_or (j ∷ indices n j zs) q 0 < n
    at n j zs first rest zero e = first e
    at n j zs first rest (suc q) e = rest q e

pub row-long : (ps : List Plane) (insides : List Bool) (is : List ℕ) (yss : List (List ℕ)) → SelectorsFit ps insides is yss → length is ≡
    length ps
    → length (last_row is (selectors_of ps is yss)) ≡ length ps
unfolding SelectorsFit selectors_of last_row
row-long ps [] is [] h l = l
row-long ps [] is (ys ∷ yss) h l = absurd (omega arith)
row-long ps (inside ∷ more) is [] h l = absurd h
row-long ps (inside ∷ more) is (ys ∷ yss) h l = row-long ps more (selectors_at ps is ys) yss h.1 (position-long ps inside is ys h.0 l)

-- the row of each position has an index for each plane
pub rows_long : (ps : List Plane) (insides : List Bool) (is : List ℕ) (yss : List (List ℕ)) (q : ℕ) → SelectorsFit ps insides is yss →
    length is ≡ length ps
    → q < length insides → length (nth_list (selectors_of ps is yss) q) ≡ length ps
unfolding SelectorsFit selectors_of nth_list
rows_long ps [] is yss q h l b = absurd (omega arith)
rows_long ps (inside ∷ more) is [] q h l b = absurd h
rows_long ps (inside ∷ more) is (ys ∷ yss) zero h l b = position-long ps inside is ys h.0 l
rows_long ps (inside ∷ more) is (ys ∷ yss) (suc q) h l b = rows_long ps more (selectors_at ps is ys) yss q h.1
    (position-long ps inside is ys h.0 l)
    (omega arith)

pub row-of : (is : List ℕ) (xss : List (List ℕ)) (k : ℕ) → get_or (last_row is xss) k 0 ≡ last_or (get_or is k 0) (column xss k)
unfolding last_row column last_or
row-of is [] k = refl
row-of is (xs ∷ xss) k = row-of xs xss k

pub in_column : (xss : List (List ℕ)) (q k : ℕ) → get_or (nth_list xss q) k 0 ≡ get_or (column xss k) q 0
unfolding nth_list column
in_column [] q k = refl
in_column (xs ∷ xss) zero k = refl
in_column (xs ∷ xss) (suc q) k = in_column xss q k
