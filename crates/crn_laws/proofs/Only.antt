-- Draws that fit a level are told by their symbols in the fixed order.
use Prim.Native.Nat.{ℕ}
use mathlib.Core.Path.{◌≡◌, refl, sym, ap, ap₂, subst, ◌∙◌}
use mathlib.Core.Bool.{Bool}
use mathlib.Core.List.{List, [], ◌∷◌, ◌++◌, append_assoc}
use native.Mathlib.Omega.{arith}
use lib.ListN.{length, get_or}
use Rattle.crn_format.specs.Level.{Plane, tile_counts, Running}
use Rattle.crn_laws.specs.Scripts.{Sent, symbols, Draws, in_code, endpoints_sent, position_sent, selectors_sent, chunk_sent, level_sent, encodings, selectors_at, chunk_by, after, SymbolFits, EndpointsFit, PositionFits, SelectorsFit, ChunkFits, Fits}

-- two lists that begin alike are told apart by what follows
abbrev Alike : List Sent → List Sent → Type 0
Alike xs ys = symbols xs ≡ symbols ys

regrouped : (a b xs c d ys : List Sent) → Alike ((a ++ b) ++ xs) ((c ++ d) ++ ys) → Alike (a ++ (b ++ xs)) (c ++ (d ++ ys))
regrouped a b xs c d ys e = ap symbols (sym (append_assoc a b xs)) ∙ e ∙ ap symbols (append_assoc c d ys)

none : {A : Type 0} (xs ys : List A) → length xs ≡ 0 → length ys ≡ 0 → xs ≡ ys
none [] [] h g = refl
none [] (y ∷ ys) h g = absurd (omega arith)
none (x ∷ xs) ys h g = absurd (omega arith)

heads : {x y : ℕ} {xs ys : List ℕ} → x ∷ xs ≡ y ∷ ys → (x ≡ y) × (xs ≡ ys)
heads e = (cc, cc)

in_code-same : (ls ys zs : List ℕ) (xs ws : List Sent) → length ys ≡ length zs → Alike (in_code ls ys ++ xs) (in_code ls zs ++ ws) →
    (ys ≡ zs) × Alike xs ws
unfolding in_code symbols
in_code-same ls [] [] xs ws h e = (refl, e)
in_code-same ls [] (z ∷ zs) xs ws h e = absurd (omega arith)
in_code-same ls (y ∷ ys) [] xs ws h e = absurd (omega arith)
in_code-same ls (y ∷ ys) (z ∷ zs) xs ws h e =
    let a = heads e in
    let b = in_code-same ls ys zs xs ws (omega arith) a.1 in
    (ap₂ ◌∷◌ a.0 b.0, b.1)

endpoints-same : (ps : List Plane) (n : ℕ) (is : List ℕ) (yss zss : List (List ℕ)) (xs ws : List Sent) → EndpointsFit ps n is yss →
    EndpointsFit ps n is zss
    → Alike (endpoints_sent ps yss ++ xs) (endpoints_sent ps zss ++ ws) → (yss ≡ zss) × Alike xs ws
unfolding EndpointsFit endpoints_sent
endpoints-same [] n is yss zss xs ws h g e = (none yss zss h g, e)
endpoints-same (p ∷ ps) n [] [] [] xs ws h g e = (refl, e)
endpoints-same (p ∷ ps) n [] [] (zs ∷ zss) xs ws h g e = absurd (omega arith)
endpoints-same (p ∷ ps) n [] (ys ∷ yss) zss xs ws h g e = absurd (omega arith)
endpoints-same (p ∷ ps) n (i ∷ is) [] zss xs ws h g e = absurd h
endpoints-same (p ∷ ps) n (i ∷ is) (ys ∷ yss) [] xs ws h g e = absurd g
endpoints-same (p ∷ ps) n (i ∷ is) (ys ∷ yss) (zs ∷ zss) xs ws h g e =
    let f = regrouped (in_code p.endpoint_deltas ys) (endpoints_sent ps yss) xs (in_code p.endpoint_deltas zs) (endpoints_sent ps zss) ws e
    in
    let a = in_code-same p.endpoint_deltas ys zs (endpoints_sent ps yss ++ xs) (endpoints_sent ps zss ++ ws) (h.0 ∙ sym g.0) f in
    let b = endpoints-same ps n is yss zss xs ws h.1.1 g.1.1 a.1 in
    (ap₂ ◌∷◌ a.0 b.0, b.1)

position-same : (ps : List Plane) (inside : Bool) (is ys zs : List ℕ) (xs ws : List Sent) → PositionFits ps inside is ys → PositionFits ps
    inside is zs
    → Alike (position_sent ps ys ++ xs) (position_sent ps zs ++ ws) → (ys ≡ zs) × Alike xs ws
unfolding PositionFits position_sent symbols
position-same [] inside is ys zs xs ws h g e = (none ys zs h g, e)
position-same (p ∷ ps) inside [] [] [] xs ws h g e = (refl, e)
position-same (p ∷ ps) inside [] [] (z ∷ zs) xs ws h g e = absurd (omega arith)
position-same (p ∷ ps) inside [] (y ∷ ys) zs xs ws h g e = absurd (omega arith)
position-same (p ∷ ps) inside (i ∷ is) [] zs xs ws h g e = absurd h
position-same (p ∷ ps) inside (i ∷ is) (y ∷ ys) [] xs ws h g e = absurd g
position-same (p ∷ ps) inside (i ∷ is) (y ∷ ys) (z ∷ zs) xs ws h g e =
    let a = heads e in
    let b = position-same ps inside is ys zs xs ws h.1 g.1 a.1 in
    (ap₂ ◌∷◌ a.0 b.0, b.1)

selectors-same : (ps : List Plane) (insides : List Bool) (is : List ℕ) (yss zss : List (List ℕ)) (xs ws : List Sent) → SelectorsFit ps
    insides is yss
    → SelectorsFit ps insides is zss → Alike (selectors_sent ps yss ++ xs) (selectors_sent ps zss ++ ws) → (yss ≡ zss) × Alike xs ws
unfolding SelectorsFit selectors_sent
selectors-same ps [] is [] [] xs ws h g e = (refl, e)
selectors-same ps [] is [] (zs ∷ zss) xs ws h g e = absurd (omega arith)
selectors-same ps [] is (ys ∷ yss) zss xs ws h g e = absurd (omega arith)
selectors-same ps (inside ∷ more) is [] zss xs ws h g e = absurd h
selectors-same ps (inside ∷ more) is (ys ∷ yss) [] xs ws h g e = absurd g
selectors-same ps (inside ∷ more) is (ys ∷ yss) (zs ∷ zss) xs ws h g e =
    let f = regrouped (position_sent ps ys) (selectors_sent ps yss) xs (position_sent ps zs) (selectors_sent ps zss) ws e in
    let a = position-same ps inside is ys zs (selectors_sent ps yss ++ xs) (selectors_sent ps zss ++ ws) h.0 g.0 f in
    let k = subst (λ (l : List ℕ). SelectorsFit ps more (selectors_at ps is l) zss) (sym a.0) g.1 in
    let b = selectors-same ps more (selectors_at ps is ys) yss zss xs ws h.1 k a.1 in
    (ap₂ ◌∷◌ a.0 b.0, b.1)

as_many : (pending ys zs : List ℕ) → SymbolFits pending ys → SymbolFits pending zs → length ys ≡ length zs
unfolding SymbolFits
as_many [] ys zs h g = h.0 ∙ sym g.0
as_many (e ∷ pending) ys zs h g = h ∙ sym g

chunk-same : (table : List ℕ) (ps : List Plane) (inside : List Bool) (r : Running) (c d : Draws) (xs ws : List Sent) → ChunkFits ps inside r
    c
    → ChunkFits ps inside r d
    → Alike (chunk_sent table ps c ++ xs) (chunk_sent table ps d ++ ws) → (c ≡ d) × Alike xs ws
unfolding chunk_sent
chunk-same table ps inside r c d xs ws h g e =
    let f = regrouped (in_code table c.symbols) (endpoints_sent ps c.endpoints ++ selectors_sent ps c.selectors) xs
    (in_code table d.symbols) (endpoints_sent ps d.endpoints ++ selectors_sent ps d.selectors) ws e in
    let a = in_code-same table c.symbols d.symbols ((endpoints_sent ps c.endpoints ++ selectors_sent ps c.selectors) ++ xs)
    ((endpoints_sent ps d.endpoints ++ selectors_sent ps d.selectors) ++ ws) (as_many r.pending c.symbols d.symbols h.symbol g.symbol) f in
    let q = regrouped (endpoints_sent ps c.endpoints) (selectors_sent ps c.selectors) xs (endpoints_sent ps d.endpoints)
    (selectors_sent ps d.selectors)
    ws a.1 in
    let b = endpoints-same ps (tiles c.symbols) r.endpoint c.endpoints d.endpoints (selectors_sent ps c.selectors ++ xs)
    (selectors_sent ps d.selectors ++ ws)
    (by_symbols c h.endpoints) (subst (λ (l : List ℕ). EndpointsFit ps (tiles l) r.endpoint d.endpoints) (sym a.0)
    (by_symbols d g.endpoints)) q in
    let s = selectors-same ps inside r.selector c.selectors d.selectors xs ws h.selectors g.selectors b.1 in
    ((λ i. record { symbols = a.0 i; endpoints = b.0 i; selectors = s.0 i }), s.1)
  where
    tiles : List ℕ → ℕ
    tiles ys = get_or tile_counts (get_or (encodings r.pending ys) 0 0) 0

    by_symbols : (d : Draws) → EndpointsFit ps (get_or tile_counts (chunk_by ps r d).encoding 0) r.endpoint d.endpoints
        → EndpointsFit ps (tiles d.symbols) r.endpoint d.endpoints
    by_symbols d h = unfold chunk_by in h

pub level-same : (table : List ℕ) (ps : List Plane) (insides : List (List Bool)) (r : Running) (cs ds : List Draws) → Fits ps insides r cs →
    Fits ps insides r ds
    → Alike (level_sent table ps cs) (level_sent table ps ds) → cs ≡ ds
unfolding Fits level_sent
level-same table ps [] r cs ds h g e = none cs ds h g
level-same table ps (x ∷ more) r [] ds h g e = absurd h
level-same table ps (x ∷ more) r (c ∷ cs) [] h g e = absurd g
level-same table ps (x ∷ more) r (c ∷ cs) (d ∷ ds) h g e =
    let a = chunk-same table ps x r c d (level_sent table ps cs) (level_sent table ps ds) h.0 g.0 e in
    let k = subst (λ (y : Draws). Fits ps more (after ps r y) ds) (sym a.0) g.1 in
    ap₂ ◌∷◌ a.0 (level-same table ps more (after ps r c) cs ds h.1 k a.1)
