-- A script that the level's reading accepts to its end is the symbols of draws that fit the level.
use Prim.Native.Nat.{ℕ, zero, suc, ◌/◌, ◌%◌, ◌<◌}
use mathlib.Core.Path.{◌≡◌, refl, sym, ap, subst, ◌∙◌}
use mathlib.Core.Bool.{Bool, true, false}
use mathlib.Core.List.{List, [], ◌∷◌, ◌++◌, append_assoc, append-nil}
use lib.ListN.{length, get_or, drop}
use lib.Dec.{ltb}
use borrow.Author.Tests.{ltb-true}
use Rattle.crn_format.specs.Choice.{pick, not, either}
use Rattle.crn_format.specs.Limits.{chunk_symbols}
use Rattle.crn_format.specs.Reading.{Reading, answer, refuse, next, symbol, Step, got, refused, then, Source, run, from_script}
use Rattle.crn_format.specs.Level.{Plane, stepped, endpoint_index, selector_index, endpoint_indices, plane_endpoints, plane_selectors, position_selectors, tile_counts, encoding, Running, Chunk, lasts, last_row, chunk, chunks, fresh, level}
use Rattle.crn_format.proofs.Scripts.{never}
use Rattle.crn_format.proofs.Steps.{run-next}
use Rattle.crn_laws.specs.Scripts.{Sent, symbols, Draws, in_code, endpoints_sent, position_sent, selectors_sent, chunk_sent, level_sent, encodings, indices, endpoints_of, selectors_at, selectors_of, chunk_by, after, SymbolFits, AllBelow, EndpointsFit, PositionFits, SelectorsFit, ChunkFits, Fits}

-- ---- a run that went through

-- of one reading and then another
record Went {S A B : Type 0} (src : Source S) (m : Reading A) (k : A → Reading B) (w : S) (b : B) (v : S) : Type 0 where
  middle : A
  place : S
  first : run src m w ≡ got middle place
  second : run src (k middle) place ≡ got b v

went : {S A B : Type 0} (src : Source S) (m : Reading A) (k : A → Reading B) (w : S) (b : B) (v : S) → run src (next m k) w ≡ got b v
    → Went src m k w b v
unfolding then
went {S} {A} src m k w b v e = by (run src m w) refl (sym (run-next src m k w) ∙ e)
  where
    by : (y : Step S A) → run src m w ≡ y → then y (λ a u. run src (k a) u) ≡ got b v → Went src m k w b v
    by (got a u) is e = record { middle = a; place = u; first = is; second = e }
    by (refused n u) is e = never e

answered : {S A : Type 0} (src : Source S) (a : A) (w : S) (b : A) (v : S) → run src (answer a) w ≡ got b v → (a ≡ b) × (w ≡ v)
unfolding run
answered src a w b v e = let x : a ≡ b = cc in let y : w ≡ v = cc in (x, y)

-- an answer made of another reading's
went-made : {S A B : Type 0} (src : Source S) (m : Reading A) (k : A → B) (w : S) (b : B) (v : S) → run src (next m (λ a. answer (k a))) w ≡
    got b v
    → (a : A) × (run src m w ≡ got a v) × (b ≡ k a)
went-made src m k w b v e =
    let g = went src m (λ a. answer (k a)) w b v e in
    let h = answered src (k g.middle) g.place b v g.second in
    (g.middle, subst (λ x. run src m w ≡ got g.middle x) h.1 g.first, sym h.0)

-- ---- scripts in parts

symbols-append : (xs ys : List Sent) → symbols (xs ++ ys) ≡ symbols xs ++ symbols ys
unfolding symbols
symbols-append [] ys = refl
symbols-append (x ∷ xs) ys = ap (λ (l : List ℕ). x.symbol ∷ l) (symbols-append xs ys)

in_parts : (xs ys : List Sent) {ss ts : List ℕ} (us : List ℕ) → ss ≡ symbols xs ++ ts → ts ≡ symbols ys ++ us → ss ≡ symbols (xs ++ ys) ++
    us
in_parts xs ys {ss} {ts} us e f =
    e ∙ ap (λ (l : List ℕ). symbols xs ++ l) f ∙ sym (append_assoc (symbols xs) (symbols ys) us) ∙ ap (λ (l : List ℕ). l ++ us)
    (sym (symbols-append xs ys))

symbol-taken : (ls ss : List ℕ) (y : ℕ) (rest : List ℕ) → run from_script (symbol ls) ss ≡ got y rest → ss ≡ y ∷ rest
unfolding run then from_script
symbol-taken ls [] y rest e = never e
symbol-taken ls (s ∷ ss) y rest e = let x : s ≡ y = cc in let z : ss ≡ rest = cc in cc

-- a test that a reading makes before it answers
tested : {A : Type 0} (b : Bool) (a : A) (n : ℕ) (w : List ℕ) (c : A) (v : List ℕ) → run from_script (pick b (answer a) (refuse n)) w ≡ got
    c v
    → (b ≡ true) × (a ≡ c) × (w ≡ v)
tested true a n w c v e = let h = answered from_script a w c v e in (refl, h.0, h.1)
tested false a n w c v e = unfold run in never e

-- ---- endpoints

endpoint-taken : (p : Plane) (i : ℕ) (ss : List ℕ) (j : ℕ) (rest : List ℕ) → run from_script (endpoint_index p i) ss ≡ got j rest
    → (y : ℕ) × (stepped p.endpoints i y < p.endpoints) × (ss ≡ y ∷ rest) × (j ≡ stepped p.endpoints i y)
unfolding endpoint_index
endpoint-taken p i ss j rest e =
    let k : ℕ → Reading ℕ = λ d. pick (ltb (stepped p.endpoints i d) p.endpoints) (answer (stepped p.endpoints i d)) (refuse 14) in
    let g = went from_script (symbol p.endpoint_deltas) k ss j rest e in
    let y = g.middle in
    let t = tested (ltb (stepped p.endpoints i y) p.endpoints) (stepped p.endpoints i y) 14 g.place j rest g.second in
    (y, ltb-true _ _ t.0, symbol-taken p.endpoint_deltas ss y g.place g.first ∙ ap (λ (l : List ℕ). y ∷ l) t.2, sym t.1)

indices-taken : (p : Plane) (n i : ℕ) (is ss xs rest : List ℕ) → run from_script (endpoint_indices p n i is) ss ≡ got xs rest
    → (ys : List ℕ) × (length ys ≡ n) × AllBelow p.endpoints (indices p.endpoints i ys) ×
    (ss ≡ symbols (in_code p.endpoint_deltas ys) ++ rest)
    × (xs ≡ is ++ indices p.endpoints i ys)
unfolding endpoint_indices indices AllBelow in_code symbols
indices-taken p zero i is ss xs rest e =
    let h = answered from_script is ss xs rest e in ([], refl, tt, h.1, sym h.0 ∙ sym (append-nil is))
indices-taken p (suc n) i is ss xs rest e =
    let g = went from_script (endpoint_index p i) (λ j. endpoint_indices p n j (is ++ (j ∷ []))) ss xs rest e in
    let a = endpoint-taken p i ss g.middle g.place g.first in
    let y = a.0 in
    let j = stepped p.endpoints i y in
    let s : run from_script (endpoint_indices p n j (is ++ (j ∷ []))) g.place ≡ got xs rest
    = subst (λ (k : ℕ). run from_script (endpoint_indices p n k (is ++ (k ∷ []))) g.place ≡ got xs rest) a.3 g.second in
    let b = indices-taken p n j (is ++ (j ∷ [])) g.place xs rest s in (
      y ∷ b.0,
      ap suc b.1,
      (a.1, b.2),
      a.2 ∙ ap (λ (l : List ℕ). y ∷ l) b.3,
      b.4 ∙ append_assoc is (j ∷ []) (indices p.endpoints j b.0),
    )

endpoints-taken : (ps : List Plane) (n : ℕ) (is ss : List ℕ) (xss : List (List ℕ)) (rest : List ℕ) → run from_script
    (plane_endpoints ps n is) ss ≡ got xss rest
    → (yss : List (List ℕ)) × EndpointsFit ps n is yss × (ss ≡ symbols (endpoints_sent ps yss) ++ rest) × (xss ≡ endpoints_of ps is yss)
unfolding plane_endpoints EndpointsFit endpoints_sent endpoints_of symbols
endpoints-taken [] n is ss xss rest e = let h = answered {A = List (List ℕ)} from_script [] ss xss rest e in ([], refl, h.1, sym h.0)
endpoints-taken (p ∷ ps) n [] ss xss rest e = let h = answered {A = List (List ℕ)} from_script [] ss xss rest e in ([], refl, h.1, sym h.0)
endpoints-taken (p ∷ ps) n (i ∷ is) ss xss rest e =
    let g = went from_script (endpoint_indices p n i []) (λ a. next (plane_endpoints ps n is) λ more. answer (a ∷ more)) ss xss rest e in
    let a = indices-taken p n i [] ss g.middle g.place g.first in
    let h = went-made from_script (plane_endpoints ps n is) (λ more. g.middle ∷ more) g.place xss rest g.second in
    let b = endpoints-taken ps n is g.place h.0 rest h.1 in (
      a.0 ∷ b.0,
      (a.1, (a.2, b.1)),
      in_parts (in_code p.endpoint_deltas a.0) (endpoints_sent ps b.0) rest a.3 b.2,
      h.2 ∙ ap (λ (x : List ℕ). x ∷ h.0) a.4 ∙ ap (λ (x : List (List ℕ)). indices p.endpoints i a.0 ∷ x) b.3,
    )

-- ---- selectors

used : (b inside : Bool) → either b (not inside) ≡ true → inside ≡ true → b ≡ true
used true inside e f = refl
used false true e f = e
used false false e f = f

selector-taken : (p : Plane) (inside : Bool) (i : ℕ) (ss : List ℕ) (j : ℕ) (rest : List ℕ) → run from_script (selector_index p inside i) ss
    ≡ got j rest
    → (y : ℕ) × (inside ≡ true → stepped p.selectors i y < p.selectors) × (ss ≡ y ∷ rest) × (j ≡ stepped p.selectors i y)
unfolding selector_index
selector-taken p inside i ss j rest e =
    let k : ℕ → Reading ℕ = λ d. pick (either (ltb (stepped p.selectors i d) p.selectors) (not inside)) (answer (stepped p.selectors i d))
    (refuse 14) in
    let g = went from_script (symbol p.selector_deltas) k ss j rest e in
    let y = g.middle in
    let t = tested (either (ltb (stepped p.selectors i y) p.selectors) (not inside)) (stepped p.selectors i y) 14 g.place j rest g.second in (
      y,
      (λ is. ltb-true _ _ (used (ltb (stepped p.selectors i y) p.selectors) inside t.0 is)),
      symbol-taken p.selector_deltas ss y g.place g.first ∙ ap (λ (l : List ℕ). y ∷ l) t.2,
      sym t.1,
    )

position-taken : (ps : List Plane) (inside : Bool) (is ss xs rest : List ℕ) → run from_script (plane_selectors ps inside is) ss ≡ got xs
    rest
    → (ys : List ℕ) × PositionFits ps inside is ys × (ss ≡ symbols (position_sent ps ys) ++ rest) × (xs ≡ selectors_at ps is ys)
unfolding plane_selectors PositionFits position_sent selectors_at symbols
position-taken [] inside is ss xs rest e = let h = answered {A = List ℕ} from_script [] ss xs rest e in ([], refl, h.1, sym h.0)
position-taken (p ∷ ps) inside [] ss xs rest e = let h = answered {A = List ℕ} from_script [] ss xs rest e in ([], refl, h.1, sym h.0)
position-taken (p ∷ ps) inside (i ∷ is) ss xs rest e =
    let g = went from_script (selector_index p inside i) (λ j. next (plane_selectors ps inside is) λ more. answer (j ∷ more)) ss xs rest e
    in
    let a = selector-taken p inside i ss g.middle g.place g.first in
    let h = went-made from_script (plane_selectors ps inside is) (λ more. g.middle ∷ more) g.place xs rest g.second in
    let b = position-taken ps inside is g.place h.0 rest h.1 in (
      a.0 ∷ b.0,
      (a.1, b.1),
      a.2 ∙ ap (λ (l : List ℕ). a.0 ∷ l) b.2,
      h.2 ∙ ap (λ (x : ℕ). x ∷ h.0) a.3 ∙ ap (λ (x : List ℕ). stepped p.selectors i a.0 ∷ x) b.3,
    )

selectors-taken : (ps : List Plane) (insides : List Bool) (is : List ℕ) (rows : List (List ℕ)) (ss : List ℕ) (xss : List (List ℕ))
    (rest : List ℕ)
    → run from_script (position_selectors ps insides is rows) ss ≡ got xss rest
    → (yss : List (List ℕ)) × SelectorsFit ps insides is yss × (ss ≡ symbols (selectors_sent ps yss) ++ rest) ×
    (xss ≡ rows ++ selectors_of ps is yss)
unfolding position_selectors SelectorsFit selectors_sent selectors_of symbols
selectors-taken ps [] is rows ss xss rest e =
    let h = answered from_script rows ss xss rest e in ([], refl, h.1, sym h.0 ∙ sym (append-nil rows))
selectors-taken ps (inside ∷ more) is rows ss xss rest e =
    let g = went from_script (plane_selectors ps inside is) (λ js. position_selectors ps more js (rows ++ (js ∷ []))) ss xss rest e in
    let a = position-taken ps inside is ss g.middle g.place g.first in
    let js = selectors_at ps is a.0 in
    let s : run from_script (position_selectors ps more js (rows ++ (js ∷ []))) g.place ≡ got xss rest
    = subst (λ (x : List ℕ). run from_script (position_selectors ps more x (rows ++ (x ∷ []))) g.place ≡ got xss rest) a.3 g.second in
    let b = selectors-taken ps more js (rows ++ (js ∷ [])) g.place xss rest s in (
      a.0 ∷ b.0,
      (a.1, b.1),
      in_parts (position_sent ps a.0) (selectors_sent ps b.0) rest a.2 b.2,
      b.3 ∙ append_assoc rows (js ∷ []) (selectors_of ps js b.0),
    )

-- ---- chunks

encoding-taken : (table pending ss : List ℕ) (a : ℕ × List ℕ) (rest : List ℕ) → run from_script (encoding table pending) ss ≡ got a rest
    → (ys : List ℕ) × SymbolFits pending ys × (ss ≡ symbols (in_code table ys) ++ rest)
    × (a ≡ (get_or (encodings pending ys) 0 0, drop 1 (encodings pending ys)))
unfolding encoding SymbolFits in_code encodings symbols
encoding-taken table (e ∷ pending) ss a rest h = let t = answered {A = ℕ × List ℕ} from_script (e, pending) ss a rest h in
    ([], refl, t.1, sym t.0)
encoding-taken table [] ss a rest h =
    let k : ℕ → Reading (ℕ × List ℕ) = λ s. pick (ltb s chunk_symbols) (answer (s % 8, s / 8 % 8 ∷ s / 64 % 8 ∷ [])) (refuse 13) in
    let g = went from_script (symbol table) k ss a rest h in
    let y = g.middle in
    let t = tested (ltb y chunk_symbols) (y % 8, y / 8 % 8 ∷ y / 64 % 8 ∷ []) 13 g.place a rest g.second in (
      y ∷ [],
      (refl, ltb-true _ _ t.0),
      symbol-taken table ss y g.place g.first ∙ ap (λ (l : List ℕ). y ∷ l) t.2,
      sym t.1,
    )

module _ (table : List ℕ) (ps : List Plane) where
  chunk-taken : (inside : List Bool) (r : Running) (ss : List ℕ) (a : Chunk × Running) (rest : List ℕ)
      → run from_script (chunk table ps inside r) ss ≡ got a rest
      → (d : Draws) × ChunkFits ps inside r d × (ss ≡ symbols (chunk_sent table ps d) ++ rest) × (a ≡ (chunk_by ps r d, after ps r d))
  unfolding chunk chunk_sent chunk_by after
  chunk-taken inside r ss a rest e =
      let g = went from_script (encoding table r.pending) (λ e. ends_then e) ss a rest e in
      let x = encoding-taken table r.pending ss g.middle g.place g.first in
      let es = encodings r.pending x.0 in
      let s : run from_script (ends_then (get_or es 0 0, drop 1 es)) g.place ≡ got a rest
      = subst (λ (y : ℕ × List ℕ). run from_script (ends_then y) g.place ≡ got a rest) x.3 g.second in
      let h = went from_script (plane_endpoints ps (get_or tile_counts (get_or es 0 0) 0) r.endpoint) (sels_then (get_or es 0 0, drop 1 es))
      g.place a rest s in
      let y = endpoints-taken ps (get_or tile_counts (get_or es 0 0) 0) r.endpoint g.place h.middle h.place h.first in
      let k = went-made from_script (position_selectors ps inside r.selector []) (made (get_or es 0 0, drop 1 es) h.middle) h.place a rest
      h.second in
      let z = selectors-taken ps inside r.selector [] h.place k.0 rest k.1 in (
        record { symbols = x.0; endpoints = y.0; selectors = z.0 },
        record { symbol = x.1; endpoints = y.1; selectors = z.1 },
        in_parts (in_code table x.0) (endpoints_sent ps y.0 ++ selectors_sent ps z.0) rest x.2
            (in_parts (endpoints_sent ps y.0) (selectors_sent ps z.0) rest y.2 z.2),
        k.2 ∙ ap (λ (t : List (List ℕ)). made (get_or es 0 0, drop 1 es) t k.0) y.3
            ∙ ap (λ (t : List (List ℕ)). made (get_or es 0 0, drop 1 es) (endpoints_of ps r.endpoint y.0) t) z.3,
      )
    where
      made : ℕ × List ℕ → List (List ℕ) → List (List ℕ) → Chunk × Running
      made e t q = (
        record { encoding = e.0; tiles = t; positions = q },
        record
            { pending = e.1; endpoint = lasts r.endpoint t; selector = last_row r.selector q },
      )

      sels_then : ℕ × List ℕ → List (List ℕ) → Reading (Chunk × Running)
      sels_then e t = next (position_selectors ps inside r.selector []) (λ q. answer (made e t q))

      ends_then : ℕ × List ℕ → Reading (Chunk × Running)
      ends_then e = next (plane_endpoints ps (get_or tile_counts e.0 0) r.endpoint) (sels_then e)

  chunks-taken : (insides : List (List Bool)) (r : Running) (cs : List Chunk) (ss : List ℕ) (a : List Chunk × Running) (rest : List ℕ)
      → run from_script (chunks table ps insides r cs) ss ≡ got a rest → (ds : List Draws) × Fits ps insides r ds ×
      (ss ≡ symbols (level_sent table ps ds) ++ rest)
  unfolding chunks Fits level_sent symbols
  chunks-taken [] r cs ss a rest e = ([], refl, (answered {A = List Chunk × Running} from_script (cs, r) ss a rest e).1)
  chunks-taken (inside ∷ more) r cs ss a rest e =
      let g = went from_script (chunk table ps inside r) (λ b. chunks table ps more b.1 (cs ++ (b.0 ∷ []))) ss a rest e in
      let x = chunk-taken inside r ss g.middle g.place g.first in
      let c = chunk_by ps r x.0 in
      let q = after ps r x.0 in
      let s : run from_script (chunks table ps more q (cs ++ (c ∷ []))) g.place ≡ got a rest
      = subst (λ (b : Chunk × Running). run from_script (chunks table ps more b.1 (cs ++ (b.0 ∷ []))) g.place ≡ got a rest) x.3 g.second in
      let y = chunks-taken more q (cs ++ (c ∷ [])) g.place a rest s in
      (x.0 ∷ y.0, (x.1, y.1), in_parts (chunk_sent table ps x.0) (level_sent table ps y.0) rest x.2 y.2)

  pub level-taken : (insides : List (List Bool)) (ss : List ℕ) (cs : List Chunk) → run from_script (level table ps insides) ss ≡ got cs []
      → (ds : List Draws) × Fits ps insides (fresh ps) ds × (ss ≡ symbols (level_sent table ps ds))
  unfolding level
  level-taken insides ss cs e =
      let g = went-made from_script (chunks table ps insides (fresh ps) []) (λ a. a.0) ss cs [] e in
      let x = chunks-taken insides (fresh ps) [] ss g.0 [] g.1 in
      (x.0, x.1, x.2 ∙ append-nil (symbols (level_sent table ps x.0)))
