-- What fits a level is followed by the level's reading, which then answers the chunks that it gives.
use Prim.Native.Nat.{ℕ, ◌<◌}
use mathlib.Core.Path.{◌≡◌, refl, sym, ap, subst}
use mathlib.Core.Bool.{Bool, true, false}
use mathlib.Core.List.{List, [], ◌∷◌, ◌++◌, append_assoc, append-nil}
use native.Mathlib.Omega.{arith}
use lib.ListN.{length, get_or, drop}
use lib.Dec.{ltb}
use borrow.Author.Tests.{lt-ltb}
use Rattle.crn_format.specs.Choice.{pick, either}
use Rattle.crn_format.specs.Reading.{Reading, answer, refuse, next}
use Rattle.crn_format.specs.Level.{Plane, stepped, endpoint_index, selector_index, endpoint_indices, plane_endpoints, plane_selectors, position_selectors, tile_counts, encoding, Running, Chunk, lasts, last_row, chunk, chunks, fresh, level}
use Rattle.crn_laws.specs.Scripts.{Sent, sent, Draws, in_code, endpoints_sent, position_sent, selectors_sent, chunk_sent, level_sent, encodings, indices, endpoints_of, selectors_at, selectors_of, chunk_by, after, chunks_by, SymbolFits, AllBelow, EndpointsFit, PositionFits, SelectorsFit, ChunkFits, Fits}
use Rattle.crn_laws.proofs.Following.{Follows, follow_next}

-- an answer made of another reading's
follow_made : {A B : Type 0} (m : Reading A) (k : A → B) (ss : List Sent) (a : A) → Follows m ss a → Follows (next m (λ x. answer (k x))) ss
    (k a)
unfolding Follows
follow_made m k ss a h =
    subst (λ (x : List Sent). Follows (next m (λ y. answer (k y))) x (k a)) (append-nil ss)
    (follow_next m (λ y. answer (k y)) ss [] a (k a) h refl)

-- ---- endpoints

endpoint_follows : (p : Plane) (i y : ℕ) → stepped p.endpoints i y < p.endpoints
    → Follows (endpoint_index p i) (sent p.endpoint_deltas y ∷ []) (stepped p.endpoints i y)
unfolding endpoint_index next Follows
endpoint_follows p i y h = (refl, rw (lt-ltb _ _ h))

indices_follow : (p : Plane) (i : ℕ) (is ys : List ℕ) → AllBelow p.endpoints (indices p.endpoints i ys)
    → Follows (endpoint_indices p (length ys) i is) (in_code p.endpoint_deltas ys) (is ++ indices p.endpoints i ys)
unfolding endpoint_indices in_code indices AllBelow
indices_follow p i is [] h = unfold Follows in sym (append-nil is)
indices_follow p i is (y ∷ ys) h =
    let j = stepped p.endpoints i y in
    follow_next (endpoint_index p i) (λ k. endpoint_indices p (length ys) k (is ++ (k ∷ []))) (sent p.endpoint_deltas y ∷ [])
    (in_code p.endpoint_deltas ys) j
    (is ++ (j ∷ indices p.endpoints j ys)) (endpoint_follows p i y h.0)
    (subst (λ (x : List ℕ). Follows (endpoint_indices p (length ys) j (is ++ (j ∷ []))) (in_code p.endpoint_deltas ys) x)
    (append_assoc is (j ∷ []) (indices p.endpoints j ys))
    (indices_follow p j (is ++ (j ∷ [])) ys h.1))

endpoints_follow : (ps : List Plane) (n : ℕ) (is : List ℕ) (yss : List (List ℕ)) → EndpointsFit ps n is yss
    → Follows (plane_endpoints ps n is) (endpoints_sent ps yss) (endpoints_of ps is yss)
unfolding plane_endpoints endpoints_sent endpoints_of EndpointsFit
endpoints_follow [] n is yss h = unfold Follows in refl
endpoints_follow (p ∷ ps) n [] [] h = unfold Follows in refl
endpoints_follow (p ∷ ps) n [] (ys ∷ yss) h = absurd (omega arith)
endpoints_follow (p ∷ ps) n (i ∷ is) [] h = absurd h
endpoints_follow (p ∷ ps) n (i ∷ is) (ys ∷ yss) h =
    follow_next (endpoint_indices p n i []) (λ a. next (plane_endpoints ps n is) λ more. answer (a ∷ more)) (in_code p.endpoint_deltas ys)
    (endpoints_sent ps yss) (indices p.endpoints i ys) (indices p.endpoints i ys ∷ endpoints_of ps is yss)
    (subst (λ (k : ℕ). Follows (endpoint_indices p k i []) (in_code p.endpoint_deltas ys) (indices p.endpoints i ys)) h.0
    (indices_follow p i [] ys h.1.0))
    (follow_made (plane_endpoints ps n is) (λ more. indices p.endpoints i ys ∷ more) (endpoints_sent ps yss) (endpoints_of ps is yss)
    (endpoints_follow ps n is yss h.1.1))

-- ---- selectors

selector_follows : (p : Plane) (inside : Bool) (i y : ℕ) → (inside ≡ true → stepped p.selectors i y < p.selectors)
    → Follows (selector_index p inside i) (sent p.selector_deltas y ∷ []) (stepped p.selectors i y)
unfolding selector_index next Follows
selector_follows p true i y h = (refl, rw (lt-ltb _ _ (h refl)))
selector_follows p false i y h = (refl, by (ltb (stepped p.selectors i y) p.selectors))
  where
    by : (b : Bool) → Follows (pick (either b true) (answer (stepped p.selectors i y)) (refuse 14)) [] (stepped p.selectors i y)
    by true = refl
    by false = refl

position_follows : (ps : List Plane) (inside : Bool) (is ys : List ℕ) → PositionFits ps inside is ys
    → Follows (plane_selectors ps inside is) (position_sent ps ys) (selectors_at ps is ys)
unfolding plane_selectors position_sent selectors_at PositionFits
position_follows [] inside is ys h = unfold Follows in refl
position_follows (p ∷ ps) inside [] [] h = unfold Follows in refl
position_follows (p ∷ ps) inside [] (y ∷ ys) h = absurd (omega arith)
position_follows (p ∷ ps) inside (i ∷ is) [] h = absurd h
position_follows (p ∷ ps) inside (i ∷ is) (y ∷ ys) h =
    follow_next (selector_index p inside i) (λ j. next (plane_selectors ps inside is) λ more. answer (j ∷ more))
    (sent p.selector_deltas y ∷ [])
    (position_sent ps ys) (stepped p.selectors i y) (stepped p.selectors i y ∷ selectors_at ps is ys) (selector_follows p inside i y h.0)
    (follow_made (plane_selectors ps inside is) (λ more. stepped p.selectors i y ∷ more) (position_sent ps ys) (selectors_at ps is ys)
    (position_follows ps inside is ys h.1))

selectors_follow : (ps : List Plane) (insides : List Bool) (is : List ℕ) (rows yss : List (List ℕ)) → SelectorsFit ps insides is yss
    → Follows (position_selectors ps insides is rows) (selectors_sent ps yss) (rows ++ selectors_of ps is yss)
unfolding position_selectors selectors_sent selectors_of SelectorsFit
selectors_follow ps [] is rows [] h = unfold Follows in sym (append-nil rows)
selectors_follow ps [] is rows (ys ∷ yss) h = absurd (omega arith)
selectors_follow ps (inside ∷ more) is rows [] h = absurd h
selectors_follow ps (inside ∷ more) is rows (ys ∷ yss) h =
    let js = selectors_at ps is ys in
    follow_next (plane_selectors ps inside is) (λ js. position_selectors ps more js (rows ++ (js ∷ []))) (position_sent ps ys)
    (selectors_sent ps yss) js
    (rows ++ (js ∷ selectors_of ps js yss)) (position_follows ps inside is ys h.0)
    (subst (λ (x : List (List ℕ)). Follows (position_selectors ps more js (rows ++ (js ∷ []))) (selectors_sent ps yss) x)
    (append_assoc rows (js ∷ []) (selectors_of ps js yss))
    (selectors_follow ps more js (rows ++ (js ∷ [])) yss h.1))

-- ---- chunks

encoding_follows : (table pending ys : List ℕ) → SymbolFits pending ys
    → Follows (encoding table pending) (in_code table ys) (get_or (encodings pending ys) 0 0, drop 1 (encodings pending ys))
unfolding encoding in_code encodings SymbolFits next Follows
encoding_follows table (e ∷ pending) [] h = refl
encoding_follows table (e ∷ pending) (y ∷ ys) h = absurd (omega arith)
encoding_follows table [] [] h = absurd (omega arith)
encoding_follows table [] (y ∷ []) h = (refl, rw (lt-ltb _ _ h.1))
encoding_follows table [] (y ∷ z ∷ ys) h = absurd (omega arith)

chunk_follows : (table : List ℕ) (ps : List Plane) (inside : List Bool) (r : Running) (d : Draws) → ChunkFits ps inside r d
    → Follows (chunk table ps inside r) (chunk_sent table ps d) (chunk_by ps r d, after ps r d)
unfolding chunk chunk_sent chunk_by after
chunk_follows table ps inside r d h =
    follow_next (encoding table r.pending) (λ e. ends_then e.0 e.1) (in_code table d.symbols)
    (endpoints_sent ps d.endpoints ++ selectors_sent ps d.selectors)
    (get_or es 0 0, drop 1 es) (chunk_by ps r d, after ps r d) (encoding_follows table r.pending d.symbols h.symbol)
    (follow_next (plane_endpoints ps (get_or tile_counts (get_or es 0 0) 0) r.endpoint) (sels_then (get_or es 0 0) (drop 1 es))
    (endpoints_sent ps d.endpoints)
    (selectors_sent ps d.selectors)
    (endpoints_of ps r.endpoint d.endpoints) (chunk_by ps r d, after ps r d)
    (endpoints_follow ps (get_or tile_counts (get_or es 0 0) 0) r.endpoint d.endpoints h.endpoints)
    (follow_made (position_selectors ps inside r.selector []) (made (get_or es 0 0) (drop 1 es) (endpoints_of ps r.endpoint d.endpoints))
    (selectors_sent ps d.selectors)
    (selectors_of ps r.selector d.selectors) (selectors_follow ps inside r.selector [] d.selectors h.selectors)))
  where
    es : List ℕ
    es = encodings r.pending d.symbols

    made : ℕ → List ℕ → List (List ℕ) → List (List ℕ) → Chunk × Running
    made e pending t q = (
      record { encoding = e; tiles = t; positions = q },
      record
          { pending = pending; endpoint = lasts r.endpoint t; selector = last_row r.selector q },
    )

    sels_then : ℕ → List ℕ → List (List ℕ) → Reading (Chunk × Running)
    sels_then e pending t = next (position_selectors ps inside r.selector []) (λ q. answer (made e pending t q))

    ends_then : ℕ → List ℕ → Reading (Chunk × Running)
    ends_then e pending = next (plane_endpoints ps (get_or tile_counts e 0) r.endpoint) (sels_then e pending)

-- what is carried on from them all
ending : List Plane → Running → List Draws → Running
ending ps r [] = r
ending ps r (d ∷ ds) = ending ps (after ps r d) ds

chunks_follow : (table : List ℕ) (ps : List Plane) (insides : List (List Bool)) (r : Running) (cs : List Chunk) (ds : List Draws)
    → Fits ps insides r ds → Follows (chunks table ps insides r cs) (level_sent table ps ds) (cs ++ chunks_by ps r ds, ending ps r ds)
unfolding chunks level_sent chunks_by ending Fits
chunks_follow table ps [] r cs [] h = unfold Follows in ap (λ (x : List Chunk). (x, r)) (sym (append-nil cs))
chunks_follow table ps [] r cs (d ∷ ds) h = absurd (omega arith)
chunks_follow table ps (inside ∷ more) r cs [] h = absurd h
chunks_follow table ps (inside ∷ more) r cs (d ∷ ds) h =
    let c = chunk_by ps r d in
    let q = after ps r d in
    follow_next (chunk table ps inside r) (λ a. chunks table ps more a.1 (cs ++ (a.0 ∷ []))) (chunk_sent table ps d)
    (level_sent table ps ds)
    (c, q) (cs ++ (c ∷ chunks_by ps q ds), ending ps q ds) (chunk_follows table ps inside r d h.0)
    (subst (λ (x : List Chunk). Follows (chunks table ps more q (cs ++ (c ∷ []))) (level_sent table ps ds) (x, ending ps q ds))
    (append_assoc cs (c ∷ []) (chunks_by ps q ds))
    (chunks_follow table ps more q (cs ++ (c ∷ [])) ds h.1))

pub level_follows : (table : List ℕ) (ps : List Plane) (insides : List (List Bool)) (ds : List Draws) → Fits ps insides (fresh ps) ds
    → Follows (level table ps insides) (level_sent table ps ds) (chunks_by ps (fresh ps) ds)
unfolding level
level_follows table ps insides ds h =
    follow_made (chunks table ps insides (fresh ps) []) (λ a. a.0) (level_sent table ps ds)
    (chunks_by ps (fresh ps) ds, ending ps (fresh ps) ds)
    (chunks_follow table ps insides (fresh ps) [] ds h)
