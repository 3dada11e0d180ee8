-- What is carried to a chunk by number, and the chunk that it gives there: its encoding and its indices.
use Prim.Native.Nat.{ℕ, zero, suc, ◌-◌, ◌/◌, ◌%◌, ◌<◌}
use mathlib.Core.Path.{◌≡◌, refl, sym, ap, subst, ◌∙◌}
use mathlib.Core.Bool.{Bool, true, false, false≢true}
use mathlib.Core.List.{List, [], ◌∷◌}
use native.Mathlib.Omega.{arith}
use lib.ListN.{length, get_or, drop, length-replicate, get_or-replicate}
use Rattle.crn_format.specs.Level.{Plane, stepped, Running, Chunk, tile_counts, last_or, fresh}
use Rattle.crn_format.specs.Grid.{nth_list, chunk_at}
use Rattle.crn_unpacker.proofs.Shapes.{Sized, lasts-long}
use Rattle.crn_laws.specs.Scripts.{Draws, encodings, indices, endpoints_of, selectors_of, chunk_by, after, chunks_by, SymbolFits, AllBelow, ChunkFits, Fits}
use Rattle.crn_laws.specs.Blocks.{draws_at, encoding_at, endpoint_deltas, selector_deltas, sum_up_to, plane_at}
use Rattle.crn_laws.proofs.Summing.{carried, index-sum}
use Rattle.crn_laws.proofs.Planes.{EndpointsOf, SelectorsOf, endpoints-of, endpoints-long, lasts-of, selectors-of, row-long, rows_long, row-of, in_column}

unfoldable pub carried_to : List Plane → Running → List Draws → ℕ → Running
carried_to ps r ds zero = r
carried_to ps r [] (suc c) = r
carried_to ps r (d ∷ ds) (suc c) = carried_to ps (after ps r d) ds c

pub chunk-at : (ps : List Plane) (r : Running) (ds : List Draws) (c : ℕ) → c < length ds
    → chunk_at (chunks_by ps r ds) c ≡ chunk_by ps (carried_to ps r ds c) (draws_at ds c)
unfolding chunk_at chunks_by carried_to draws_at
chunk-at ps r [] c h = absurd (omega arith)
chunk-at ps r (d ∷ ds) zero h = refl
chunk-at ps r (d ∷ ds) (suc c) h = chunk-at ps (after ps r d) ds c (omega arith)

pub fits-long : (ps : List Plane) (insides : List (List Bool)) (r : Running) (ds : List Draws) → Fits ps insides r ds → length ds ≡ length
    insides
unfolding Fits
fits-long ps [] r ds h = h
fits-long ps (x ∷ xs) r [] h = absurd h
fits-long ps (x ∷ xs) r (d ∷ ds) h = ap suc (fits-long ps xs (after ps r d) ds h.1)

pub fits-at : (ps : List Plane) (insides : List (List Bool)) (r : Running) (ds : List Draws) (c : ℕ) → Fits ps insides r ds → c < length
    insides
    → ChunkFits ps (nth_list insides c) (carried_to ps r ds c) (draws_at ds c)
unfolding Fits nth_list carried_to draws_at
fits-at ps [] r ds c h l = absurd (omega arith)
fits-at ps (x ∷ xs) r [] c h l = absurd h
fits-at ps (x ∷ xs) r (d ∷ ds) zero h l = h.0
fits-at ps (x ∷ xs) r (d ∷ ds) (suc c) h l = fits-at ps xs (after ps r d) ds c h.1 (omega arith)

-- ---- a running index for each plane

sized-after : (ps : List Plane) (inside : List Bool) (r : Running) (d : Draws) → ChunkFits ps inside r d → Sized (length ps) r → Sized
    (length ps) (after ps r d)
unfolding after
sized-after ps inside r d h s =
    let n = get_or tile_counts (chunk_by ps r d).encoding 0 in
    let l = endpoints-long ps n r.endpoint d.endpoints h.endpoints s.endpoint in
    record {
      endpoint = lasts-long r.endpoint (endpoints_of ps r.endpoint d.endpoints) (l ∙ sym s.endpoint) ∙ s.endpoint;
      selector = row-long ps inside r.selector d.selectors h.selectors s.selector;
    }

sized_to : (ps : List Plane) (insides : List (List Bool)) (r : Running) (ds : List Draws) (c : ℕ) → Fits ps insides r ds → Sized (length ps)
    r → Sized (length ps) (carried_to ps r ds c)
unfolding Fits carried_to
sized_to ps insides r ds zero h s = s
sized_to ps insides r [] (suc c) h s = s
sized_to ps [] r (d ∷ ds) (suc c) h s = absurd (omega arith)
sized_to ps (x ∷ xs) r (d ∷ ds) (suc c) h s = sized_to ps xs (after ps r d) ds c h.1 (sized-after ps x r d h.0 s)

endpoint-after : (ps : List Plane) (inside : List Bool) (r : Running) (d : Draws) (k : ℕ) → ChunkFits ps inside r d → Sized (length ps) r →
    k < length ps
    → get_or (after ps r d).endpoint k 0
    ≡ last_or (get_or r.endpoint k 0) (indices (plane_at ps k).endpoints (get_or r.endpoint k 0) (endpoint_deltas k d))
unfolding after
endpoint-after ps inside r d k h s b =
    let n = get_or tile_counts (chunk_by ps r d).encoding 0 in
    let l = endpoints-long ps n r.endpoint d.endpoints h.endpoints s.endpoint in
    let e = endpoints-of ps n r.endpoint d.endpoints k h.endpoints s.endpoint b in
    lasts-of r.endpoint (endpoints_of ps r.endpoint d.endpoints) k (l ∙ sym s.endpoint) (omega (arith, s.endpoint))
    ∙ ap (last_or (get_or r.endpoint k 0)) e.are

selector-after : (ps : List Plane) (inside : List Bool) (r : Running) (d : Draws) (k : ℕ) → ChunkFits ps inside r d → Sized (length ps) r →
    k < length ps
    → get_or (after ps r d).selector k 0
    ≡ last_or (get_or r.selector k 0) (indices (plane_at ps k).selectors (get_or r.selector k 0) (selector_deltas k d))
unfolding after
selector-after ps inside r d k h s b =
    let e = selectors-of ps inside r.selector d.selectors k h.selectors s.selector b in
    row-of r.selector (selectors_of ps r.selector d.selectors) k ∙ ap (last_or (get_or r.selector k 0)) e.are

-- plane k's running indices are carried by its own deltas
endpoint_to : (ps : List Plane) (insides : List (List Bool)) (r : Running) (ds : List Draws) (k c : ℕ) → Fits ps insides r ds → Sized
    (length ps) r → k < length ps
    → get_or (carried_to ps r ds c).endpoint k 0 ≡ carried (plane_at ps k).endpoints (endpoint_deltas k) (get_or r.endpoint k 0) ds c
unfolding Fits carried_to carried
endpoint_to ps insides r ds k zero h s b = refl
endpoint_to ps insides r [] k (suc c) h s b = refl
endpoint_to ps [] r (d ∷ ds) k (suc c) h s b = absurd (omega arith)
endpoint_to ps (x ∷ xs) r (d ∷ ds) k (suc c) h s b =
    endpoint_to ps xs (after ps r d) ds k c h.1 (sized-after ps x r d h.0 s) b
    ∙ ap (λ (i : ℕ). carried (plane_at ps k).endpoints (endpoint_deltas k) i ds c) (endpoint-after ps x r d k h.0 s b)

selector_to : (ps : List Plane) (insides : List (List Bool)) (r : Running) (ds : List Draws) (k c : ℕ) → Fits ps insides r ds → Sized
    (length ps) r → k < length ps
    → get_or (carried_to ps r ds c).selector k 0 ≡ carried (plane_at ps k).selectors (selector_deltas k) (get_or r.selector k 0) ds c
unfolding Fits carried_to carried
selector_to ps insides r ds k zero h s b = refl
selector_to ps insides r [] k (suc c) h s b = refl
selector_to ps [] r (d ∷ ds) k (suc c) h s b = absurd (omega arith)
selector_to ps (x ∷ xs) r (d ∷ ds) k (suc c) h s b =
    selector_to ps xs (after ps r d) ds k c h.1 (sized-after ps x r d h.0 s) b
    ∙ ap (λ (i : ℕ). carried (plane_at ps k).selectors (selector_deltas k) i ds c) (selector-after ps x r d k h.0 s b)

-- ---- encodings, by threes

unfoldable SymbolsFit : List ℕ → List Draws → Type 0
SymbolsFit pending [] = Unit {0}
SymbolsFit pending (d ∷ ds) = SymbolFits pending d.symbols × SymbolsFit (drop 1 (encodings pending d.symbols)) ds

symbols_fit : (ps : List Plane) (insides : List (List Bool)) (r : Running) (ds : List Draws) → Fits ps insides r ds → SymbolsFit r.pending
    ds
unfolding Fits SymbolsFit after
symbols_fit ps insides r [] h = tt
symbols_fit ps [] r (d ∷ ds) h = absurd (omega arith)
symbols_fit ps (x ∷ xs) r (d ∷ ds) h = (h.0.symbol, symbols_fit ps xs (after ps r d) ds h.1)

unfoldable pending_to : List ℕ → List Draws → ℕ → List ℕ
pending_to pending ds zero = pending
pending_to pending [] (suc c) = pending
pending_to pending (d ∷ ds) (suc c) = pending_to (drop 1 (encodings pending d.symbols)) ds c

pending_to_lem : (ps : List Plane) (r : Running) (ds : List Draws) (c : ℕ) → (carried_to ps r ds c).pending ≡ pending_to r.pending ds c
unfolding carried_to pending_to after
pending_to_lem ps r ds zero = refl
pending_to_lem ps r [] (suc c) = refl
pending_to_lem ps r (d ∷ ds) (suc c) = pending_to_lem ps (after ps r d) ds c

three : (ys : List ℕ) → SymbolFits [] ys → encodings [] ys ≡ get_or ys 0 0 % 8 ∷ get_or ys 0 0 / 8 % 8 ∷ get_or ys 0 0 / 64 % 8 ∷ []
unfolding SymbolFits encodings
three [] h = absurd (omega arith)
three (y ∷ ys) h = refl

-- the chunk symbol of three chunks later
later : (d e f : Draws) (ds : List Draws) (c : ℕ) → encoding_at (d ∷ e ∷ f ∷ ds) (suc (suc (suc c))) ≡ encoding_at ds c
unfolding draws_at
later d e f ds c =
    let place : suc (suc (suc c)) - suc (suc (suc c)) % 3 ≡ suc (suc (suc (c - c % 3))) = omega arith in
    let rest : suc (suc (suc c)) % 3 ≡ c % 3 = omega arith in
    rw (place, rest)

encoding_by : (ds : List Draws) (c : ℕ) → SymbolsFit [] ds → c < length ds → get_or (encodings (pending_to [] ds c) (draws_at ds c).symbols)
    0 0 ≡ encoding_at ds c
unfolding SymbolsFit pending_to draws_at encodings
encoding_by [] c h l = absurd (omega arith)
encoding_by (d ∷ ds) zero h l = rw (three d.symbols h.0) (omega arith)
encoding_by (d ∷ ds) (suc zero) h l = rw (three d.symbols h.0) (omega arith)
encoding_by (d ∷ []) (suc (suc c)) h l = absurd (omega arith)
encoding_by (d ∷ e ∷ ds) (suc (suc zero)) h l = rw (three d.symbols h.0) (omega arith)
encoding_by (d ∷ e ∷ []) (suc (suc (suc c))) h l = absurd (omega arith)
encoding_by (d ∷ e ∷ f ∷ ds) (suc (suc (suc c))) h l =
    let fits : SymbolsFit [] ds = rw (three d.symbols h.0) at h.1.1.1 in
    rw (three d.symbols h.0) (encoding_by ds c fits (omega arith) ∙ sym (later d e f ds c))

-- ---- a chunk of a script

below_at : (n i : ℕ) (ys : List ℕ) (t : ℕ) → AllBelow n (indices n i ys) → t < length ys → get_or (indices n i ys) t 0 < n
unfolding AllBelow indices
below_at n i [] t h l = absurd (omega arith)
below_at n i (y ∷ ys) zero h l = h.0
below_at n i (y ∷ ys) (suc t) h l = below_at n (stepped n i y) ys t h.1 (omega arith)

pub true_within : (bs : List Bool) (q : ℕ) → get_or bs q false ≡ true → q < length bs
true_within [] q e = absurd (false≢true e)
true_within (b ∷ bs) zero e = omega arith
true_within (b ∷ bs) (suc q) e = omega (arith, true_within bs q e)

module _ (ps : List Plane) (insides : List (List Bool)) (ds : List Draws) (h : Fits ps insides (fresh ps) ds) (c : ℕ)
    (l : c < length insides) where
  abbrev r : Running
  r = carried_to ps (fresh ps) ds c

  abbrev d : Draws
  d = draws_at ds c

  abbrev chunk : Chunk
  chunk = chunk_at (chunks_by ps (fresh ps) ds) c

  counted : c < length ds
  counted = omega (arith, fits-long ps insides (fresh ps) ds h)

  by_carried : chunk ≡ chunk_by ps r d
  by_carried = chunk-at ps (fresh ps) ds c counted

  fits : ChunkFits ps (nth_list insides c) r d
  fits = fits-at ps insides (fresh ps) ds c h l

  start-sized : Sized (length ps) (fresh ps)
  start-sized = record { endpoint = length-replicate (length ps) 0; selector = length-replicate (length ps) 0 }

  sized : Sized (length ps) r
  sized = sized_to ps insides (fresh ps) ds c h start-sized

  encoding-here : (chunk_by ps r d).encoding ≡ encoding_at ds c
  unfolding chunk_by
  encoding-here =
      ap (λ (p : List ℕ). get_or (encodings p d.symbols) 0 0) (pending_to_lem ps (fresh ps) ds c)
      ∙ encoding_by ds c (symbols_fit ps insides (fresh ps) ds h) counted

  pub encoding-at : chunk.encoding ≡ encoding_at ds c
  encoding-at = ap (λ (x : Chunk). x.encoding) by_carried ∙ encoding-here

  -- it has indices for each plane
  pub tiles-long : length chunk.tiles ≡ length ps
  unfolding chunk_by
  tiles-long =
      ap (λ (x : Chunk). length x.tiles) by_carried
      ∙ endpoints-long ps (get_or tile_counts (chunk_by ps r d).encoding 0) r.endpoint d.endpoints fits.endpoints sized.endpoint

  pub positions-long : (q : ℕ) → q < length (nth_list insides c) → length (nth_list chunk.positions q) ≡ length ps
  unfolding chunk_by
  positions-long q b =
      ap (λ (x : Chunk). length (nth_list x.positions q)) by_carried
      ∙ rows_long ps (nth_list insides c) r.selector d.selectors q fits.selectors sized.selector b

  -- its endpoint indices
  pub endpoint-at : (k t : ℕ) → k < length ps → t < get_or tile_counts (encoding_at ds c) 0
      → get_or (nth_list chunk.tiles k) t 0 ≡ sum_up_to (endpoint_deltas k) ds c t % (plane_at ps k).endpoints
  unfolding chunk_by
  endpoint-at k t b few =
      ap (λ (x : Chunk). get_or (nth_list x.tiles k) t 0) by_carried
      ∙ ap (λ (xs : List ℕ). get_or xs t 0) (e.are ∙ ap (λ (i : ℕ). indices n i (endpoint_deltas k d)) from)
      ∙ index-sum n (endpoint_deltas k) ds c t counted many
      (below_at n (carried n (endpoint_deltas k) 0 ds c) (endpoint_deltas k d) t
      (subst (λ (i : ℕ). AllBelow n (indices n i (endpoint_deltas k d))) from e.below) many)
    where
      n : ℕ
      n = (plane_at ps k).endpoints

      e : EndpointsOf ps (get_or tile_counts (chunk_by ps r d).encoding 0) r.endpoint d.endpoints k
      e = endpoints-of ps (get_or tile_counts (chunk_by ps r d).encoding 0) r.endpoint d.endpoints k fits.endpoints sized.endpoint b

      many : t < length (endpoint_deltas k d)
      many = rw (e.many, encoding-here) few

      from : get_or r.endpoint k 0 ≡ carried n (endpoint_deltas k) 0 ds c
      from =
          endpoint_to ps insides (fresh ps) ds k c h start-sized b
          ∙ ap (λ (i : ℕ). carried n (endpoint_deltas k) i ds c) (get_or-replicate (length ps) k 0 0 b)

  -- its selector indices, where the position lies inside the grid
  pub selector-at : (k q : ℕ) → k < length ps → get_or (nth_list insides c) q false ≡ true
      → get_or (nth_list chunk.positions q) k 0 ≡ sum_up_to (selector_deltas k) ds c q % (plane_at ps k).selectors
  unfolding chunk_by
  selector-at k q b inside =
      ap (λ (x : Chunk). get_or (nth_list x.positions q) k 0) by_carried ∙ in_column (selectors_of ps r.selector d.selectors) q k
      ∙ ap (λ (xs : List ℕ). get_or xs q 0) (e.are ∙ ap (λ (i : ℕ). indices n i (selector_deltas k d)) from)
      ∙ index-sum n (selector_deltas k) ds c q counted many
      (subst (λ (i : ℕ). get_or (indices n i (selector_deltas k d)) q 0 < n) from (e.below q inside))
    where
      n : ℕ
      n = (plane_at ps k).selectors

      e : SelectorsOf ps (nth_list insides c) r.selector d.selectors k
      e = selectors-of ps (nth_list insides c) r.selector d.selectors k fits.selectors sized.selector b

      many : q < length (selector_deltas k d)
      many = rw e.many (true_within (nth_list insides c) q inside)

      from : get_or r.selector k 0 ≡ carried n (selector_deltas k) 0 ds c
      from =
          selector_to ps insides (fresh ps) ds k c h start-sized b
          ∙ ap (λ (i : ℕ). carried n (selector_deltas k) i ds c) (get_or-replicate (length ps) k 0 0 b)
