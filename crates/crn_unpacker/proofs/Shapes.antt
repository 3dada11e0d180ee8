-- A chunk that is read has a list of tiles and four indices for each plane.
use Prim.Native.Nat.{ℕ, zero, suc, ◌+◌, ◌<◌}
use mathlib.Core.Path.{◌≡◌, refl, sym, ap, ◌∙◌, subst}
use mathlib.Core.Bool.{Bool}
use mathlib.Core.List.{List, [], ◌∷◌, ◌++◌}
use native.Mathlib.Omega.{arith}
use lib.ListN.{length, get_or}
use Rattle.crn_format.specs.Reading.{Reading, answer, next, Step, got, refused, then, Source, run}
use Rattle.crn_format.specs.Level.{Plane, Running, Chunk, endpoint_indices, plane_endpoints, selector_index, plane_selectors, position_selectors, encoding, tile_counts, lasts, last_row, chunk}
use Rattle.crn_format.proofs.Answers.{All, run-all, all-next, Any, all_any, all-answer}
use Rattle.crn_chunk_blocks.proofs.Shapes.{Rowed, none, more, Shaped}
use Rattle.crn_unpacker.specs.States.{state_to, chunk_to}
use Rattle.crn_unpacker.proofs.States.{stays, chunk-got}

-- ---- lists for each plane

one_more : {m n : ℕ} {rs : List (List ℕ)} (r : List ℕ) → Rowed m n rs → length r ≡ m → Rowed m (suc n) (rs ++ (r ∷ []))
one_more r none h = more h none
one_more r (more g rs) h = more g (one_more r rs h)

last-long : {m n : ℕ} (is : List ℕ) {rs : List (List ℕ)} → length is ≡ m → Rowed m n rs → length (last_row is rs) ≡ m
unfolding last_row
last-long is h none = h
last-long is h (more {r = r} g rs) = last-long r g rs

pub lasts-long : (is : List ℕ) (ts : List (List ℕ)) → length ts ≡ length is → length (lasts is ts) ≡ length is
unfolding lasts
lasts-long [] ts h = refl
lasts-long (i ∷ is) [] h = absurd (omega arith)
lasts-long (i ∷ is) (t ∷ ts) h = ap suc (lasts-long is ts (omega arith))

-- ---- the readings of a chunk

-- an answer put before a list of answers
one_longer : {A : Type 0} (m : Reading A) (rest : Reading (List A)) (n : ℕ) → All (λ xs. length xs ≡ n) rest
    → All (λ xs. length xs ≡ suc n) (next m λ a. next rest λ more. answer (a ∷ more))
one_longer m rest n h =
    all-next Any (λ xs. length xs ≡ suc n) m (λ a. next rest λ more. answer (a ∷ more)) (all_any m)
    (λ a _. all-next (λ xs. length xs ≡ n) (λ xs. length xs ≡ suc n) rest (λ more. answer (a ∷ more)) h
    (λ more long. all-answer (λ xs. length xs ≡ suc n) (ap suc long)))

tiles-long : (ps : List Plane) (n : ℕ) (is : List ℕ) → length is ≡ length ps → All (λ ts. length ts ≡ length ps) (plane_endpoints ps n is)
unfolding plane_endpoints
tiles-long [] n is h = all-answer (λ ts. length ts ≡ 0) refl
tiles-long (p ∷ ps) n [] h = absurd (omega arith)
tiles-long (p ∷ ps) n (i ∷ is) h =
    one_longer (endpoint_indices p n i []) (plane_endpoints ps n is) (length ps) (tiles-long ps n is (omega arith))

selectors-long : (ps : List Plane) (inside : Bool) (is : List ℕ) → length is ≡ length ps → All (λ js. length js ≡ length ps)
    (plane_selectors ps inside is)
unfolding plane_selectors
selectors-long [] inside is h = all-answer (λ js. length js ≡ 0) refl
selectors-long (p ∷ ps) inside [] h = absurd (omega arith)
selectors-long (p ∷ ps) inside (i ∷ is) h =
    one_longer (selector_index p inside i) (plane_selectors ps inside is) (length ps) (selectors-long ps inside is (omega arith))

positions-long : (ps : List Plane) (insides : List Bool) (is : List ℕ) (rows : List (List ℕ)) (n : ℕ) → length is ≡ length ps → Rowed
    (length ps) n rows
    → All (Rowed (length ps) (n + length insides)) (position_selectors ps insides is rows)
unfolding position_selectors
positions-long ps [] is rows n h r =
    let e : n ≡ n + 0 = omega arith in all-answer (Rowed (length ps) (n + 0)) (subst (λ (k : ℕ). Rowed (length ps) k rows) e r)
positions-long ps (inside ∷ insides) is rows n h r =
    let e : suc n + length insides ≡ n + suc (length insides) = omega arith in
    subst (λ (k : ℕ). All (Rowed (length ps) k) (next (plane_selectors ps inside is) λ js. position_selectors ps insides js
    (rows ++ (js ∷ [])))) e
    (all-next (λ js. length js ≡ length ps) (Rowed (length ps) (suc n + length insides)) (plane_selectors ps inside is)
    (λ js. position_selectors ps insides js (rows ++ (js ∷ [])))
    (selectors-long ps inside is h)
    (λ js long. positions-long ps insides js (rows ++ (js ∷ [])) (suc n) long (one_more js r long)))

-- ---- a chunk

-- an index for each of m planes is carried on
pub record Sized (m : ℕ) (r : Running) : Type 0 where
  pub endpoint : length r.endpoint ≡ m
  pub selector : length r.selector ≡ m

abbrev Good : ℕ → Chunk × Running → Type 0
Good m a = Shaped m a.0 × Sized m a.1

module _ (ls : List ℕ) (ps : List Plane) where
  chunk_good : (inside : List Bool) (r : Running) → length inside ≡ 4 → Sized (length ps) r → All (Good (length ps)) (chunk ls ps inside r)
  unfolding chunk
  chunk_good inside r four sized =
      all-next Any (Good (length ps)) (encoding ls r.pending) _ (all_any (encoding ls r.pending))
      (λ e _. all-next (λ ts. length ts ≡ length ps) (Good (length ps)) (plane_endpoints ps (get_or tile_counts e.0 0) r.endpoint) _
      (tiles-long ps (get_or tile_counts e.0 0) r.endpoint sized.endpoint)
      (λ t tiles. all-next (Rowed (length ps) (0 + length inside)) (Good (length ps)) (position_selectors ps inside r.selector []) _
      (positions-long ps inside r.selector [] 0 sized.selector none)
      (λ q rows. all-answer (Good (length ps)) (
        record { tiles = tiles; positions = subst (λ (k : ℕ). Rowed (length ps) k q) (omega arith) rows },
        record {
          endpoint = lasts-long r.endpoint t (tiles ∙ sym sized.endpoint) ∙ sized.endpoint;
          selector = last-long r.selector sized.selector rows;
        },
      ))))

  module _ {S : Type 0} (src : Source S) (flags : ℕ → List Bool) (four : (n : ℕ) → length (flags n) ≡ 4) (r : Running) (w : S)
      (sized : Sized (length ps) r) where
    -- where the next state is reached, so is the chunk before it
    record Reached (n : ℕ) (q₁ : Running) (v₁ : S) : Type 0 where
      at : Running
      place : S
      state : state_to src ls ps flags r w n ≡ got at place
      read : Chunk
      runs : run src (chunk ls ps (flags n) at) place ≡ got (read, q₁) v₁

    reached : (n : ℕ) (q₁ : Running) (v₁ : S) → state_to src ls ps flags r w (suc n) ≡ got q₁ v₁ → Reached n q₁ v₁
    unfolding state_to
    reached n q₁ v₁ e = outer (state_to src ls ps flags r w n) refl e
      where
        inner : (q : Running) (v : S) → state_to src ls ps flags r w n ≡ got q v → (z : Step S (Chunk × Running)) → run src
            (chunk ls ps (flags n) q) v ≡ z
            → then {B = Running} z (λ b u. got b.1 u) ≡ got q₁ v₁ → Reached n q₁ v₁
        inner q v is (got b u) runs e =
            let z : ◌≡◌ {A = Step S Running} (got b.1 u) (got q₁ v₁) = (unfold then in e) in
            let eq : b.1 ≡ q₁ = cc in
            let ev : u ≡ v₁ = cc in
            record {
              at = q;
              place = v;
              state = is;
              read = b.0;
              runs = runs ∙ ap (λ (x : Running). got (b.0, x) u) eq ∙ ap
                  (λ (x : S). got (b.0, q₁) x) ev;
            }
        inner q v is (refused x u) runs e =
            let z : ◌≡◌ {A = Step S Running} (refused x u) (got q₁ v₁) = (unfold then in e) in absurd (cc)

        outer : (y : Step S Running) → state_to src ls ps flags r w n ≡ y
            → then y (λ q v. then {B = Running} (run src (chunk ls ps (flags n) q) v) (λ b u. got b.1 u)) ≡ got q₁ v₁ → Reached n q₁ v₁
        outer (got q v) is e = inner q v is (run src (chunk ls ps (flags n) q) v) refl (unfold then in e)
        outer (refused x u) is e =
            let z : ◌≡◌ {A = Step S Running} (refused x u) (got q₁ v₁) = (unfold then in e) in absurd (cc)

    state-sized : (n : ℕ) (q : Running) (v : S) → state_to src ls ps flags r w n ≡ got q v → Sized (length ps) q
    unfolding state_to
    state-sized zero q v e = let z : r ≡ q = cc in subst (Sized (length ps)) z sized
    state-sized (suc n) q v e =
        let x = reached n q v e in
        (run-all src (Good (length ps)) (chunk ls ps (flags n) x.at)
        (chunk_good (flags n) x.at (four n) (state-sized n x.at x.place x.state)) x.place x.runs).1

    -- a chunk that comes before a state that is reached
    pub chunk_shaped : (n k : ℕ) {q : Running} {v : S} → k < n → state_to src ls ps flags r w n ≡ got q v → Shaped (length ps)
        (chunk_to src ls ps flags r w k)
    chunk_shaped n k {q} {v} h e = go (state_to src ls ps flags r w (suc k)) refl
      where
        go : (y : Step S Running) → state_to src ls ps flags r w (suc k) ≡ y → Shaped (length ps) (chunk_to src ls ps flags r w k)
        go (got q₁ v₁) is =
            let x = reached k q₁ v₁ is in
            let same : chunk_to src ls ps flags r w k ≡ x.read = chunk-got src ls ps flags r w k (flags k) x.state refl x.runs in
            subst (Shaped (length ps)) (sym same)
            (run-all src (Good (length ps)) (chunk ls ps (flags k) x.at)
            (chunk_good (flags k) x.at (four k) (state-sized k x.at x.place x.state)) x.place x.runs).0
        go (refused x u) is =
            let z : ◌≡◌ {A = Step S Running} (refused x u) (got q v) = sym (stays src ls ps flags r w (suc k) n h is) ∙ e in
            absurd (cc)
