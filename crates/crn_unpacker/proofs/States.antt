-- The state after so many chunks, and the definition's run over them.
use Prim.Native.Nat.{ℕ, zero, suc, ◌+◌, ◌≤◌, ◌<◌}
use mathlib.Core.Path.{◌≡◌, refl, sym, ap, ◌∙◌}
use mathlib.Core.Bool.{Bool}
use mathlib.Core.List.{List, [], ◌∷◌, ◌++◌}
use native.Mathlib.Omega.{arith}
use native.Mathlib.Numerals.{add-one}
use native.Mathlib.Decide.{le_ind, ℕ_discrete}
use native.Mathlib.Nat.{zero-add}
use lib.ListN.{length, length-append}
use Rattle.crn_format.specs.Reading.{Step, got, refused, then, Source, run}
use Rattle.crn_format.specs.Level.{Plane, Running, Chunk, chunk, chunks}
use Rattle.crn_format.specs.Grid.{inside, insides, chunk_at}
use Rattle.crn_format.specs.declared.Grid.{Grid}
use Rattle.crn_format.proofs.Steps.{then_assoc, then_cong, run-next, answered}
use Rattle.crn_unpacker.specs.States.{state_to, chunk_in, chunk_after, chunk_to, chunks_to}

module _ {S : Type 0} (src : Source S) (ls : List ℕ) (ps : List Plane) (flags : ℕ → List Bool) (r : Running) (w : S) where
  pub state-none : state_to src ls ps flags r w 0 ≡ got r w
  unfolding state_to
  state-none = refl

  -- one chunk more
  pub state-got : (n : ℕ) (fl : List Bool) {q q₁ : Running} {c : Chunk} {v u : S} → state_to src ls ps flags r w n ≡ got q v → fl ≡ flags n
      → run src (chunk ls ps fl q) v ≡ got (c, q₁) u → state_to src ls ps flags r w (n + 1) ≡ got q₁ u
  unfolding state_to then
  state-got n fl e f h = rw (add-one n) (rw e (rw (rw f at h)))

  pub state_lost : (n : ℕ) (fl : List Bool) {q : Running} {x : ℕ} {v u : S} → state_to src ls ps flags r w n ≡ got q v → fl ≡ flags n
      → run src (chunk ls ps fl q) v ≡ refused x u → state_to src ls ps flags r w (n + 1) ≡ refused x u
  unfolding state_to then
  state_lost n fl e f h = rw (add-one n) (rw e (rw (rw f at h)))

  -- which chunk it was
  pub chunk-got : (n : ℕ) (fl : List Bool) {q q₁ : Running} {c : Chunk} {v u : S} → state_to src ls ps flags r w n ≡ got q v → fl ≡ flags n
      → run src (chunk ls ps fl q) v ≡ got (c, q₁) u → chunk_to src ls ps flags r w n ≡ c
  unfolding chunk_after chunk_in
  chunk-got n fl e f h = rw e (rw (rw f at h))

  -- what was refused stays refused
  pub stays : (n m : ℕ) {x : ℕ} {u : S} → n ≤ m → state_to src ls ps flags r w n ≡ refused x u → state_to src ls ps flags r w m ≡ refused x
      u
  unfolding state_to then
  stays n m {x} {u} h e = le_ind (λ (k : ℕ). state_to src ls ps flags r w k ≡ refused x u) e (λ k q i. rw i) m h

-- ---- the definition's run over the chunks is the same
module _ {S : Type 0} (src : Source S) (ls : List ℕ) (ps : List Plane) where
  abbrev onward : List Bool → List Chunk × Running → S → Step S (List Chunk × Running)
  onward x a v = then (run src (chunk ls ps x a.1) v) (λ b u. got (a.0 ++ (b.0 ∷ []), b.1) u)

  chunks-more : (xs : List (List Bool)) (x : List Bool) (r : Running) (cs : List Chunk) (w : S)
      → run src (chunks ls ps (xs ++ (x ∷ [])) r cs) w ≡ then (run src (chunks ls ps xs r cs) w) (onward x)
  unfolding chunks
  chunks-more [] x r cs w =
      run-next src (chunk ls ps x r) _ w ∙ then_cong (run src (chunk ls ps x r) w) _ _ (λ b u. answered src _ u)
      ∙ sym (ap (λ (y : Step S (List Chunk × Running)). then y (onward x)) (answered src (cs, r) w) ∙ (unfold then in refl))
  chunks-more (y ∷ ys) x r cs w =
      run-next src (chunk ls ps y r) _ w
      ∙ then_cong (run src (chunk ls ps y r) w) _ _ (λ a v. chunks-more ys x a.1 (cs ++ (a.0 ∷ [])) v)
      ∙ sym (then_assoc (run src (chunk ls ps y r) w) (λ a v. run src (chunks ls ps ys a.1 (cs ++ (a.0 ∷ []))) v) (onward x))
      ∙ sym (ap (λ (z : Step S (List Chunk × Running)). then z (onward x))
      (run-next src (chunk ls ps y r) (λ a. chunks ls ps ys a.1 (cs ++ (a.0 ∷ []))) w))

  -- the chunk that is read, put after those before it
  inner : (cs : List Chunk) (z : Step S (Chunk × Running))
      → then {B = List Chunk × Running} z (λ b u. got (cs ++ (b.0 ∷ []), b.1) u) ≡ then {A = Running} (then z (λ b u. got b.1 u))
      (λ q v. got (cs ++ (chunk_in z ∷ []), q) v)
  unfolding then chunk_in
  inner cs (got b u) = refl
  inner cs (refused n u) = refl

  put-after : (cs : List Chunk) (y : Step S Running) (x : List Bool)
      → then (then {B = List Chunk × Running} y (λ q v. got (cs, q) v)) (onward x)
      ≡ then {A = Running} {B = List Chunk × Running} (then y (λ q v. then (run src (chunk ls ps x q) v) (λ b u. got b.1 u)))
      (λ q v. got (cs ++ (chunk_after src ls ps x y ∷ []), q) v)
  unfolding then chunk_after
  put-after cs (got q v) x = inner cs (run src (chunk ls ps x q) v)
  put-after cs (refused n v) x = refl

insides-more : (g : Grid) (c n : ℕ) → insides g c (suc n) ≡ insides g c n ++ (inside g (c + n) ∷ [])
unfolding insides
insides-more g c zero = let e : c + 0 ≡ c = omega arith in rw e
insides-more g c (suc n) = let e : c + suc n ≡ c + 1 + n = omega arith in rw e
    (ap (λ (l : List (List Bool)). inside g c ∷ l) (insides-more g (c + 1) n))

none-run : {S : Type 0} (src : Source S) (ls : List ℕ) (ps : List Plane) (g : Grid) (r : Running) (w : S)
    → run src (chunks ls ps (insides g 0 0) r []) w ≡ then {B = List Chunk × Running} (got r w) (λ q v. got ([], q) v)
unfolding chunks insides then
none-run src ls ps g r w = answered src ([], r) w

-- the definition's run over the first n chunks, by the state and the chunks so far
pub chunks-run : {S : Type 0} (src : Source S) (ls : List ℕ) (ps : List Plane) (g : Grid) (r : Running) (w : S) (n : ℕ)
    → run src (chunks ls ps (insides g 0 n) r []) w
    ≡ then (state_to src ls ps (inside g) r w n) (λ q v. got (chunks_to src ls ps (inside g) r w n, q) v)
unfolding chunks_to state_to
chunks-run src ls ps g r w zero = none-run src ls ps g r w
chunks-run src ls ps g r w (suc n) =
    rw (insides-more g 0 n)
    (chunks-more src ls ps (insides g 0 n) (inside g (0 + n)) r [] w
    ∙ ap (λ (y : Step _ (List Chunk × Running)). then y (onward src ls ps (inside g (0 + n)))) (chunks-run src ls ps g r w n)
    ∙ ap (λ (k : ℕ). then (then (state_to src ls ps (inside g) r w n) (λ q v. got (chunks_to src ls ps (inside g) r w n, q) v))
    (onward src ls ps (inside g k))) (zero-add n)
    ∙ put-after src ls ps (chunks_to src ls ps (inside g) r w n) (state_to src ls ps (inside g) r w n) (inside g n))

-- ---- the chunks of the definition's answer are those that the loops meet
at_before : (cs : List Chunk) (c : Chunk) (k : ℕ) → k < length cs → chunk_at (cs ++ (c ∷ [])) k ≡ chunk_at cs k
unfolding chunk_at
at_before [] c k h = absurd (omega arith)
at_before (x ∷ cs) c zero h = refl
at_before (x ∷ cs) c (suc k) h = at_before cs c k (omega arith)

at-end : (cs : List Chunk) (c : Chunk) → chunk_at (cs ++ (c ∷ [])) (length cs) ≡ c
unfolding chunk_at
at-end [] c = refl
at-end (x ∷ cs) c = at-end cs c

module _ {S : Type 0} (src : Source S) (ls : List ℕ) (ps : List Plane) (flags : ℕ → List Bool) (r : Running) (w : S) where
  as_many : (n : ℕ) → length (chunks_to src ls ps flags r w n) ≡ n
  unfolding chunks_to
  as_many zero = refl
  as_many (suc n) = simp length-append (omega (arith, as_many n))

  pub chunk-at : (n k : ℕ) → k < n → chunk_at (chunks_to src ls ps flags r w n) k ≡ chunk_to src ls ps flags r w k
  unfolding chunks_to
  chunk-at zero k h = absurd (omega arith)
  chunk-at (suc n) k h = go (chunk-at n k) (ℕ_discrete k n)
    where
      go : (k < n → chunk_at (chunks_to src ls ps flags r w n) k ≡ chunk_to src ls ps flags r w k) → Dec (k ≡ n)
          → chunk_at (chunks_to src ls ps flags r w n ++ (chunk_to src ls ps flags r w n ∷ [])) k ≡ chunk_to src ls ps flags r w k
      go ih (yes e) = rw e at_here
        where
          at_here : chunk_at (chunks_to src ls ps flags r w n ++ (chunk_to src ls ps flags r w n ∷ [])) n ≡ chunk_to src ls ps flags r w n
          at_here = rw (as_many n) at (at-end (chunks_to src ls ps flags r w n) (chunk_to src ls ps flags r w n))
      go ih (no e) = at_before (chunks_to src ls ps flags r w n) (chunk_to src ls ps flags r w n) k (omega (arith, as_many n)) ∙ ih
          (omega arith)
