-- However a level's run ends, it tries no more draws than the allowance has, and is not refused by 15.
use Prim.Native.Nat.{ℕ, zero, suc, ◌+◌, ◌*◌, ◌-◌, ◌/◌, ◌%◌, ◌≤◌, ◌<◌}
use mathlib.Core.Path.{◌≡◌, refl, ap}
use mathlib.Core.Bool.{Bool, true, false}
use mathlib.Core.List.{List, [], ◌∷◌, ◌++◌}
use native.Mathlib.Omega.{arith}
use native.Mathlib.Nat.{suc-mul}
use lib.ListN.{length, get_or}
use lib.Dec.{ltb}
use borrow.Author.Tests.{ltb-true}
use Rattle.crn_format.specs.Choice.{pick, not, either}
use Rattle.crn_format.specs.Limits.{chunk_symbols}
use Rattle.crn_format.specs.Reading.{Want, Reading, answer, refuse, want, mark, next, Step, got, refused, then, Source, run, Place, spot, served, from_bits}
use Rattle.crn_format.specs.Level.{Plane, stepped, endpoint_index, selector_index, endpoint_indices, plane_endpoints, plane_selectors, position_selectors, tile_counts, encoding, Running, Chunk, lasts, last_row, chunk, chunks, fresh, level}
use Rattle.crn_format.specs.Grid.{inside, insides}
use Rattle.crn_format.specs.Unpacking.{allowance}
use Rattle.crn_format.specs.declared.Grid.{Grid}
use Rattle.crn_format.proofs.Refusing.{Stops, serve-stops}
use Rattle.crn_laws.specs.Scripts.{AllBelow}
use Rattle.crn_laws.proofs.Trying.{tried, tried_then}

-- the reading wants n symbols at most and refuses by less than 15; P holds of its answer and of how many of the n are left
unfoldable pub Within : {A : Type 0} → Reading A → ℕ → (A → ℕ → Type 0) → Type 0
Within (answer a) n P = P a n
Within (refuse x) n P = x < 15
Within (want x f) zero P = ⊥
Within (want x f) (suc n) P = (s : ℕ) → Within (f s) n P
Within (mark m) n P = Within m n P

within-next : {A B : Type 0} (m : Reading A) (k : A → Reading B) (n : ℕ) (P : B → ℕ → Type 0) → Within m n (λ a j. Within (k a) j P) →
    Within (next m k) n P
unfolding Within next
within-next (answer a) k n P h = h
within-next (refuse x) k n P h = h
within-next (want x f) k zero P h = h
within-next (want x f) k (suc n) P h = λ s. within-next (f s) k n P (h s)
within-next (mark m) k n P h = within-next m k n P h

pub within-tried : {S A : Type 0} (src : Source S) (m : Reading A) (n : ℕ) (P : A → ℕ → Type 0) (w : S) → Within m n P → tried src m w ≤ n
unfolding Within tried tried_then
within-tried src (answer a) n P w h = omega arith
within-tried src (refuse x) n P w h = omega arith
within-tried src (want x f) zero P w h = absurd h
within-tried {S} src (want x f) (suc n) P w h = by (src.serve x w) (λ s v. within-tried src (f s) n P v (h s))
  where
    by : (y : Step S ℕ) → ((s : ℕ) (v : S) → tried src (f s) v ≤ n) → suc (tried_then y (λ s v. tried src (f s) v)) ≤ suc n
    by (got s v) ih = omega (arith, ih s v)
    by (refused x v) ih = omega arith
within-tried src (mark m) n P w h = within-tried src m n P (src.marked w) h

-- ---- refusals over the bits

served-below : (seg : List ℕ) (x : Want) (w : Place) {n : ℕ} {v : Place} → served seg x w ≡ refused n v → n < 15
served-below seg x w {n} {v} e = by (served seg x w) (serve-stops (λ k. ltb k 15) refl refl seg x w) e
  where
    by : (y : Step Place ℕ) → Stops (λ k. ltb k 15) y → y ≡ refused n v → n < 15
    by (got s u) h e = let z : ◌≡◌ {A = ℕ} 0 1 = cc in absurd (omega arith)
    by (refused k u) h e = let z : k ≡ n = cc in omega (arith, ltb-true k 15 h)

pub within-refused : {A : Type 0} (seg : List ℕ) (m : Reading A) (n : ℕ) (P : A → ℕ → Type 0) (w : Place) {x : ℕ} {v : Place} → Within m n P
    → run (from_bits seg) m w ≡ refused x v → x < 15
unfolding Within run then from_bits
within-refused seg (answer a) n P w h e = let z : ◌≡◌ {A = ℕ} 0 1 = cc in absurd (omega arith)
within-refused seg (refuse y) n P w {x} h e = let z : y ≡ x = cc in omega arith
within-refused seg (want y f) zero P w h e = absurd h
within-refused seg (want y f) (suc n) P w {x} {v} h e = by (served seg y w) refl (λ s u. within-refused seg (f s) n P u (h s)) e
  where
    by : (z : Step Place ℕ) → served seg y w ≡ z → ((s : ℕ) (u : Place) → run (from_bits seg) (f s) u ≡ refused x v → x < 15)
        → then z (λ s u. run (from_bits seg) (f s) u) ≡ refused x v → x < 15
    by (got s u) is ih e = ih s u e
    by (refused k u) is ih e = let z : k ≡ x = cc in omega (arith, served-below seg y w is)
within-refused seg (mark m) n P w h e = within-refused seg m n P (spot w.at w.at) h e

-- ---- the level's own reading; N symbols are allowed, and n must be left

all-below : (n : ℕ) (xs : List ℕ) (k : ℕ) → AllBelow n xs → 0 < n → get_or xs k 0 < n
unfolding AllBelow
all-below n [] k h o = o
all-below n (x ∷ xs) zero h o = h.0
all-below n (x ∷ xs) (suc k) h o = all-below n xs k h.1 o

few-tiles : (e : ℕ) → get_or tile_counts e 0 < 5
few-tiles e = all-below 5 tile_counts e each (omega arith)
  where
    each : AllBelow 5 tile_counts
    each = unfold AllBelow tile_counts in omega arith

-- each chunk has four positions
unfoldable AllFour : List (List Bool) → Type 0
AllFour [] = Unit {0}
AllFour (x ∷ xs) = (length x ≡ 4) × AllFour xs

all-four : (g : Grid) (c n : ℕ) → AllFour (insides g c n)
unfolding AllFour insides inside
all-four g c zero = tt
all-four g c (suc n) = (refl, all-four g (c + 1) n)

pub as_many : (g : Grid) (c n : ℕ) → length (insides g c n) ≡ n
unfolding insides
as_many g c zero = refl
as_many g c (suc n) = ap suc (as_many g (c + 1) n)

module _ {P : ℕ → ℕ → Type 0} where
  endpoint-within : (p : Plane) (i N n : ℕ) → suc n ≤ N → ((a j : ℕ) → n ≤ j → P a j) → Within (endpoint_index p i) N P
  unfolding endpoint_index next Within
  endpoint-within p i zero n h k = absurd (omega arith)
  endpoint-within p i (suc N) n h k = λ s. by s (ltb (stepped p.endpoints i s) p.endpoints)
    where
      by : (s : ℕ) (b : Bool) → Within (pick b (answer (stepped p.endpoints i s)) (refuse 14)) N P
      by s true = k (stepped p.endpoints i s) N (omega arith)
      by s false = omega arith

  selector-within : (p : Plane) (inside : Bool) (i N n : ℕ) → suc n ≤ N → ((a j : ℕ) → n ≤ j → P a j) → Within (selector_index p inside i) N
      P
  unfolding selector_index next Within
  selector-within p inside i zero n h k = absurd (omega arith)
  selector-within p inside i (suc N) n h k = λ s. by s (either (ltb (stepped p.selectors i s) p.selectors) (not inside))
    where
      by : (s : ℕ) (b : Bool) → Within (pick b (answer (stepped p.selectors i s)) (refuse 14)) N P
      by s true = k (stepped p.selectors i s) N (omega arith)
      by s false = omega arith

module _ {P : List ℕ → ℕ → Type 0} where
  indices-within : (p : Plane) (m i : ℕ) (is : List ℕ) (N n : ℕ) → m + n ≤ N → ((a : List ℕ) (j : ℕ) → n ≤ j → P a j) → Within
      (endpoint_indices p m i is) N P
  unfolding endpoint_indices
  indices-within p zero i is N n h k = unfold Within in k is N (omega arith)
  indices-within p (suc m) i is N n h k =
      within-next (endpoint_index p i) (λ j. endpoint_indices p m j (is ++ (j ∷ []))) N P
      (endpoint-within p i N (m + n) (omega arith) (λ a j l. indices-within p m a (is ++ (a ∷ [])) j n l k))

position-within : {P : List ℕ → ℕ → Type 0} (ps : List Plane) (inside : Bool) (is : List ℕ) (N n : ℕ) → length ps + n ≤ N
    → ((a : List ℕ) (j : ℕ) → n ≤ j → P a j) → Within (plane_selectors ps inside is) N P
unfolding plane_selectors
position-within {P} [] inside is N n h k = unfold Within in k [] N (omega arith)
position-within {P} (p ∷ ps) inside [] N n h k = unfold Within in k [] N (omega arith)
position-within {P} (p ∷ ps) inside (i ∷ is) N n h k =
    within-next (selector_index p inside i) (λ j. next (plane_selectors ps inside is) λ more. answer (j ∷ more)) N P
    (selector-within p inside i N (length ps + n) (omega arith) (λ a j l.
    within-next (plane_selectors ps inside is) (λ more. answer (a ∷ more)) j P
    (position-within {P = λ x y. Within {A = List ℕ} (answer (a ∷ x)) y P} ps inside is j n l
    (λ more m b. unfold Within in k (a ∷ more) m b))))

endpoints-within : {P : List (List ℕ) → ℕ → Type 0} (ps : List Plane) (m : ℕ) (is : List ℕ) (N n : ℕ) → m ≤ 4 → 4 * length ps + n ≤ N
    → ((a : List (List ℕ)) (j : ℕ) → n ≤ j → P a j) → Within (plane_endpoints ps m is) N P
unfolding plane_endpoints
endpoints-within {P} [] m is N n few h k = unfold Within in k [] N (omega arith)
endpoints-within {P} (p ∷ ps) m [] N n few h k = unfold Within in k [] N (omega arith)
endpoints-within {P} (p ∷ ps) m (i ∷ is) N n few h k =
    within-next (endpoint_indices p m i []) (λ a. next (plane_endpoints ps m is) λ more. answer (a ∷ more)) N P
    (indices-within p m i [] N (4 * length ps + n) (omega arith) (λ a j l.
    within-next (plane_endpoints ps m is) (λ more. answer (a ∷ more)) j P
    (endpoints-within {P = λ x y. Within {A = List (List ℕ)} (answer (a ∷ x)) y P} ps m is j n few l
    (λ more q b. unfold Within in k (a ∷ more) q b))))

module _ {P : List (List ℕ) → ℕ → Type 0} where
  selectors-within : (ps : List Plane) (insides : List Bool) (is : List ℕ) (rows : List (List ℕ)) (N n : ℕ) → length insides * length ps + n
      ≤ N
      → ((a : List (List ℕ)) (j : ℕ) → n ≤ j → P a j) → Within (position_selectors ps insides is rows) N P
  unfolding position_selectors
  selectors-within ps [] is rows N n h k = unfold Within in k rows N (omega arith)
  selectors-within ps (inside ∷ more) is rows N n h k =
      within-next (plane_selectors ps inside is) (λ js. position_selectors ps more js (rows ++ (js ∷ []))) N P
      (position-within ps inside is N (length more * length ps + n) (omega (arith, suc-mul (length more) (length ps)))
      (λ js j l. selectors-within ps more js (rows ++ (js ∷ [])) j n l k))

-- with M chunks after this one, R symbols and those of the chunk symbols for them must be left
encoding-within : {P : ℕ × List ℕ → ℕ → Type 0} (table pending : List ℕ) (N R M : ℕ) → length pending ≤ 2 → R + (suc M + 2 - length pending)
    / 3 ≤ N
    → ((a : ℕ × List ℕ) (j : ℕ) → length a.1 ≤ 2 → R + (M + 2 - length a.1) / 3 ≤ j → P a j) → Within (encoding table pending) N P
unfolding encoding next Within
encoding-within table (e ∷ pending) N R M few h k = k (e, pending) N (omega arith) (omega arith)
encoding-within table [] zero R M few h k = absurd (omega arith)
encoding-within {P} table [] (suc N) R M few h k = λ s. by s (ltb s chunk_symbols)
  where
    by : (s : ℕ) (b : Bool) → Within (pick b (answer (s % 8, s / 8 % 8 ∷ s / 64 % 8 ∷ [])) (refuse 13)) N P
    by s true = k (s % 8, s / 8 % 8 ∷ s / 64 % 8 ∷ []) N (omega arith) (omega arith)
    by s false = omega arith

chunk-within : {P : Chunk × Running → ℕ → Type 0} (table : List ℕ) (ps : List Plane) (inside : List Bool) (r : Running) (N R M : ℕ) → length
    inside ≡ 4
    → length r.pending ≤ 2 → 8 * length ps + R + (suc M + 2 - length r.pending) / 3 ≤ N
    → ((a : Chunk × Running) (j : ℕ) → length a.1.pending ≤ 2 → R + (M + 2 - length a.1.pending) / 3 ≤ j → P a j)
    → Within (chunk table ps inside r) N P
unfolding chunk
chunk-within {P} table ps inside r N R M four few h k =
    within-next (encoding table r.pending) ends_then N P
    (encoding-within table r.pending N (8 * length ps + R) M few h (λ e j short left.
    within-next (plane_endpoints ps (get_or tile_counts e.0 0) r.endpoint) (sels_then e) j P
    (endpoints-within ps (get_or tile_counts e.0 0) r.endpoint j (4 * length ps + (R + (M + 2 - length e.1) / 3))
    (omega (arith, few-tiles e.0))
    (omega arith) (λ t j l.
    within-next (position_selectors ps inside r.selector []) (λ q. answer (made e t q)) j P
    (selectors-within ps inside r.selector [] j (R + (M + 2 - length e.1) / 3) (rw four (omega arith))
    (λ q j l. unfold Within in k (made e t q) j short l))))))
  where
    made : ℕ × List ℕ → List (List ℕ) → List (List ℕ) → Chunk × Running
    made e t q = (
      record { encoding = e.0; tiles = t; positions = q },
      record
          { pending = e.1; endpoint = lasts r.endpoint t; selector = last_row r.selector q },
    )

    sels_then : ℕ × List ℕ → List (List ℕ) → Reading (Chunk × Running)
    sels_then e t = next (position_selectors ps inside r.selector []) (λ q. answer (made e t q))

    ends_then : ℕ × List ℕ → Reading (Chunk × Running)
    ends_then e = next (plane_endpoints ps (get_or tile_counts e.0 0) r.endpoint) (sels_then e)

chunks-within : {P : List Chunk × Running → ℕ → Type 0} (table : List ℕ) (ps : List Plane) (insides : List (List Bool)) (r : Running)
    (cs : List Chunk) (N : ℕ)
    → AllFour insides → length r.pending ≤ 2 → 8 * (length insides * length ps) + (length insides + 2 - length r.pending) / 3 ≤ N
    → ((a : List Chunk × Running) (j : ℕ) → P a j) → Within (chunks table ps insides r cs) N P
unfolding chunks AllFour
chunks-within table ps [] r cs N four few h k = unfold Within in k (cs, r) N
chunks-within {P} table ps (x ∷ xs) r cs N four few h k =
    within-next (chunk table ps x r) (λ a. chunks table ps xs a.1 (cs ++ (a.0 ∷ []))) N P
    (chunk-within table ps x r N (8 * (length xs * length ps)) (length xs) four.0 few (omega (arith, suc-mul (length xs) (length ps)))
    (λ a j short left. chunks-within table ps xs a.1 (cs ++ (a.0 ∷ [])) j four.1 short left k))

pub level-within : (table : List ℕ) (ps : List Plane) (g : Grid) (n : ℕ) → Within (level table ps (insides g 0 n)) (allowance n (length ps))
    (λ a j. Unit {0})
unfolding level
level-within table ps g n =
    within-next (chunks table ps (insides g 0 n) (fresh ps) []) (λ a. answer a.0) (allowance n (length ps)) (λ a j. Unit {0})
    (chunks-within table ps (insides g 0 n) (fresh ps) [] (allowance n (length ps)) (all-four g 0 n) (omega arith)
    (rw (as_many g 0 n) (omega arith))
    (λ a j. unfold Within in tt))
