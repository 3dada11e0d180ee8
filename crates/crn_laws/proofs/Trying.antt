-- A budget: a run goes under it as it goes without one if it allows for each draw that the run tries, and is else refused by 15.
use Prim.Native.Nat.{ℕ, zero, suc, ◌-◌, ◌≤◌, ◌<◌}
use mathlib.Core.Path.{◌≡◌, refl, ap}
use mathlib.Core.Bool.{false}
use native.Mathlib.Omega.{arith}
use lib.ListN.{length}
use lib.Dec.{eqb}
use borrow.Author.Tests.{ne_eqb}
use Rattle.crn_format.specs.Reading.{Reading, answer, refuse, want, mark, Step, got, refused, then, Source, run, Place, spot, Spending, charged, budgeted}
use Rattle.crn_format.specs.Script.{taking, taken}
use Rattle.crn_format.proofs.Scripts.{spending}

-- how many draws a run tries: those that bring a symbol, and the one that fails
unfoldable pub tried_then : {S : Type 0} → Step S ℕ → (ℕ → S → ℕ) → ℕ
tried_then (got s w) k = k s w
tried_then (refused n w) k = 0

unfoldable pub tried : {S A : Type 0} → Source S → Reading A → S → ℕ
unfolding tried_then
tried src (answer a) w = 0
tried src (refuse n) w = 0
tried src (want x f) w = suc (tried_then (src.serve x w) (λ s w₁. tried src (f s) w₁))
tried src (mark m) w = tried src m (src.marked w)

-- each symbol was a draw
pub fewer : {S A : Type 0} (src : Source S) (m : Reading A) (w : S) → length (taken src m w) ≤ tried src m w
unfolding taken taking tried tried_then
fewer src (answer a) w = omega arith
fewer src (refuse n) w = omega arith
fewer {S} src (want x f) w = by (src.serve x w) (λ s v. fewer src (f s) v)
  where
    by : (y : Step S ℕ) → ((s : ℕ) (v : S) → length (taken src (f s) v) ≤ tried src (f s) v)
        → length (taking y (λ s v. taken src (f s) v)) ≤ suc (tried_then y (λ s v. tried src (f s) v))
    by (got s v) ih = omega (arith, ih s v)
    by (refused n v) ih = omega arith
fewer src (mark m) w = fewer src m (src.marked w)

-- a run that accepts tries as many draws as it takes symbols
pub as_many : {S A : Type 0} (src : Source S) (m : Reading A) (w : S) {a : A} {v : S} → run src m w ≡ got a v → tried src m w ≡ length
    (taken src m w)
unfolding run then taken taking tried tried_then
as_many src (answer b) w e = refl
as_many src (refuse n) w e = refl
as_many {S} src (want x f) w {a} {v} e = by (src.serve x w) (λ s u. as_many src (f s) u) e
  where
    by : (y : Step S ℕ) → ((s : ℕ) (u : S) → run src (f s) u ≡ got a v → tried src (f s) u ≡ length (taken src (f s) u))
        → then y (λ s u. run src (f s) u) ≡ got a v → suc (tried_then y (λ s u. tried src (f s) u)) ≡ length
        (taking y (λ s u. taken src (f s) u))
    by (got s u) ih e = ap suc (ih s u e)
    by (refused n u) ih e = let z : ◌≡◌ {A = ℕ} 0 1 = cc in absurd (omega arith)
as_many src (mark m) w e = as_many src m (src.marked w) e

-- how a run without a budget ended, with so much left
unfoldable pub leaving : {A : Type 0} → ℕ → Step Place A → Step Spending A
leaving l (got a w) = got a (spending w l)
leaving l (refused n w) = refused n (spending w l)

module _ (src : Source Place) where
  pub enough : {A : Type 0} (m : Reading A) (w : Place) (l : ℕ) → tried src m w ≤ l
      → run (budgeted src) m (spending w l) ≡ leaving (l - length (taken src m w)) (run src m w)
  unfolding run then taken taking tried tried_then budgeted leaving
  enough (answer a) w l h = let e : l - 0 ≡ l = omega arith in rw e
  enough (refuse n) w l h = let e : l - 0 ≡ l = omega arith in rw e
  enough {A} (want x f) w l h = by (src.serve x w) refl (λ s v k. enough (f s) v k) h
    where
      some : (k : ℕ) → suc k ≤ l → eqb l 0 ≡ false
      some k h = ne_eqb l 0 (λ z. omega arith)

      by : (y : Step Place ℕ) → src.serve x w ≡ y
          → ((s : ℕ) (v : Place) (k : ℕ) → tried src (f s) v ≤ k
          → run (budgeted src) (f s) (spending v k) ≡ leaving (k - length (taken src (f s) v)) (run src (f s) v))
          → suc (tried_then y (λ s v. tried src (f s) v)) ≤ l
          → run (budgeted src) (want x f) (spending w l) ≡ leaving (l - length (taking y (λ s v. taken src (f s) v)))
          (then y (λ s v. run src (f s) v))
      by (got s v) q ih h =
          let e : l - 1 - length (taken src (f s) v) ≡ l - suc (length (taken src (f s) v)) = omega arith in
          unfold charged in rw (q, some _ h) (rw e at (ih s v (l - 1) (omega arith)))
      by (refused n v) q ih h = let e : l - 0 ≡ l = omega arith in unfold charged in rw (q, some _ h, e)
  enough (mark m) w l h = enough m (src.marked w) l h

  pub short : {A : Type 0} (m : Reading A) (w : Place) (l : ℕ) → l < tried src m w
      → (p : ℕ) × (run (budgeted src) m (spending w l) ≡ refused 15 (spending (spot p p) 0))
  unfolding run then tried tried_then budgeted
  short (answer a) w l h = absurd (omega arith)
  short (refuse n) w l h = absurd (omega arith)
  short (want x f) w zero h = (w.at, refl)
  short {A} (want x f) w (suc l) h = by (src.serve x w) refl (λ s v. short (f s) v l) h
    where
      by : (y : Step Place ℕ) → src.serve x w ≡ y
          → ((s : ℕ) (v : Place) → l < tried src (f s) v → (p : ℕ) ×
          (run (budgeted src) (f s) (spending v l) ≡ refused 15 (spending (spot p p) 0)))
          → suc l < suc (tried_then y (λ s v. tried src (f s) v))
          → (p : ℕ) × (run (budgeted src) (want x f) (spending w (suc l)) ≡ refused 15 (spending (spot p p) 0))
      by (got s v) q ih h =
          let r = ih s v (omega arith) in
          let e : suc l - 1 ≡ l = omega arith in
          let some : eqb (suc l) 0 ≡ false = ne_eqb (suc l) 0 (λ z. omega arith) in
          (r.0, unfold charged in rw (q, some, e) r.1)
      by (refused n v) q ih h = absurd (omega arith)
  short (mark m) w l h = short m (src.marked w) l h
