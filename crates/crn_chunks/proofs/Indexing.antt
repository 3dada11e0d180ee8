-- The next index of a palette.
use Prim.Native.Nat.{ℕ, ◌+◌, ◌-◌, ◌≤◌, ◌<◌}
use mathlib.Core.Bool.{Bool, true, false, ◌&&◌}
use mathlib.Core.List.{List}
use mathlib.Core.Path.{◌≡◌, refl, ◌∙◌}
use native.Mathlib.Omega.{arith}
use lib.Dec.{leb, ltb}
use borrow.Author.Tests.{lt-ltb}
use Rattle.std.proofs.lemmas.Bool.Decides.{nat_tests}
use Rattle.crn_format.specs.Choice.{pick, not, either}
use Rattle.crn_format.specs.Reading.{Reading, answer, refuse, symbol, got, refused, Source, run}
use Rattle.crn_format.specs.Level.{Plane, limited, stepped, endpoint_index, selector_index}
use Rattle.crn_format.proofs.Steps.{go_on, stop, answered, refusing, run_cong}
use Rattle.crn_chunks.specs.Parts.{index_of, farthest, reach}

abbrev index_then : ℕ → Bool → ℕ → ℕ → Reading ℕ
index_then n inside i d = pick (either (ltb (stepped n i d) n) (not inside)) (answer (stepped n i d)) (refuse 14)

-- the test in the code
looked_at : (inside : Bool) (n j : ℕ) → either (ltb j n) (not inside) ≡ not (inside && leb n j)
looked_at true n j = grind (arith, nat_tests)
looked_at false n j = grind (arith, nat_tests)

module _ {S : Type 0} (src : Source S) where
  module _ (ls : List ℕ) (n : ℕ) (inside : Bool) (i : ℕ) (w : S) where
    pub index_lost : {x : ℕ} {v : S} → run src (symbol ls) w ≡ refused x v → run src (index_of ls n inside i) w ≡ refused x v
    unfolding index_of
    index_lost e = stop src _ _ w e

    module _ {d j : ℕ} {v : S} (e : run src (symbol ls) w ≡ got d v) (q : j ≡ limited n (i + d)) where
      pub index-near : j < n → run src (index_of ls n inside i) w ≡ got j v
      unfolding index_of
      index-near h = go_on src _ (index_then n inside i) w e ∙ rw (← q) (simp (lt-ltb _ _ h) (answered src _ v))

      pub index-far : inside && leb n j ≡ true → run src (index_of ls n inside i) w ≡ refused 14 (src.stopped v)
      unfolding index_of
      index-far h = go_on src _ (index_then n inside i) w e ∙ rw (← q) (rw (looked_at inside n j, h) (refusing src 14 v))

      pub index-kept : inside && leb n j ≡ false → run src (index_of ls n inside i) w ≡ got j v
      unfolding index_of
      index-kept h = go_on src _ (index_then n inside i) w e ∙ rw (← q) (rw (looked_at inside n j, h) (answered src _ v))

  -- an endpoint index is always looked at
  pub endpoint-is : (p : Plane) (i : ℕ) (w : S) → run src (endpoint_index p i) w ≡ run src (index_of p.endpoint_deltas p.endpoints true i) w
  unfolding endpoint_index index_of
  endpoint-is p i w = run_cong src (symbol p.endpoint_deltas) _ _ w
      (λ d v. looked (ltb (stepped p.endpoints i d) p.endpoints) (stepped p.endpoints i d) v)
    where
      looked : (h : Bool) (j : ℕ) (v : S) → run src (pick h (answer j) (refuse 14)) v ≡ run src
          (pick (either h false) (answer j) (refuse 14)) v
      looked true j v = refl
      looked false j v = refl

  pub selector-is : (p : Plane) (inside : Bool) (i : ℕ) (w : S) → run src (selector_index p inside i) w ≡ run src
      (index_of p.selector_deltas p.selectors inside i) w
  unfolding selector_index index_of
  selector-is p inside i w = refl

-- ---- how far an index goes

pub reach_near : (inside : Bool) (i : ℕ) {j n : ℕ} → j < n → n ≤ farthest → j < reach inside i
reach_near true i h g = omega arith
reach_near false i h g = omega arith

pub reach-some : (inside : Bool) (i : ℕ) → 0 < reach inside i
reach-some true i = omega arith
reach-some false i = omega arith

limited_le : (n x : ℕ) → limited n x ≤ x
limited_le n x = go (ltb x n)
  where
    go : (h : Bool) → pick h x (x - n) ≤ x
    go true = omega arith
    go false = omega arith

pub reach_kept : (inside : Bool) (n i d : ℕ) {j : ℕ} → inside && leb n j ≡ false → j ≡ limited n (i + d) → d < farthest → n ≤ farthest
    → j < reach inside i
reach_kept true n i d {j} e q h g = grind (arith, nat_tests)
reach_kept false n i d e q h g = rw q (omega (arith, limited_le n (i + d)))
