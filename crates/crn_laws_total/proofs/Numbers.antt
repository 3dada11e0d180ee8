-- Lists of refusal numbers: joined, and with none in common.
use Prim.Native.Nat.{ℕ}
use mathlib.Core.Bool.{Bool, true, false, false≢true}
use mathlib.Core.Logic.{◌⊎◌, inl, inr}
use mathlib.Core.List.{List, [], ◌∷◌, ◌++◌}
use mathlib.Core.Path.{◌≡◌, refl, sym, ap, ◌∙◌}
use lib.Dec.{eqb}
use borrow.Author.Tests.{eqb-true}
use Rattle.crn_format.specs.Choice.{both, not, either}
use Rattle.crn_laws_total.specs.Refusals.{among}

module _ (n : ℕ) where
  pub among_first : (ms ns : List ℕ) → among n ms ≡ true → among n (ms ++ ns) ≡ true
  among_first [] ns e = absurd (false≢true e)
  among_first (m ∷ ms) ns e = by (eqb n m) (among_first ms ns) e
    where
      by : (t : Bool) → (among n ms ≡ true → among n (ms ++ ns) ≡ true) → either t (among n ms) ≡ true → either t (among n (ms ++ ns)) ≡
          true
      by true rest e = refl
      by false rest e = rest e

  pub among_second : (ms ns : List ℕ) → among n ns ≡ true → among n (ms ++ ns) ≡ true
  among_second [] ns e = e
  among_second (m ∷ ms) ns e = by (eqb n m) (among_second ms ns e)
    where
      by : (t : Bool) → among n (ms ++ ns) ≡ true → either t (among n (ms ++ ns)) ≡ true
      by true rest = refl
      by false rest = rest

  -- and apart again
  pub among-either : (ms ns : List ℕ) → among n (ms ++ ns) ≡ true → (among n ms ≡ true) ⊎ (among n ns ≡ true)
  among-either [] ns e = inr e
  among-either (m ∷ ms) ns e = by (eqb n m) (among-either ms ns) e
    where
      by : (t : Bool) → (among n (ms ++ ns) ≡ true → (among n ms ≡ true) ⊎ (among n ns ≡ true)) → either t (among n (ms ++ ns)) ≡ true
          → (either t (among n ms) ≡ true) ⊎ (among n ns ≡ true)
      by true rest e = inl refl
      by false rest e = rest e

-- 0 is no refusal
pub not-zero : (ms : List ℕ) → among 0 ms ≡ false → {n : ℕ} → among n ms ≡ true → n ≡ 0 → ⊥
not-zero ms none h z = false≢true (sym none ∙ ap (λ (k : ℕ). among k ms) (sym z) ∙ h)

-- a test that none of the one is among the other
abbrev pub apart : List ℕ → List ℕ → Bool
apart [] ns = true
apart (m ∷ ms) ns = both (not (among m ns)) (apart ms ns)

pub none_in_both : (n : ℕ) (ms ns : List ℕ) → apart ms ns ≡ true → among n ms ≡ true → among n ns ≡ true → ⊥
none_in_both n [] ns a e f = false≢true e
none_in_both n (m ∷ ms) ns a e f = by (eqb n m) refl (among m ns) refl a e (none_in_both n ms ns)
  where
    by : (t : Bool) → eqb n m ≡ t → (u : Bool) → among m ns ≡ u → both (not u) (apart ms ns) ≡ true → either t (among n ms) ≡ true
        → (apart ms ns ≡ true → among n ms ≡ true → among n ns ≡ true → ⊥) → ⊥
    by t is true there a e rest = false≢true a
    by true is false there a e rest = false≢true (sym there ∙ ap (λ (k : ℕ). among k ns) (sym (eqb-true n m is)) ∙ f)
    by false is false there a e rest = rest a e f
