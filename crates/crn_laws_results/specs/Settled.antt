-- What it is that a contract fixes: two calls that were given the same, and whose ends it allows, are seen to end the same.
--
-- The contracts are the functions' own: the `Post` of a function is its `ensures` as the checker reads it, over the lifetimes, what is given,
-- the answer, and the parameters at exit (of a lent slice, `now` is what it then holds).
use Rattle.std.specs.Prelude.{◌≡◌}
use Rattle.std.proofs.Common.{sym, ◌∙◌}

-- `seen` is what is compared: the answer, and what is left in what was lent
abbrev pub Settled : {K A R E X : Type 0} → (K → A → R → E → Type 0) → (A → R → E → X) → Type 0
Settled {K} {A} {R} {E} post seen =
    (κ₁ κ₂ : K) (a : A) (r s : R) (d e : E) → post κ₁ a r d → post κ₂ a s e → seen a r d ≡ seen a s e

-- the same of calls for which more is known: what their caller was asked, or what the answer's type says of it
abbrev pub SettledIf : {K A R E X : Type 0} → (A → R → Type 0) → (K → A → R → E → Type 0) → (A → R → E → X) → Type 0
SettledIf {K} {A} {R} {E} known post seen =
    (κ₁ κ₂ : K) (a : A) (r s : R) (d e : E) → known a r → known a s → post κ₁ a r d → post κ₂ a s e → seen a r d ≡ seen a s e

-- only the answer is compared, where nothing is lent to be written
abbrev pub the_answer : {A R E : Type 0} → A → R → E → R
the_answer a r e = r

-- two that are one value are the same
pub alike : {X : Type 0} {x y v : X} → x ≡ v → y ≡ v → x ≡ y
alike p q = p ∙ sym q

-- two such pairs
pub alike₂ : {X Y : Type 0} {x y v : X} {z w u : Y} → x ≡ v → y ≡ v → z ≡ u → w ≡ u → ◌≡◌ {A = X × Y} (x, z) (y, w)
alike₂ p q p' q' = λ i. (alike p q i, alike p' q' i)
