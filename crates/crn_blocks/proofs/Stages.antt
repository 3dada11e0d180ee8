-- Numbers that change in stages. Assumes nothing.
use mathlib.Core.Path.{◌≡◌, refl, ap, ◌∙◌}
use mathlib.Core.Logic.{⊎_elim}
use Prim.Native.Nat.{ℕ, zero, suc, ◌<◌}
use native.Mathlib.Nat.{not-suc-le-zero}
use native.Mathlib.Omega.{arith}
use Rattle.crn_blocks.proofs.Places.{below_or}

-- no stage changes it
pub left_alone : (v : ℕ → ℕ) (n : ℕ) → ((m : ℕ) → m < n → v (suc m) ≡ v m) → v n ≡ v 0
left_alone v zero same = refl
left_alone v (suc n) same = same n (omega arith) ∙ left_alone v n (λ m h. same m (omega arith))

-- a stage makes it a, and no later one changes it
pub made_once : (v : ℕ → ℕ) (n m a : ℕ) → m < n → v (suc m) ≡ a → ((j : ℕ) → m < j → j < n → v (suc j) ≡ v j) → v n ≡ a
made_once v zero m a h is same = absurd (not-suc-le-zero h)
made_once v (suc n) m a h is same =
    ⊎_elim
    (λ lt. same n lt (omega arith) ∙ made_once v n m a lt is (λ j from to. same j from (omega arith)))
    (λ ge. let e : n ≡ m = omega arith in ap (λ (t : ℕ). v (suc t)) e ∙ is)
    (below_or m n)

-- each stage changes two numbers alike
pub alike : (u v : ℕ → ℕ) (n : ℕ) → u 0 ≡ v 0 → ((m : ℕ) → m < n → u m ≡ v m → u (suc m) ≡ v (suc m)) → u n ≡ v n
alike u v zero first next = first
alike u v (suc n) first next = next n (omega arith) (alike u v n first (λ m h. next m (omega arith)))
