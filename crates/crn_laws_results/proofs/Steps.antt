-- What two steps that are the same say of each other.
use Prim.Native.Nat.{ℕ}
use mathlib.Core.Path.{◌≡◌}
use native.Mathlib.Omega.{arith}
use Rattle.crn_format.specs.Reading.{Step, got, refused}

module _ {S A : Type 0} where
  pub got_tells : {a b : A} {v w : S} → ◌≡◌ {A = Step S A} (got a v) (got b w) → (a ≡ b) × (v ≡ w)
  got_tells {a} {b} {v} {w} e = let x : a ≡ b = cc in let y : v ≡ w = cc in (x, y)

  pub refused_tells : {m n : ℕ} {v w : S} → ◌≡◌ {A = Step S A} (refused m v) (refused n w) → (m ≡ n) × (v ≡ w)
  refused_tells {m} {n} {v} {w} e = let x : m ≡ n = cc in let y : v ≡ w = cc in (x, y)

  pub got_or_refused : {a : A} {n : ℕ} {v w : S} → ◌≡◌ {A = Step S A} (got a v) (refused n w) → ⊥
  got_or_refused e = let z : ◌≡◌ {A = ℕ} 0 1 = cc in omega arith
