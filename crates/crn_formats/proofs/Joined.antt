-- Tests and how they are joined: the code's `&`, `|` and `!` are the definitions' `both`, `either` and `pick`.
use Prim.Native.Nat.{ℕ, ◌≤◌, ◌<◌}
use mathlib.Core.Path.{◌≡◌, refl, sym, ◌∙◌}
use mathlib.Core.Bool.{Bool, true, false, not, ◌&&◌}
use native.Mathlib.Nat.{lt_of_not-le, not-le_of_lt}
use lib.Dec.{leb, ltb, leb-zero}
use borrow.Author.Tests.{leb-true, leb-false, le-leb, lt-leb}
use Rattle.crn_format.specs.Choice.{pick, either}

-- the code's chain is grouped from the left, a definition's from the right
pub grouped : (a b c : Bool) → (a && b) && c ≡ a && (b && c)
grouped true b c = refl
grouped false b c = refl

pub unless : (wanted holds : Bool) → either (not wanted) holds ≡ pick wanted holds true
unless true holds = refl
unless false holds = refl

-- one at least, where it is wanted
pub at_least_one : (wanted : Bool) (n : ℕ) → leb (pick wanted 1 0) n ≡ pick wanted (ltb 0 n) true
at_least_one true n = refl
at_least_one false n = leb-zero n

-- a number is at most m, or above it
pub split : {X : Type 0} (n m : ℕ) → (n ≤ m → X) → (m < n → X) → X
split {X} n m low high = by (leb n m) refl
  where
    by : (b : Bool) → leb n m ≡ b → X
    by true e = low (leb-true n m e)
    by false e = high (leb-false n m e)

-- two tests that hold of the same
pub agree : (a b x y : ℕ) → (a ≤ b → x ≤ y) → (x ≤ y → a ≤ b) → leb a b ≡ leb x y
agree a b x y to from =
    split a b
    (λ l. le-leb a b l ∙ sym (le-leb x y (to l)))
    (λ g. lt-leb a b g ∙ sym (lt-leb x y (lt_of_not-le (λ l. not-le_of_lt g (from l)))))
