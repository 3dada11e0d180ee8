-- The derived equality of two lists is the definition's.
use Prim.Native.Nat.{ℕ}
use mathlib.Core.Path.{◌≡◌, refl, ap}
use mathlib.Core.Bool.{Bool, true, false}
use mathlib.Core.List.{List, [], ◌∷◌}
use lib.Dec.{eqb}
use lib.Pointwise.{pointwise}
use Rattle.crn_format.specs.Choice.{both}
use Rattle.crn_format.specs.Loading.{same_all}

pub pairs : (xs ys : List ℕ) → pointwise eqb xs ys ≡ same_all eqb xs ys
unfolding same_all
pairs [] [] = refl
pairs [] (y ∷ ys) = refl
pairs (x ∷ xs) [] = refl
pairs (x ∷ xs) (y ∷ ys) = ap (both (eqb x y)) (pairs xs ys)

-- a group of tests, and the rest
pub joined : (a b c : Bool) → both (both a b) c ≡ both a (both b c)
joined true b c = refl
joined false b c = refl
