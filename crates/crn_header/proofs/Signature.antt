-- A pair of bytes that a slice starts with.
use Prim.Native.Nat.{ℕ}
use mathlib.Core.Path.{◌≡◌, refl}
use mathlib.Core.Bool.{Bool, true, false, ◌&&◌}
use mathlib.Core.List.{List, [], ◌∷◌}
use lib.ListN.{get_or}
use lib.Dec.{eqb}
use Rattle.std.specs.List.{starts_with}
use Rattle.std.proofs.lemmas.Cmp.{nat_eq_equiv}
use Rattle.crn_format.specs.Choice.{both}

grouped : (p q : Bool) → p && (q && true) ≡ both p q
grouped true true = refl
grouped true false = refl
grouped false q = refl

never : (p : Bool) → both p false ≡ false
never true = refl
never false = refl

-- of less than two bytes the second counts as 0, which no signature has
pub two_bytes : (file : List ℕ) (x y : ℕ) → eqb 0 y ≡ false
    → starts_with eqb file (x ∷ y ∷ []) ≡ both (eqb (get_or file 0 0) x) (eqb (get_or file 1 0) y)
two_bytes [] x y e = rw (e, never (eqb 0 x))
two_bytes (a ∷ []) x y e = rw (e, nat_eq_equiv.symm x a)
two_bytes (a ∷ b ∷ rest) x y e = rw (nat_eq_equiv.symm x a, nat_eq_equiv.symm y b) (grouped (eqb a x) (eqb b y))
