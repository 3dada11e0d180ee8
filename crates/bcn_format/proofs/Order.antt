-- The order in which a palette writes selectors (document 02, request 3) is that of the ramps: what was stored as so many steps of the way
-- is written as the selector whose place is there. Assumes nothing.
use Prim.Native.Nat.{ℕ, zero, suc, ◌+◌, ◌≤◌}
use mathlib.Core.Bool.{Bool, true, false}
use mathlib.Core.Path.{◌≡◌, refl}
use native.Mathlib.Omega.{arith}
use borrow.Author.Tests.{ltb-false, ne_eqb}
use lib.Dec.{ltb}
use Rattle.crn_format.specs.Choice.{pick}
use Rattle.crn_format.specs.Palettes.{from_linear}
use Rattle.bcn_format.specs.Channels.{placed}

pub placed_in_order : (top v : ℕ) → v ≤ top → placed top (from_linear top v) ≡ v
unfolding placed from_linear
placed_in_order top zero h = refl
placed_in_order top (suc v) h = rw (ne_eqb (suc v) 0 (λ e. omega arith)) (by_test (ltb (suc v) top) (ltb-false (suc v) top))
  where
    by_test : (less : Bool) → (less ≡ false → top ≤ suc v) → placed top (pick less (suc v + 1) 1) ≡ suc v
    by_test true last = rw (ne_eqb (suc v + 1) 0 (λ e. omega arith), ne_eqb (suc v + 1) 1 (λ e. omega arith)) (omega arith)
    by_test false last = omega (arith, last refl)
