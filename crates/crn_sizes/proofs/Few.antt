-- How many blocks the limits leave to a level.
use Prim.Native.Nat.{ℕ, ◌/◌, ◌^◌, ◌≤◌}
use mathlib.Core.Bool.{Bool, true, false}
use native.Mathlib.Omega.{arith}
use native.Mathlib.Nat.{div-le_self, le_trans}
use lib.Dec.{eqb, lit≤}
use Rattle.crn_format.specs.Choice.{pick}
use Rattle.crn_format.specs.Limits.{max_side}
use Rattle.crn_format.specs.Grid.{pixels, blocks}

by_pixels : (b : Bool) (n : ℕ) → n ≤ max_side → blocks (pick b 1 n) ≤ 1024
by_pixels true n h = lit≤ tt
by_pixels false n h = omega arith

pub few : (side level : ℕ) → side ≤ max_side → blocks (pixels side level) ≤ 1024
few side level h = by_pixels (eqb (side / 2 ^ level) 0) (side / 2 ^ level) (le_trans (div-le_self side (2 ^ level)) h)
