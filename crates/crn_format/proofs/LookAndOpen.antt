-- The header look is the beginning of opening: what it refuses, opening refuses by the same number and leaves the buffers as they were;
-- where it finds a header, that is the file's, within its limits and sizes, and opening goes on with it.
use Prim.Native.Nat.{ℕ, ◌<◌}
use mathlib.Core.Path.{◌≡◌, refl}
use mathlib.Core.Bool.{Bool, true, false}
use mathlib.Core.List.{List}
use native.Mathlib.Omega.{arith}
use Rattle.crn_format.specs.Choice.{pick}
use Rattle.crn_format.specs.Header.{signed, header_of, within_limits, sizes_hold}
use Rattle.crn_format.specs.Look.{found, no, look_at, look_of}
use Rattle.crn_format.specs.Opening.{Palettes, Opening, shut, after_look, opening}
use Rattle.crn_format.specs.declared.Header.{Header}
use Rattle.crn_format.specs.declared.Looked.{Looked}

-- the three tests of both, whatever they answer
abbrev looked : Header → Bool → Bool → Bool → Looked
looked h signed within sized = pick signed (pick within (pick sized (found h) (no 3)) (no 2)) (no 1)

module _ (h : Header) (lent : Palettes) (rest : Opening) where
  abbrev opens : Bool → Bool → Bool → Opening
  opens signed within sized = pick signed (pick within (pick sized rest (shut 3 0 lent)) (shut 2 0 lent)) (shut 1 0 lent)

  refuses : (s w z : Bool) → 0 < (looked h s w z).refusal → opens s w z ≡ shut (looked h s w z).refusal 0 lent
  refuses true true true p = let z : ⊥ = omega arith in absurd z
  refuses true true false p = refl
  refuses true false z p = refl
  refuses false w z p = refl

  goes_on : (s w z : Bool) → (looked h s w z).refusal ≡ 0 → opens s w z ≡ rest
  goes_on true true true e = refl
  goes_on true true false e = let z : ⊥ = omega arith in absurd z
  goes_on true false z e = let z : ⊥ = omega arith in absurd z
  goes_on false w z e = let z : ⊥ = omega arith in absurd z

-- a look that finds a header has passed its checks
passes : (h : Header) (s w z : Bool) → (looked h s w z).refusal ≡ 0 → (looked h s w z ≡ found h) × ((w ≡ true) × (z ≡ true))
passes h true true true e = (refl, (refl, refl))
passes h true true false e = let z : ⊥ = omega arith in absurd z
passes h true false z e = let z : ⊥ = omega arith in absurd z
passes h false w z e = let z : ⊥ = omega arith in absurd z

module _ (file : List ℕ) where
  pub look-passes : (look_of file).refusal ≡ 0
      → (look_of file ≡ found (header_of file)) × ((within_limits (header_of file) ≡ true) × (sizes_hold file (header_of file) ≡ true))
  unfolding look_at
  look-passes e = passes (header_of file) (signed file) (within_limits (header_of file)) (sizes_hold file (header_of file)) e

  module _ (lent : Palettes) where
    pub look_refuses : 0 < (look_of file).refusal → opening file lent ≡ shut (look_of file).refusal 0 lent
    unfolding look_at opening
    look_refuses p =
        refuses (header_of file) lent (after_look file lent (header_of file)) (signed file) (within_limits (header_of file))
        (sizes_hold file (header_of file)) p

    pub look-goes-on : (look_of file).refusal ≡ 0 → opening file lent ≡ after_look file lent (header_of file)
    unfolding look_at opening
    look-goes-on e =
        goes_on (header_of file) lent (after_look file lent (header_of file)) (signed file) (within_limits (header_of file))
        (sizes_hold file (header_of file)) e
