-- No refusal has the number 0, by which an answer in numbers says that there is none, and no two have the same.
use Prim.Native.Nat.{ℕ, ◌<◌}
use mathlib.Core.Path.{◌≡◌, refl, sym, ap, ◌∙◌}
use mathlib.Core.Bool.{false}
use native.Mathlib.Omega.{arith}
use lib.Dec.{eqb}
use Rattle.crn_format.specs.Choice.{pick}
use Rattle.crn_format.specs.Refusals.{number_of}
use Rattle.crn_format.specs.declared.Refusal.{Refusal}
use Rattle.crn_format.specs.declared.Refusal.TheVariants.{NotSigned, BeyondLimits, WrongSizes, NoSegment, ShortPalettes, NoCode, NoSymbol, Ended, NoSelector, NoLevel, WrongGrid, NoRoom, NoEncoding, NoEntry, OutOfBudget, NotWritten, Disagrees, ShortPitch, FewBlocks}

pub number-some : (r : Refusal) → eqb (number_of r) 0 ≡ false
number-some NotSigned = refl
number-some BeyondLimits = refl
number-some WrongSizes = refl
number-some NoSegment = refl
number-some ShortPalettes = refl
number-some NoCode = refl
number-some NoSymbol = refl
number-some Ended = refl
number-some NoSelector = refl
number-some NoLevel = refl
number-some WrongGrid = refl
number-some NoRoom = refl
number-some NoEncoding = refl
number-some NoEntry = refl
number-some OutOfBudget = refl
number-some NotWritten = refl
number-some Disagrees = refl
number-some ShortPitch = refl
number-some FewBlocks = refl

pub number-above : (r : Refusal) → 0 < number_of r
number-above NotSigned = omega arith
number-above BeyondLimits = omega arith
number-above WrongSizes = omega arith
number-above NoSegment = omega arith
number-above ShortPalettes = omega arith
number-above NoCode = omega arith
number-above NoSymbol = omega arith
number-above Ended = omega arith
number-above NoSelector = omega arith
number-above NoLevel = omega arith
number-above WrongGrid = omega arith
number-above NoRoom = omega arith
number-above NoEncoding = omega arith
number-above NoEntry = omega arith
number-above OutOfBudget = omega arith
number-above NotWritten = omega arith
number-above Disagrees = omega arith
number-above ShortPitch = omega arith
number-above FewBlocks = omega arith

-- ---- a number has one refusal

-- the refusal of a number
unfoldable back : ℕ → Refusal
back n =
    pick (eqb n 1) NotSigned (
    pick (eqb n 2) BeyondLimits (
    pick (eqb n 3) WrongSizes (
    pick (eqb n 4) NoSegment (
    pick (eqb n 5) ShortPalettes (
    pick (eqb n 6) NoCode (
    pick (eqb n 7) NoSymbol (
    pick (eqb n 8) Ended (
    pick (eqb n 9) NoSelector (
    pick (eqb n 10) NoLevel (
    pick (eqb n 11) WrongGrid (
    pick (eqb n 12) NoRoom (
    pick (eqb n 13) NoEncoding (
    pick (eqb n 14) NoEntry (
    pick (eqb n 15) OutOfBudget (
    pick (eqb n 16) NotWritten (
    pick (eqb n 17) Disagrees (
    pick (eqb n 18) ShortPitch (
    FewBlocks))))))))))))))))))

back-number : (r : Refusal) → back (number_of r) ≡ r
unfolding back
back-number NotSigned = refl
back-number BeyondLimits = refl
back-number WrongSizes = refl
back-number NoSegment = refl
back-number ShortPalettes = refl
back-number NoCode = refl
back-number NoSymbol = refl
back-number Ended = refl
back-number NoSelector = refl
back-number NoLevel = refl
back-number WrongGrid = refl
back-number NoRoom = refl
back-number NoEncoding = refl
back-number NoEntry = refl
back-number OutOfBudget = refl
back-number NotWritten = refl
back-number Disagrees = refl
back-number ShortPitch = refl
back-number FewBlocks = refl

pub number-one : {a b : Refusal} → number_of a ≡ number_of b → a ≡ b
number-one {a} {b} e = sym (back-number a) ∙ ap back e ∙ back-number b
