-- What a refusal's number, or an answer by numbers, says of the refusal or the answer: all.
use mathlib.Core.Path.{◌≡◌, refl, sym, ap}
use native.Mathlib.Omega.{arith}
use Rattle.std.specs.Prelude.{⊤, Ok, Err}
use Rattle.std.specs.declared.result.Result.{Result}
use Rattle.crn_format.specs.Refusals.{number_of, number_in}
use Rattle.crn_format.specs.declared.Fault.{Fault}
use Rattle.crn_format.specs.declared.Refusal.{Refusal}
use Rattle.crn_format.proofs.Numbers.{number-one, number-above}

-- no refusal has the number of none
pub some_number : (n : Refusal) → number_of n ≡ 0 → ⊥
some_number n e = omega (arith, number-above n)

pub number_in_tells : (r s : Result ⊤ Refusal) → number_in r ≡ number_in s → r ≡ s
number_in_tells (Ok x) (Ok y) e = refl
number_in_tells (Ok x) (Err n) e = absurd (some_number n (sym e))
number_in_tells (Err m) (Ok y) e = absurd (some_number m e)
number_in_tells (Err m) (Err n) e = ap Err (number-one e)

pub fault_tells : (e f : Fault) → number_of e.refusal ≡ number_of f.refusal → e.at ≡ f.at → e ≡ f
fault_tells e f number at = λ i. record { refusal = number-one number i; at = at i }
