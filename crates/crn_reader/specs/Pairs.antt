-- What reading a number and then a symbol answers.
use Rattle.std.specs.Prelude.{ℕ, List, Ok, Err}
use Rattle.std.specs.declared.result.Result.{Result}
use Rattle.crn_format.specs.Reading.{Reading, answer, number, draw, Step, got, Place, spot}
use Rattle.crn_format.specs.declared.Fault.{Fault}
use Rattle.crn_format.specs.declared.Refusal.{Refusal}
use Rattle.crn_symbol_codec.specs.Telling.{fault}
use Rattle.crn_reader.specs.declared.Pair.{Pair}

-- a number of n bits, and then a symbol of the code with the lengths ls
abbrev pub pair : ℕ → List ℕ → Reading (ℕ × ℕ)
pair n ls = number n λ v. draw ls λ y. answer (v, y)

-- an answer, as a step over the segment's bits from the first on
abbrev pub step_of : Result Pair Fault → Step Place (ℕ × ℕ)
step_of (Ok p) = got (p.number, p.symbol) (spot p.at 0)
step_of (Err e) = fault e

-- a refusal that names the bit p
abbrev pub fault_at : Refusal → ℕ → Fault
fault_at n p = record { refusal = n; at = p }
