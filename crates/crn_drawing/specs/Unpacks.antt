-- What unpacking a level answers, and what is then left of the budget.
use Rattle.std.specs.Prelude.{Ok, Err, ℕ, ◌+◌, ◌≡◌, List}
use Rattle.std.specs.declared.result.Result.{Result}
use Rattle.crn_format.specs.Unpacking.{Unpacking, unpacked, declined}
use Rattle.crn_format.specs.Refusals.{number_of}
use Rattle.crn_drawing.specs.declared.Unpacked.{Unpacked}
use Rattle.crn_drawing.specs.declared.Refused.{Refused}

-- how a level ended: symbols and cut-outs; or the refusal, the symbols drawn, and the bit that it names
abbrev pub Drawn : Type 0
Drawn = Result Unpacked Refused

-- the answer, with the destination, as the definition has it
unfoldable pub answer_of : Drawn → List ℕ → Unpacking
answer_of (Ok u) dst = unpacked u.symbols u.cutouts dst
answer_of (Err e) dst = declined (number_of e.refusal) e.symbols e.at dst

abbrev pub symbols_of : Drawn → ℕ
symbols_of (Ok u) = u.symbols
symbols_of (Err e) = e.symbols

-- r is what the definition answers, `after` is the destination that it leaves, and the budget was counted down by the symbols drawn
pub record Unpacks (u : Unpacking) (budget left : ℕ) (after : List ℕ) (r : Drawn) : Type 0 where
  pub answer : answer_of r after ≡ u
  pub spent : left + symbols_of r ≡ budget
