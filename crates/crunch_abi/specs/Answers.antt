-- An answer about a level as one struct, for callers that have no enums.
use Rattle.std.specs.Prelude.{ℕ, ◌≡◌, List, Ok, Err}
use Rattle.crn_format.specs.Refusals.{number_of}
use Rattle.crn_format.specs.Unpacking.{Unpacking}
use Rattle.crn_drawing.specs.Unpacks.{Drawn, Unpacks}
use Rattle.crunch_abi.specs.declared.level.Answer.{Answer}

abbrev pub answer_of : Drawn → Answer
answer_of (Ok u) = record { refusal = 0; at = 0; symbols = u.symbols; cutouts = u.cutouts }
answer_of (Err e) = record { refusal = number_of e.refusal; at = e.at; symbols = e.symbols; cutouts = 0 }

-- a is the answer that the definition gives
pub record Answers (u : Unpacking) (budget left : ℕ) (after : List ℕ) (a : Answer) : Type 0 where
  pub told : Drawn
  pub unpacks : Unpacks u budget left after told
  pub same : a ≡ answer_of told
