-- What putting the levels into their places answers, and leaves there.
use Rattle.std.specs.Prelude.{ℕ, ◌≡◌, List, Ok, Err}
use Rattle.std.specs.declared.result.Result.{Result}
use Rattle.crn_format.specs.Opening.{zeros}
use Rattle.crn_format.specs.Refusals.{number_of}
use Rattle.picture.specs.Writing.{Sums, Stop, Put, put, stopped}
use Rattle.picture_levels.specs.declared.Put.{Put as LevelsPut}
use Rattle.picture_levels.specs.declared.NotPut.{NotPut}

-- the symbols and cut-outs of the levels that went through
abbrev pub sums_of : LevelsPut → Sums
sums_of p = record { symbols = p.symbols; cutouts = p.cutouts }

-- a level's refusal in numbers
abbrev pub stop_of : NotPut → Stop
stop_of e = record { refusal = number_of e.refusal; level = e.level; bit = e.at; symbols = e.symbols }

-- the answer and the output are as the definition has them; where a level is refused, all of the output is zero
unfoldable pub Puts : Put → List ℕ → List ℕ → Result LevelsPut NotPut → Type 0
Puts (put t d) before after (Ok p) = (sums_of p ≡ t) × (after ≡ d)
Puts (put t d) before after (Err e) = ⊥
Puts (stopped s) before after (Ok p) = ⊥
Puts (stopped s) before after (Err e) = (stop_of e ≡ s) × (after ≡ zeros before)
