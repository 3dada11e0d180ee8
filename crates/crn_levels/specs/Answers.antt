-- The answers of a call that a refusal ends.
use Rattle.std.specs.Prelude.{ℕ}
use Rattle.crn_format.specs.Refusals.{number_of}
use Rattle.crn_drawing.specs.declared.Refused.{Refused}
use Rattle.crn_levels.specs.declared.Several.{Several}

-- a level was refused so, after so many that went through
abbrev pub stopped_by : Refused → ℕ → ℕ → ℕ → Several
stopped_by e levels symbols cutouts =
    record { refusal = number_of e.refusal; at = e.at; levels = levels; symbols = symbols; cutouts = cutouts }

-- before the first draw
abbrev pub none_by : ℕ → Several
none_by refusal = record { refusal = refusal; at = 0; levels = 0; symbols = 0; cutouts = 0 }
