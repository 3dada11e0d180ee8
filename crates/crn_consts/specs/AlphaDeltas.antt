-- The deltas of the alpha selectors' symbols (document 01, Palettes): "(s mod 15) - 7 and (s div 15) - 7", each raised by 8 so that it is not
-- negative.
use Rattle.std.specs.Prelude.{ℕ, ◌/◌, ◌%◌, ◌<◌, ◌≡◌, ltb, List}
use Rattle.crn_format.specs.Choice.{pick}
use Rattle.crn_format.specs.Palettes.{raised}
use Rattle.crn_consts.specs.declared.Deltas.{Deltas}
use Rattle.crn_consts.specs.Entries.{Pair}

abbrev pub alpha_deltas : ℕ → Deltas
alpha_deltas s =
    pick (ltb s 225) (record { first = raised 7 (s % 15); second = raised 7 (s / 15) }) (record { first = 0; second = 0 })

-- what is given for symbol s: its deltas, and how far they go
pub record AlphaDeltas (s : ℕ) (r : Deltas) : Type 0 where
  pub rule : r ≡ alpha_deltas s
  pub first : r.first < 16
  pub second : r.second < 16

-- a table has the deltas of every symbol
pub record AllDeltas (table : List ℕ) : Type 0 where
  pub each : (s : ℕ) (r : Deltas) → Pair table s r → AlphaDeltas s r
