-- The checks before the first draw of a level, in their order.
use Rattle.std.specs.Prelude.{ℕ, Bool, List, leb, ltb, Err}
use Rattle.crn_format.specs.Choice.{pick}
use Rattle.crn_format.specs.Header.{within_limits}
use Rattle.crn_format.specs.Opening.{Palettes}
use Rattle.crn_format.specs.Unpacking.{level_stands, palettes_reach, grid_of, grid_fits, reach}
use Rattle.crn_format.specs.declared.Header.{Header}
use Rattle.crn_format.specs.declared.Refusal.{Refusal}
use Rattle.crn_drawing.specs.Unpacks.{Drawn}

-- the refusal of seven tests, 0 where each holds
unfoldable pub first_failed : Bool → Bool → Bool → Bool → Bool → Bool → Bool → ℕ
first_failed limits tables number stands palettes grid room =
    pick limits (pick tables (pick number (pick stands (pick palettes (pick grid (pick room 0 12) 11) 5) 4) 10) 6) 2

-- that of a level with n bytes lent for it, by whether the tables hold
abbrev pub refusal_by : Header → Bool → List ℕ → Palettes → ℕ → ℕ → ℕ → ℕ → ℕ
refusal_by h tables file p level pitch distance n =
    first_failed (within_limits h) tables (ltb level h.levels) (level_stands file h level) (palettes_reach h p)
    (grid_fits (grid_of h level pitch distance)) (leb (reach (grid_of h level pitch distance)) n)

-- a refusal before the first draw
abbrev pub refused : Refusal → Drawn
refused n = Err (record { refusal = n; symbols = 0; at = 0 })
