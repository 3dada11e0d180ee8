-- Pitch and distance cover the grid.
use Rattle.crn_format.specs.Unpacking.{grid_of}
use Rattle.crn_formats.proofs.Joined.{grouped}
use Rattle.crn_grid.proofs.grid.grid_fits.Goals as goal

pub returns : goal.returns
unfolding grid_of
returns c =
    let a = c.args in
    simp (
      grouped,
      c.row_bytes.ensures a.pitch a.distance,
      c.holds.ensures _ c.checked_mul.ensures,
      c.rows_of.ensures.0 a.pitch a.distance,
    )
