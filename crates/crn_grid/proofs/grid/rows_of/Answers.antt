-- The blocks along the height.
use Rattle.crn_format.specs.Unpacking.{grid_of}
use Rattle.crn_grid.proofs.grid.rows_of.Goals as goal

pub returns : goal.returns
unfolding grid_of
returns c = ((λ pitch distance. c.blocks_of.ensures.0), c.blocks_of.ensures.1)
