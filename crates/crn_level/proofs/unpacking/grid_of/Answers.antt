-- The level's grid.
use Rattle.crn_format.specs.Unpacking.{grid_of}
use Rattle.crn_level.proofs.unpacking.grid_of.Goals as goal

pub returns : goal.returns
unfolding grid_of
returns c = rw (c.columns_of.ensures.0 0 0, c.rows_of.ensures.0 0 0, c.block_bytes.ensures, c.from.ensures)
