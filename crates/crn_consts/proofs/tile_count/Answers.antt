-- How many tiles an encoding has: the table is the definition's list.
use Rattle.std.proofs.Common.{arith}
use Rattle.crn_format.specs.Level.{tile_counts}
use Rattle.crn_consts.proofs.Table.{below}
use Rattle.crn_consts.proofs.tile_count.Goals as goal

pub returns : goal.returns
unfolding tile_counts
returns c = (c.entry.ensures.value, omega (arith, below 5 c.entry.ensures tt))
