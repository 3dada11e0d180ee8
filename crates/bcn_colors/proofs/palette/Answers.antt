-- The mode by the words' order.
use lib.Dec.{ltb}
use Rattle.bcn_colors.proofs.Colors.{full}
use Rattle.bcn_colors.proofs.palette.Goals as goal

pub returns : goal.returns
returns c = c.table.ensures _ (full (ltb c.args.w c.args.v))
