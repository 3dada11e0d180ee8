-- The mode of four colours, with no alpha.
use Rattle.bcn_colors.proofs.Colors.{none}
use Rattle.bcn_colors.proofs.four_colors.Goals as goal

pub returns : goal.returns
returns c = c.table.ensures _ none
