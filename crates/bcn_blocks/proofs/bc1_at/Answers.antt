-- The palette of the words, and the selectors.
use Rattle.bcn_blocks.proofs.Laws.{bc1_there}
use Rattle.bcn_blocks.proofs.bc1_at.Goals as goal

pub returns : goal.returns
returns c =
    bc1_there c.args.blocks.now c.args.at
    c.color_half-half.ensures c.palette-table.ensures c.color_rows.ensures
