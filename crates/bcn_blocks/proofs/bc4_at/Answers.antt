-- The table of the ends, and the selectors.
use Rattle.bcn_blocks.proofs.Laws.{bc4_there}
use Rattle.bcn_blocks.proofs.bc4_at.Goals as goal

pub returns : goal.returns
returns c =
    bc4_there c.args.blocks.now c.args.at
    c.level_half-half.ensures c.levels-reds.ensures c.level_rows.ensures
