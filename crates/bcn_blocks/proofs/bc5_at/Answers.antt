-- Two halves of levels, added.
use Rattle.bcn_blocks.proofs.Laws.{bc5_addable, bc5_there}
use Rattle.bcn_blocks.proofs.bc5_at.Goals as goal

pub added_rows-requires : goal.added_rows-requires
added_rows-requires c =
    bc5_addable c.args.blocks.now
    c.args.at
    c.level_half-red.ensures
    c.level_half-green.ensures c.levels-reds.ensures
    c.levels-greens.ensures
    c.level_rows.ensures c.level_rows-2.ensures

pub returns : goal.returns
returns c =
    bc5_there c.args.blocks.now
    c.args.at
    c.level_half-red.ensures
    c.level_half-green.ensures
    c.levels-reds.ensures
    c.levels-greens.ensures
    c.level_rows.ensures c.level_rows-2.ensures c.added_rows.ensures
