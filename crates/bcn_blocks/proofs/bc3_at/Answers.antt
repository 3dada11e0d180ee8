-- Colours, and levels as alpha.
use Rattle.bcn_blocks.proofs.Laws.{bc3_addable, bc3-there}
use Rattle.bcn_blocks.proofs.bc3_at.Goals as goal

pub added_rows-requires : goal.added_rows-requires
added_rows-requires c =
    bc3_addable c.args.blocks.now
    c.args.at
    c.color_half-color.ensures
    c.level_half-level.ensures
    c.four_colors-colors.ensures c.levels-alphas.ensures
    c.color_rows.ensures c.level_rows.ensures

pub returns : goal.returns
returns c =
    bc3-there c.args.blocks.now
    c.args.at
    c.color_half-color.ensures
    c.level_half-level.ensures
    c.four_colors-colors.ensures
    c.levels-alphas.ensures c.color_rows.ensures
    c.level_rows.ensures c.added_rows.ensures
