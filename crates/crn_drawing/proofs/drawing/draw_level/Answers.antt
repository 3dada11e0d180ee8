-- The level by small or by large tables: of each there is room for five.
use Rattle.crn_formats.specs.Records.{tables_sliced}
use Rattle.crn_decoders.proofs.Sized.{sized, able_in, fair_by}
use Rattle.crn_drawing.proofs.drawing.draw_level.Goals as goal

pub draw_in-requires-clause-all_fair : goal.draw_in-requires-clause-all_fair
draw_in-requires-clause-all_fair c =
    fair_by (tables_sliced c.args.tables.now) c.requires.long c.requires.checked.tables (sized _ _ _ c.sizes_for-s.ensures)

pub draw_in-requires-clause-able : goal.draw_in-requires-clause-able
draw_in-requires-clause-able c = let z = sized c.args.tables.now.counts _ _ c.sizes_for-s.ensures in able_in 4128 8192 z z.words z.symbols

pub draw_in-requires-then-s-gt288-clause-all_fair : goal.draw_in-requires-then-s-gt288-clause-all_fair
draw_in-requires-then-s-gt288-clause-all_fair c =
    fair_by (tables_sliced c.args.tables.now) c.requires.long c.requires.checked.tables (sized _ _ _ c.sizes_for-s.ensures)

pub draw_in-requires-then-s-gt288-clause-able : goal.draw_in-requires-then-s-gt288-clause-able
draw_in-requires-then-s-gt288-clause-able c = let z = sized c.args.tables.now.counts _ _ c.sizes_for-s.ensures in
    able_in 2080 1024 z (z.fewer c.if-s-gt1024.false) c.if-s-gt1024.false

pub draw_in-requires-else-s-gt288-clause-all_fair : goal.draw_in-requires-else-s-gt288-clause-all_fair
draw_in-requires-else-s-gt288-clause-all_fair c =
    fair_by (tables_sliced c.args.tables.now) c.requires.long c.requires.checked.tables (sized _ _ _ c.sizes_for-s.ensures)

pub draw_in-requires-else-s-gt288-clause-able : goal.draw_in-requires-else-s-gt288-clause-able
draw_in-requires-else-s-gt288-clause-able c =
    able_in 288 1024 (sized c.args.tables.now.counts _ _ c.sizes_for-s.ensures) c.if-s-gt288.false c.if-s-gt1024.false
