-- By small or by large tables: of each there is room for five.
use mathlib.Core.Path.{ap, ◌∙◌}
use Rattle.crn_format.specs.Unpacking.{tables_hold}
use Rattle.crn_formats.specs.Records.{tables_sliced}
use Rattle.crn_decoders.proofs.Sized.{sized, able_in, fair_by}
use Rattle.picture_levels.proofs.put_levels.Goals as goal

pub put_in-requires-clause-all_fair : goal.put_in-requires-clause-all_fair
put_in-requires-clause-all_fair c =
    fair_by (tables_sliced c.as_slices-slices.result) c.as_slices-slices.ensures.long
    (ap tables_hold c.as_slices-slices.ensures.same ∙ c.requires.tables_hold) (sized _ _ _ c.sizes_for-s.ensures)

pub put_in-requires-clause-able : goal.put_in-requires-clause-able
put_in-requires-clause-able c =
    let z = sized c.as_slices-slices.result.counts _ _ c.sizes_for-s.ensures in able_in 4128 8192 z z.words z.symbols

pub put_in-requires-then-s-gt288-clause-all_fair : goal.put_in-requires-then-s-gt288-clause-all_fair
put_in-requires-then-s-gt288-clause-all_fair c =
    fair_by (tables_sliced c.as_slices-slices.result) c.as_slices-slices.ensures.long
    (ap tables_hold c.as_slices-slices.ensures.same ∙ c.requires.tables_hold) (sized _ _ _ c.sizes_for-s.ensures)

pub put_in-requires-then-s-gt288-clause-able : goal.put_in-requires-then-s-gt288-clause-able
put_in-requires-then-s-gt288-clause-able c =
    let z = sized c.as_slices-slices.result.counts _ _ c.sizes_for-s.ensures in
    able_in 2080 1024 z (z.fewer c.if-s-gt1024.false) c.if-s-gt1024.false

pub put_in-requires-else-s-gt288-clause-all_fair : goal.put_in-requires-else-s-gt288-clause-all_fair
put_in-requires-else-s-gt288-clause-all_fair c =
    fair_by (tables_sliced c.as_slices-slices.result) c.as_slices-slices.ensures.long
    (ap tables_hold c.as_slices-slices.ensures.same ∙ c.requires.tables_hold) (sized _ _ _ c.sizes_for-s.ensures)

pub put_in-requires-else-s-gt288-clause-able : goal.put_in-requires-else-s-gt288-clause-able
put_in-requires-else-s-gt288-clause-able c =
    able_in 288 1024 (sized c.as_slices-slices.result.counts _ _ c.sizes_for-s.ensures) c.if-s-gt288.false c.if-s-gt1024.false
