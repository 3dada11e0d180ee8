-- The limits and the tables, and then the levels by small or by large tables: of each there is room for five.
use mathlib.Core.Path.{sym, ap, ◌∙◌}
use Rattle.crn_format.specs.Unpacking.{tables_hold}
use Rattle.crn_formats.specs.Records.{tables_sliced, record_lent}
use Rattle.crn_decoders.proofs.Sized.{sized, able_in, fair_by}
use Rattle.crn_levels.proofs.Steps.{none_2, none_6, none_10}
use Rattle.crn_levels.proofs.unpack_levels.Goals as goal

pub returns-then-not-within_limits : goal.returns-then-not-within_limits
returns-then-not-within_limits c =
    none_2 (record_lent c.args.header c.args.tables.now) _ _ _ _ _ (sym c.if-not-within_limits.ensures)
    c.none.ensures

pub returns-then-not-tables_hold : goal.returns-then-not-tables_hold
returns-then-not-tables_hold c =
    none_6 (record_lent c.args.header c.args.tables.now) _ _ _ _ _ (sym c.if-not-within_limits.ensures)
    (sym (c.if-not-tables_hold.ensures ∙ ap tables_hold c.as_slices-slices.ensures.same)) c.none-then-not-tables_hold.ensures

pub returns-then-header-first : goal.returns-then-header-first
returns-then-header-first c =
    none_10 (record_lent c.args.header c.args.tables.now) _ _ _ _ _ (sym c.if-not-within_limits.ensures)
    (sym (c.if-not-tables_hold.ensures ∙ ap tables_hold c.as_slices-slices.ensures.same)) c.if-header-first.true
    c.none-then-header-first.ensures

pub levels_in-requires-clause-all_fair : goal.levels_in-requires-clause-all_fair
levels_in-requires-clause-all_fair c =
    fair_by (tables_sliced c.as_slices-slices.result) c.as_slices-slices.ensures.long (sym c.if-not-tables_hold.ensures)
    (sized _ _ _ c.sizes_for-s.ensures)

pub levels_in-requires-clause-able : goal.levels_in-requires-clause-able
levels_in-requires-clause-able c =
    let z = sized c.as_slices-slices.result.counts _ _ c.sizes_for-s.ensures in able_in 4128 8192 z z.words z.symbols

pub levels_in-requires-then-s-gt288-clause-all_fair : goal.levels_in-requires-then-s-gt288-clause-all_fair
levels_in-requires-then-s-gt288-clause-all_fair c =
    fair_by (tables_sliced c.as_slices-slices.result) c.as_slices-slices.ensures.long (sym c.if-not-tables_hold.ensures)
    (sized _ _ _ c.sizes_for-s.ensures)

pub levels_in-requires-then-s-gt288-clause-able : goal.levels_in-requires-then-s-gt288-clause-able
levels_in-requires-then-s-gt288-clause-able c =
    let z = sized c.as_slices-slices.result.counts _ _ c.sizes_for-s.ensures in
    able_in 2080 1024 z (z.fewer c.if-s-gt1024.false) c.if-s-gt1024.false

pub levels_in-requires-else-s-gt288-clause-all_fair : goal.levels_in-requires-else-s-gt288-clause-all_fair
levels_in-requires-else-s-gt288-clause-all_fair c =
    fair_by (tables_sliced c.as_slices-slices.result) c.as_slices-slices.ensures.long (sym c.if-not-tables_hold.ensures)
    (sized _ _ _ c.sizes_for-s.ensures)

pub levels_in-requires-else-s-gt288-clause-able : goal.levels_in-requires-else-s-gt288-clause-able
levels_in-requires-else-s-gt288-clause-able c =
    able_in 288 1024 (sized c.as_slices-slices.result.counts _ _ c.sizes_for-s.ensures) c.if-s-gt288.false c.if-s-gt1024.false
