-- The checks, and then the level, of the arrays lent as slices.
use mathlib.Core.Path.{ap, ◌∙◌}
use lib.ListN.{length}
use Rattle.crn_format.specs.Unpacking.{tables_hold}
use Rattle.crn_formats.specs.Records.{record_lent, record_sliced}
use Rattle.crn_level.proofs.Checks.{refused-before, stands_so, all-checked, then-level}
use Rattle.crn_level.proofs.unpacking.unpack_level_by.Goals as goal

pub returns-in-Err : goal.returns-in-Err
returns-in-Err c =
    rw c.refused.ensures (refused-before (record_lent c.args.header c.args.tables.now) _ _ _ _ _ _ _
    (c.tables_hold-hold.ensures ∙ ap tables_hold c.as_slices-slices.ensures.same) c.in-Err.ensures)

pub segment_of-requires : goal.segment_of-requires
segment_of-requires c =
    stands_so (record_sliced c.args.header c.as_slices-slices.result) _ _ _ _ _ (length c.args.dst.now) c.tables_hold-hold.ensures
    c.in-Ok.ensures

pub draw_level-requires-clause-checked : goal.draw_level-requires-clause-checked
draw_level-requires-clause-checked c =
    all-checked (record_sliced c.args.header c.as_slices-slices.result) _ _ _ _ _ _ c.tables_hold-hold.ensures c.in-Ok.ensures
    c.segment_of.ensures.1 c.grid_of.ensures

pub returns-in-Ok : goal.returns-in-Ok
returns-in-Ok c =
    then-level (record_lent c.args.header c.args.tables.now) _ _ _ _ _ _ _
    (c.tables_hold-hold.ensures ∙ ap tables_hold c.as_slices-slices.ensures.same) c.in-Ok.ensures
    c.segment_of.ensures.0 c.grid_of.ensures (rw c.as_slices-slices.ensures.same at c.draw_level.ensures)
