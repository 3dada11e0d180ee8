-- The checks, and then the chunks, whatever tables the decoder tables are of.
use mathlib.Core.Path.{sym}
use lib.ListN.{length}
use Rattle.crn_drawing.specs.Levels.{record_with}
use Rattle.crn_drawing.proofs.ByRecord.{fit_by, level_by}
use Rattle.crn_level.proofs.Checks.{refused-before, stands_so, all-checked, then-level}
use Rattle.crn_level.proofs.unpacking.unpack_made.Goals as goal

pub returns-in-Err : goal.returns-in-Err
returns-in-Err c =
    λ t m.
    rw c.refused.ensures (refused-before (record_with c.args.header t) _ _ _ _ _ _ _ (sym m.tables) c.in-Err.ensures)

pub segment_of-requires : goal.segment_of-requires
segment_of-requires c =
    stands_so (record_with c.args.header c.requires.of) _ _ _ _ _ (length c.args.dst.now) (sym c.requires.made.tables) c.in-Ok.ensures

pub draw_chunks-requires : goal.draw_chunks-requires
draw_chunks-requires c =
    let m = c.requires.made in
    fit_by (record_with c.args.header c.requires.of) _ _ _ _ _ _ _ _ _
    (all-checked (record_with c.args.header c.requires.of) _ _ _ _ _ _ (sym m.tables) c.in-Ok.ensures c.segment_of.ensures.1
    c.grid_of.ensures) m.able m.coded c.planes_of.ensures

pub returns-in-Ok : goal.returns-in-Ok
returns-in-Ok c =
    λ t m.
    then-level (record_with c.args.header t) _ _ _ _ _ _ _ (sym m.tables) c.in-Ok.ensures c.segment_of.ensures.0 c.grid_of.ensures
    (level_by (record_with c.args.header t) _ _ _ _ _ _ _ _ _
    (all-checked (record_with c.args.header t) _ _ _ _ _ _ (sym m.tables) c.in-Ok.ensures c.segment_of.ensures.1 c.grid_of.ensures)
    m.coded c.planes_of.ensures _ c.draw_chunks.ensures)
