-- The tables are made in two arrays, and the chunks are gone over by them.
use mathlib.Core.Path.{refl, ap, ◌∙◌}
use native.Mathlib.Omega.{arith}
use Rattle.crn_format.specs.Header.{has_color, has_alpha}
use Rattle.crn_formats.specs.Records.{record_sliced}
use Rattle.crn_decoders.proofs.Made.{able-kept}
use Rattle.crn_drawing.proofs.ByRecord.{ready_by, fit_by, level_by}
use Rattle.crn_drawing.proofs.drawing.draw_in.Goals as goal

pub draw_chunks-requires : goal.draw_chunks-requires
draw_chunks-requires g c =
    let r = record_sliced c.args.h c.args.tables.now in
    fit_by r _ _ _ _ _ _ _ _ _ c.requires.checked (able-kept c.requires.able (omega arith) (omega arith))
    (ready_by r (c.has_color.ensures ∙ ap has_color c.from-kind.ensures) (c.has_alpha.ensures ∙ ap has_alpha c.from-kind.ensures) refl
    c.make_tables.ensures) c.planes_of.ensures

pub returns : goal.returns
returns g c =
    let r = record_sliced c.args.h c.args.tables.now in
    level_by r _ _ _ _ _ _ _ _ _ c.requires.checked
    (ready_by r (c.has_color.ensures ∙ ap has_color c.from-kind.ensures) (c.has_alpha.ensures ∙ ap has_alpha c.from-kind.ensures) refl
    c.make_tables.ensures) c.planes_of.ensures _ c.draw_chunks.ensures
