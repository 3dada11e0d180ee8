-- The chunks are gone over, and by how that ended the answer is the definition's.
use Rattle.crn_blocks.proofs.Places.{room-kept}
use Rattle.crn_drawing.proofs.Drawn.{on-left, stop-left, unpacked-whole, unpacked-none}
use Rattle.crn_drawing.proofs.drawing.draw_chunks.Goals as goal

pub finish-requires : goal.finish-requires
finish-requires c =
    (room-kept c.requires.room c.paint.ensures.long, on-left _ _ _ c.start.ensures.1 _ _ c.requires _ c.paint.ensures _ _ c.in-Ok.is)

pub refuse-requires : goal.refuse-requires
refuse-requires c =
    (room-kept c.requires.room c.paint.ensures.long, stop-left _ _ _ c.start.ensures.1 _ _ c.requires _ c.paint.ensures _ c.in-Err.is)

pub returns-in-Ok : goal.returns-in-Ok
returns-in-Ok c = λ cs coded. unpacked-whole _ _ _ c.start.ensures.1 _ _ c.requires _ c.paint.ensures cs coded _ _ c.in-Ok.is _
    (rw c.from.ensures at c.finish.ensures)

pub returns-in-Err : goal.returns-in-Err
returns-in-Err c = λ cs coded. unpacked-none _ _ _ c.start.ensures.1 _ _ c.requires _ c.paint.ensures cs coded _ _ c.in-Err.is
    c.refuse.ensures
