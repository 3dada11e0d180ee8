-- Straight on, or as far as the face goes.
use Prim.Native.Nat.{◌+◌, ◌*◌}
use mathlib.Core.Path.{sym, ◌∙◌}
use lib.Dec.{leb}
use borrow.Author.Tests.{leb-true}
use Rattle.crn_format.proofs.Choices.{both_hold}
use Rattle.texels.proofs.faces.put_block.Goals as goal

pub put_whole-requires : goal.put_whole-requires
put_whole-requires c =
    let sides = both_hold (leb (4 * c.args.x + 4) c.args.s.width) _
    (sym c.lies_within.ensures ∙ c.if-lies_within.true) in
    record { room = c.requires.room; x_whole = leb-true _ _ sides.0; y_whole = leb-true _ _ sides.1 }

pub returns-then-lies_within : goal.returns-then-lies_within
returns-then-lies_within c = c.put_whole.ensures
