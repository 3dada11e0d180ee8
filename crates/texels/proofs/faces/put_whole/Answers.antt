-- Four rows, one after another.
use native.Mathlib.Omega.{arith}
use Rattle.bcn_rows.specs.Rows.{row_of}
use Rattle.texels.proofs.Drawing.{whole-block, whole_row, whole-first, first-row, next_row}
use Rattle.texels.proofs.faces.put_whole.Goals as goal

pub put_stretch-requires : goal.put_stretch-requires
put_stretch-requires c =
    record { room = c.requires.room; part = whole-first c.args.s c.args.x c.args.y c.requires.x_whole c.requires.y_whole }

pub put_stretch-requires-2 : goal.put_stretch-requires-2
put_stretch-requires-2 c =
    record {
      room = rw c.put_stretch.ensures.long c.requires.room;
      part = whole_row c.args.s c.args.x c.args.y c.requires.x_whole
          c.requires.y_whole 1 (omega arith);
    }

pub put_stretch-requires-3 : goal.put_stretch-requires-3
put_stretch-requires-3 c =
    record {
      room = rw (
        c.put_stretch-2.ensures.long,
        c.put_stretch.ensures.long,
      ) c.requires.room;
      part = whole_row c.args.s c.args.x c.args.y c.requires.x_whole c.requires.y_whole 2 (omega arith);
    }

pub put_stretch-requires-4 : goal.put_stretch-requires-4
put_stretch-requires-4 c =
    record {
      room = rw (
        c.put_stretch-3.ensures.long,
        c.put_stretch-2.ensures.long,
        c.put_stretch.ensures.long,
      ) c.requires.room;
      part = whole_row c.args.s c.args.x c.args.y c.requires.x_whole c.requires.y_whole 3 (omega arith);
    }

pub returns : goal.returns
unfolding row_of
returns c =
    let at = whole-block c.args.s c.args.x c.args.y c.requires.x_whole c.requires.y_whole in
    let one = first-row c.requires.room at c.args.r c.put_stretch.ensures in
    let two = next_row c.requires.room at c.args.r 1 (omega arith) one
    c.put_stretch-2.ensures in
    let three = next_row c.requires.room at c.args.r 2 (omega arith) two
    c.put_stretch-3.ensures in
    next_row c.requires.room at c.args.r 3 (omega arith) three c.put_stretch-4.ensures
