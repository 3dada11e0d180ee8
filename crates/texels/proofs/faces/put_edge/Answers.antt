-- One row after another, as far as the face goes.
use native.Mathlib.Omega.{arith}
use Rattle.bcn_rows.specs.Rows.{row_of}
use Rattle.texels.proofs.Drawing.{part_of, part-first, first-row, next_row, ended}
use Rattle.texels.proofs.faces.put_edge.Goals as goal

pub put_stretch-requires : goal.put_stretch-requires
put_stretch-requires c =
    record { room = c.requires.room; part = part-first c.requires.block c.side_left-columns.ensures c.side_left-rows.ensures }

pub returns-then-rows-lt2 : goal.returns-then-rows-lt2
returns-then-rows-lt2 c =
    let one = first-row c.requires.room c.requires.block c.args.r c.put_stretch.ensures in
    ended c.requires.room c.requires.block c.args.r 1 (omega arith) c.side_left-rows.ensures
    (omega (arith, c.if-rows-lt2.true)) one

pub put_stretch-requires-2 : goal.put_stretch-requires-2
put_stretch-requires-2 c =
    record {
      room = rw c.put_stretch.ensures.long c.requires.room;
      part = part_of c.requires.block
          c.side_left-columns.ensures
          c.side_left-rows.ensures c.if-rows-lt2.false;
    }

pub returns-then-rows-lt3 : goal.returns-then-rows-lt3
unfolding row_of
returns-then-rows-lt3 c =
    let one = first-row c.requires.room c.requires.block c.args.r
    c.put_stretch.ensures in
    let two = next_row c.requires.room c.requires.block c.args.r 1 (omega arith) one c.put_stretch-2.ensures in
    ended c.requires.room c.requires.block c.args.r 2 (omega arith)
    c.side_left-rows.ensures
    (omega (arith, c.if-rows-lt3.true)) two

pub put_stretch-requires-3 : goal.put_stretch-requires-3
put_stretch-requires-3 c =
    record {
      room = rw (
        c.put_stretch-2.ensures.long,
        c.put_stretch.ensures.long,
      ) c.requires.room;
      part = part_of c.requires.block c.side_left-columns.ensures c.side_left-rows.ensures c.if-rows-lt3.false;
    }

pub returns-then-rows-lt4 : goal.returns-then-rows-lt4
unfolding row_of
returns-then-rows-lt4 c =
    let one = first-row c.requires.room c.requires.block c.args.r
    c.put_stretch.ensures in
    let two = next_row c.requires.room c.requires.block c.args.r 1 (omega arith) one
    c.put_stretch-2.ensures in
    let three = next_row c.requires.room c.requires.block c.args.r 2 (omega arith) two c.put_stretch-3.ensures in
    ended c.requires.room c.requires.block c.args.r 3 (omega arith)
    c.side_left-rows.ensures (omega (arith, c.if-rows-lt4.true)) three

pub put_stretch-requires-4 : goal.put_stretch-requires-4
put_stretch-requires-4 c =
    record {
      room = rw (
        c.put_stretch-3.ensures.long,
        c.put_stretch-2.ensures.long,
        c.put_stretch.ensures.long,
      ) c.requires.room;
      part = part_of c.requires.block c.side_left-columns.ensures c.side_left-rows.ensures c.if-rows-lt4.false;
    }

pub returns : goal.returns
unfolding row_of
returns c =
    let one = first-row c.requires.room c.requires.block c.args.r
    c.put_stretch.ensures in
    let two = next_row c.requires.room c.requires.block c.args.r 1 (omega arith) one
    c.put_stretch-2.ensures in
    let three = next_row c.requires.room c.requires.block c.args.r 2 (omega arith) two
    c.put_stretch-3.ensures in
    next_row c.requires.room c.requires.block c.args.r 3 (omega arith) three c.put_stretch-4.ensures
