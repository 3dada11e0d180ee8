-- One store of a row.
use mathlib.Core.Path.{refl}
use native.Mathlib.Omega.{arith}
use Rattle.bcn_rows.specs.Rows.{row_bytes}
use Rattle.bcn_rows.proofs.Laws.{row-length}
use Rattle.texels.proofs.Drawing.{part-ends, stretched, row-texels}
use Rattle.texels.proofs.faces.put_stretch.Goals as goal

pub overflow_mul-y : goal.overflow_mul-y
overflow_mul-y c =
    omega (
      arith,
      part-ends c.requires.room
          c.requires.part,
      c.well_formed.0.0,
    )

pub overflow_add-y : goal.overflow_add-y
overflow_add-y c =
    omega (
      arith,
      part-ends c.requires.room
          c.requires.part,
      c.well_formed.0.0,
    )

pub put_row-requires : goal.put_row-requires
put_row-requires c =
    record {
      n_in = c.requires.part.few;
      room = part-ends c.requires.room
          c.requires.part;
    }

pub returns : goal.returns
returns c =
    stretched c.args.dst.now
    (row_bytes c.args.row
    c.args.columns) c.requires.part refl
    (row-length c.args.row
    c.args.columns c.requires.part.few)
    (part-ends c.requires.room c.requires.part)
    c.put_row.ensures (row-texels c.requires.part
    c.args.row)
