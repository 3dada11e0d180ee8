-- One block after another.
use native.Mathlib.Omega.{arith}
use Rattle.texels.proofs.Drawing.{skipped, block_more, line-whole}
use Rattle.texels.proofs.faces.line.Goals as goal

pub overflow_add-columns : goal.overflow_add-columns
overflow_add-columns c = omega (arith, c.requires.room.few_columns)

pub loop-x-init : goal.loop-x-init
loop-x-init c = skipped _ (λ x y at from to. omega arith)

pub block-requires : goal.block-requires
block-requires c =
    record {
      room = rw c.loop-x.invariant.long c.requires.room;
      block = record { column = c.loop-x-test.true; row = c.requires.y_in };
      given = c.requires.given;
    }

pub loop-x-preserved : goal.loop-x-preserved
loop-x-preserved c = block_more c.requires.room.narrow c.loop-x.x c.args.y c.loop-x.invariant c.block.ensures

pub shape_of-dst : goal.shape_of-dst
shape_of-dst c = c.loop-x.invariant.long

pub returns : goal.returns
returns c =
    line-whole c.args.y _ (omega (arith, c.loop-x.auto.x-end, c.loop-x-test.false)) c.loop-x.invariant
