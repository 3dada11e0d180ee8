-- The block's sixteen texels, put in their places.
use native.Mathlib.Omega.{arith}
use Rattle.crn_format.specs.Header.{block_bytes}
use Rattle.texels.proofs.Drawing.{agreed, block-there, block-agrees, few}
use Rattle.texels.proofs.faces.block.Goals as goal

pub overflow_mul-y : goal.overflow_mul-y
overflow_mul-y c = omega (arith, few c.requires.room c.requires.block)

pub overflow_add-y : goal.overflow_add-y
overflow_add-y c = omega (arith, few c.requires.room c.requires.block)

pub block_texels-r-requires : goal.block_texels-r-requires
block_texels-r-requires c =
    record {
      kind_known = c.requires.given.kind_known;
      block_in = block-there c.requires.block (block_bytes c.args.kind)
          c.requires.given.all;
    }

pub returns : goal.returns
returns c =
    agreed (λ x' y' at from to. block-agrees c.args.s c.args.x c.args.y
    c.block_texels-r.ensures x' y' from to)
    c.put_block.ensures
