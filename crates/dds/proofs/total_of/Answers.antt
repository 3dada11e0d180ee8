-- The sum and the product are small.
use native.Mathlib.Omega.{arith}
use Rattle.picture.proofs.Bytes.{faces_small}
use Rattle.dds.proofs.total_of.Goals as goal

pub overflow_mul-result : goal.overflow_mul-result
overflow_mul-result c = omega (arith, faces_small c.args.h c.requires.within_limits c.requires.chain_same)

pub overflow_add-result : goal.overflow_add-result
overflow_add-result c = omega (arith, faces_small c.args.h c.requires.within_limits c.requires.chain_same)
