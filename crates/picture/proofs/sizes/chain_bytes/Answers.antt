use mathlib.Core.Path.{sym}
use native.Mathlib.Omega.{arith}
use Rattle.picture.specs.Surfaces.{picture_of}
use Rattle.picture.proofs.Chains.{chain-none}
use Rattle.picture.proofs.Bytes.{distance_so, chain-after, sum-small}
use Rattle.picture.proofs.sizes.chain_bytes.Goals as goal

pub loop-level-init : goal.loop-level-init
loop-level-init c = sym (chain-none (picture_of c.args.h))

pub overflow_add-sum : goal.overflow_add-sum
overflow_add-sum c =
    omega (
      arith,
      distance_so c.args.h c.requires c.loop-level.level c.loop-level-test.true c.level_sizes-sum.ensures,
      sum-small c.args.h c.requires c.loop-level.level c.loop-level-test.true,
    )

pub loop-level-preserved : goal.loop-level-preserved
loop-level-preserved c =
    omega (
      arith,
      distance_so c.args.h c.requires c.loop-level.level c.loop-level-test.true c.level_sizes-sum.ensures,
      chain-after (picture_of c.args.h) c.loop-level.level,
    )
