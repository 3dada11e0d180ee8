-- Two pairs and a third, the first the lowest.
use native.Mathlib.Omega.{arith}
use Rattle.bcn_blocks.proofs.Laws.{four-little, six-little}
use Rattle.bcn_blocks.proofs.halves.six.Goals as goal

pub returns : goal.returns
returns c =
    let b = c.args.bytes.now in
    omega (arith, four-little b c.args.at, six-little b c.args.at, c.quad.ensures.0, c.from.ensures, c.pair.ensures.0)
