-- Two pairs, the first the lower.
use native.Mathlib.Omega.{arith}
use Rattle.bcn_blocks.proofs.Laws.{four-little}
use Rattle.bcn_blocks.proofs.halves.quad.Goals as goal

pub returns : goal.returns
returns c = (
  omega (arith, four-little c.args.bytes.now c.args.at, c.from.ensures, c.from-2.ensures, c.pair.ensures.0, c.pair-2.ensures.0),
  omega (arith, c.from.ensures, c.from-2.ensures, c.pair.ensures.1, c.pair-2.ensures.1),
)
