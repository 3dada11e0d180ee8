-- Two bytes, the first the lower.
use Prim.Native.Nat.{◌+◌}
use native.Mathlib.Omega.{arith}
use Rattle.crn_utils.specs.Little.{little_at}
use Rattle.bcn_blocks.proofs.halves.pair.Goals as goal

pub returns : goal.returns
unfolding little_at
returns c =
    let first = c.type_inv.bytes c.args.at in
    let second = c.type_inv.bytes (c.args.at + 1) in
    (omega (arith, c.from.ensures, c.from-2.ensures), omega (arith, c.from.ensures, c.from-2.ensures, first, second))
