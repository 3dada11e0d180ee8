-- Three bytes, the first the highest.
use Rattle.std.proofs.Common.{ℕ, ◌+◌, arith}
use Rattle.crn_format.specs.Header.{field}
use Rattle.crn_utils.proofs.big24.Goals as goal

pub returns : goal.returns
unfolding field
returns c =
    let e = c.bytes.ensures in
    let b = λ (k : ℕ). c.type_inv.s (c.args.at + k) in (
      omega (arith, e 0 (omega arith), e 1 (omega arith), e 2 (omega arith)),
      omega (arith, e 0 (omega arith), e 1 (omega arith), e 2 (omega arith), b 0, b 1, b 2),
    )
