-- Two bytes, the first the highest.
use Rattle.std.proofs.Common.{arith}
use Rattle.crn_format.specs.Header.{field}
use Rattle.crn_utils.proofs.big16.Goals as goal

pub returns : goal.returns
unfolding field
returns c = let e = c.bytes.ensures in (omega (arith, e 0 (omega arith), e 1 (omega arith)), omega arith)
