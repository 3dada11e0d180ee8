-- Four bytes, the first the lowest.
use Rattle.std.proofs.Common.{zero-add, arith}
use Rattle.crn_utils.specs.Little.{little_at}
use Rattle.crn_utils.proofs.Words.{alike}
use Rattle.crn_utils.proofs.little32.Goals as goal

pub returns : goal.returns
unfolding little_at
returns c = omega (arith, alike c.bytes.result c.args.s.now 4 0 c.args.at (λ k h. rw zero-add (c.bytes.ensures k h)))
