-- Every field of a header is within its limit.
use Rattle.crn_format.specs.Header.{within_limits}
use Rattle.crn_formats.proofs.Joined.{grouped}
use Rattle.crn_bounds.proofs.within_limits.Goals as goal

pub returns : goal.returns
unfolding within_limits
returns c = simp grouped (cc)
