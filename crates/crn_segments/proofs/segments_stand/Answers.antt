-- Every segment that opening reads stands in the file.
use Rattle.crn_format.specs.Opening.{segments_stand}
use Rattle.crn_formats.proofs.Joined.{grouped}
use Rattle.crn_segments.proofs.segments_stand.Goals as goal

pub returns : goal.returns
unfolding segments_stand
returns c = simp grouped (cc)
