-- The header's and the data's size against the file's length.
use Rattle.crn_format.specs.Header.{sizes_in}
use Rattle.crn_formats.proofs.Joined.{grouped}
use Rattle.crn_bounds.proofs.sizes_hold.Goals as goal

pub returns : goal.returns
unfolding sizes_in
returns c = simp grouped
