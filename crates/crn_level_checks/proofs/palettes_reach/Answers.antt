-- The palettes that the format uses are long enough.
use Rattle.crn_format.specs.Unpacking.{palettes_reach}
use Rattle.crn_formats.proofs.Joined.{grouped}
use Rattle.crn_level_checks.proofs.palettes_reach.Goals as goal

pub returns : goal.returns
unfolding palettes_reach
returns c = simp grouped (cc)
