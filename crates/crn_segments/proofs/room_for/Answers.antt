-- The lent palettes that are filled are long enough.
use Rattle.crn_format.specs.Opening.{room_for}
use Rattle.crn_segments.proofs.room_for.Goals as goal

pub returns : goal.returns
unfolding room_for
returns c = cc
