-- A level's segment stands in the file.
use Rattle.crn_format.specs.Unpacking.{level_stands}
use Rattle.crn_formats.proofs.Joined.{grouped}
use Rattle.crn_level_checks.proofs.level_stands.Goals as goal

pub returns : goal.returns
unfolding level_stands
returns c = simp (grouped, c.level_start-start.ensures, c.level_end-end.ensures)
