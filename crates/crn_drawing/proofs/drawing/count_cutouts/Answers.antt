-- Cut-outs are counted for DXT1 alone.
use Rattle.crn_format.specs.Unpacking.{cutout_count}
use Rattle.crn_drawing.proofs.Formats.{no-cutouts}
use Rattle.crn_drawing.proofs.drawing.count_cutouts.Goals as goal

pub returns-in-DXT1 : goal.returns-in-DXT1
unfolding cutout_count
returns-in-DXT1 c = rw c.in-DXT1.is c.cutouts.ensures

pub returns-in_default : goal.returns-in_default
returns-in_default c = no-cutouts _ _ c.args.kind c.in_default.not-DXT1
