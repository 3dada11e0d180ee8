-- What has to hold where it is wanted.
use Rattle.crn_formats.proofs.Joined.{unless}
use Rattle.crn_formats.proofs.conditions.implies.Goals as goal

pub returns : goal.returns
returns c = unless c.args.wanted c.args.holds
