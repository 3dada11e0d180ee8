-- A palette has at most 8,192 entries, and one at least where the format uses it.
use Rattle.crn_formats.proofs.Joined.{at_least_one}
use Rattle.crn_bounds.proofs.entries_fit.Goals as goal

pub returns : goal.returns
returns c = simp (c.implies.ensures, at_least_one)
