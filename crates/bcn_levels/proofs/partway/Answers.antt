-- The shares of the way, rounded up, are its parts, rounded down. Assumes nothing.
use Rattle.bcn_levels.proofs.Eight.{upward}
use Rattle.bcn_levels.proofs.partway.Goals as goal

pub returns : goal.returns
returns g c =
    upward g.row.TOP c.args.low c.args.high c.args.parts c.requires.top c.requires.low_in c.requires.high_in c.requires.parts_in
