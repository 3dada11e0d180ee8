use Rattle.crn_unpacker.proofs.rows.+leftward_rightward.Given as goal

abbrev pub decreases-leftward : goal.decreases-leftward
decreases-leftward l = l.left

abbrev pub decreases-rightward : goal.decreases-rightward
decreases-rightward l = l.left
