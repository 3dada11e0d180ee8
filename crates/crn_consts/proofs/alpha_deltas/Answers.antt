-- Two entries of a table that has all pairs, one after the other.
use Rattle.crn_consts.proofs.alpha_deltas.Goals as goal

pub returns : goal.returns
returns c = c.requires.each _ _ (record { value = cc (c.entry.ensures.value, c.entry-2.ensures.value) })
