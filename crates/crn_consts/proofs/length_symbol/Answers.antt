-- The order of the length symbols: the table is the definition's list.
use Rattle.crn_format.specs.Tables.{length_order}
use Rattle.crn_consts.proofs.Table.{below}
use Rattle.crn_consts.proofs.length_symbol.Goals as goal

pub returns : goal.returns
unfolding length_order
returns c = (c.entry.ensures.value, below 21 c.entry.ensures tt)
