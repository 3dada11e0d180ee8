-- By the two tests.
use borrow.Author.Rules.{rules}
use Rattle.picture.proofs.Refusals.{needed_2, needed_16, needed_so}
use Rattle.dds.proofs.dds_bytes.Goals as goal

pub returns-then-not-within_limits : goal.returns-then-not-within_limits
returns-then-not-within_limits c = search (rules, needed_2)

pub returns-then-not-goes_out : goal.returns-then-not-goes_out
returns-then-not-goes_out c = search (rules, needed_16)

pub returns : goal.returns
returns c = search (rules, needed_so)
