-- A plane without endpoints has no words.
use borrow.Author.Tests.{lt-ltb, le-ltb}
use Rattle.crunch_abi.proofs.sizes.where_present.Goals as goal

pub returns-then-endpoints-gt0 : goal.returns-then-endpoints-gt0
returns-then-endpoints-gt0 c = simp (lt-ltb _ _ c.if-endpoints-gt0.true)

pub returns : goal.returns
returns c = simp (le-ltb _ _ c.if-endpoints-gt0.false)
