-- The rule's three cases, each by the tests that lead to it.
use borrow.Author.Tests.{eq-eqb, ne_eqb, lt-ltb, le-ltb}
use Rattle.crn_format.specs.Palettes.{from_linear}
use Rattle.crn_consts.proofs.from_linear.Goals as goal

pub returns-then-value-eq0 : goal.returns-then-value-eq0
unfolding from_linear
returns-then-value-eq0 c = rw (eq-eqb _ 0 c.if-value-eq0.true)

pub returns-then-value-top : goal.returns-then-value-top
unfolding from_linear
returns-then-value-top c = rw (ne_eqb _ 0 c.if-value-eq0.false, lt-ltb _ _ c.if-value-top.true)

pub returns : goal.returns
unfolding from_linear
returns c = rw (ne_eqb _ 0 c.if-value-eq0.false, le-ltb _ _ c.if-value-top.false)
