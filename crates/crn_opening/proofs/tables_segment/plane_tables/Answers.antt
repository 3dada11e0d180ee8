-- A plane's two tables, received one after the other.
use Rattle.crn_format.proofs.Results.{passed}
use Rattle.crn_opening.proofs.SentTables.{absent, first-refused, second-refused, both_received}
use Rattle.crn_opening.proofs.tables_segment.plane_tables.Goals as goal

pub returns-then-not-there : goal.returns-then-not-there
returns-then-not-there c = rw c.if-not-there.true (absent c.requires.holds c.requires.both_zero.0 c.requires.both_zero.1)

pub returns-in_err-ends : goal.returns-in_err-ends
returns-in_err-ends c = rw (c.if-not-there.false, passed c.from_residual.ensures.1) (first-refused c.in_err-ends.ensures)

pub returns-in_err-sels : goal.returns-in_err-sels
returns-in_err-sels c =
    rw (c.if-not-there.false, passed c.from_residual-in_err-sels.ensures.1) (second-refused c.in_ok-ends.ensures c.in_err-sels.ensures)

pub returns : goal.returns
returns c = rw c.if-not-there.false (both_received c.in_ok-ends.ensures c.in_ok-sels.ensures)
