-- The tests in their order, the levels in the region, and then the header.
use borrow.Author.Rules.{rules}
use mathlib.Core.Path.{sym, ap, ◌∙◌}
use Rattle.crn_format.specs.Unpacking.{tables_hold}
use Rattle.crn_formats.specs.Records.{record_lent}
use Rattle.dds.specs.Header.{dds_of}
use Rattle.picture.proofs.Refusals.{no_2, no_6, no_16, no_12}
use Rattle.picture_levels.proofs.Joining.{written_so, stopped_so}
use Rattle.dds.proofs.write_dds.Goals as goal

pub returns-then-not-within_limits : goal.returns-then-not-within_limits
returns-then-not-within_limits c = search (rules, no_2)

pub returns-then-not-tables_hold : goal.returns-then-not-tables_hold
returns-then-not-tables_hold c = search (rules, no_6)

pub returns-then-not-goes_out : goal.returns-then-not-goes_out
returns-then-not-goes_out c = search (rules, no_16)

pub returns-then-dst-total : goal.returns-then-dst-total
returns-then-dst-total c = search (rules, no_12)

pub returns-in-Ok : goal.returns-in-Ok
returns-in-Ok c =
    written_so dds_of (record_lent c.args.header c.args.tables.now) _ _ _ (sym c.if-not-within_limits.ensures)
    (sym (c.if-not-tables_hold.ensures ∙ ap tables_hold c.as_slices-slices.ensures.same)) (sym c.if-not-goes_out.ensures) (cc)
    c.if-dst-total.false _ c.in-Ok.levels c.in-Ok.ensures
    (rw c.put_header.ensures)

pub returns-in-Err : goal.returns-in-Err
returns-in-Err c =
    rw c.into.ensures (stopped_so dds_of (record_lent c.args.header c.args.tables.now) _ _ _ (sym c.if-not-within_limits.ensures)
    (sym (c.if-not-tables_hold.ensures ∙ ap tables_hold c.as_slices-slices.ensures.same)) (sym c.if-not-goes_out.ensures) (cc)
    c.if-dst-total.false _ c.in-Err.e c.in-Err.ensures)
