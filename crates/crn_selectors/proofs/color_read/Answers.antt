-- A colour selector palette: a table, and then the entries.
use Rattle.std.proofs.Common.{refl, rules}
use Rattle.std.proofs.lemmas.Result.{err_from_is_err_and}
use Rattle.crn_format.specs.Palettes.{color_selectors}
use Rattle.crn_palettes.proofs.Starting.{all_left, fills_left, table-holds, table-rest, table-refused, few_fit}
use Rattle.crn_selectors.proofs.color_read.Goals as goal

pub returns-in_err-n : goal.returns-in_err-n
unfolding color_selectors
returns-in_err-n c =
    let p = err_from_is_err_and c.from_residual.result c.from_residual.ensures.1 in
    rw (p.1, p.2) (table-refused c.in_err-n.ensures refl _ (all_left _ (color_selectors _) _ c.start.ensures.1) refl)

pub color_by-requires-clause-tables_fit : goal.color_by-requires-clause-tables_fit
color_by-requires-clause-tables_fit c =
    (search rules, search rules, search rules, (few_fit _ _ _ c.few.ensures c.if-few.true).0, search rules, search rules)

pub color_by-requires-clause-holds : goal.color_by-requires-clause-holds
color_by-requires-clause-holds c = table-holds c.in_ok-n.ensures refl

pub color_by-requires-else-few-clause-holds : goal.color_by-requires-else-few-clause-holds
color_by-requires-else-few-clause-holds c = table-holds c.in_ok-n.ensures refl

pub returns-then-few : goal.returns-then-few
unfolding color_selectors
returns-then-few c =
    fills_left c.color_by.ensures (table-rest c.in_ok-n.ensures refl _ (all_left _ (color_selectors _) _ c.start.ensures.1))

pub returns-else-few : goal.returns-else-few
unfolding color_selectors
returns-else-few c =
    fills_left c.color_by-else-few.ensures (table-rest c.in_ok-n.ensures refl _ (all_left _ (color_selectors _) _ c.start.ensures.1))
