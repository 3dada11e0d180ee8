-- An alpha endpoint palette: a table, and then the entries.
use Rattle.std.proofs.Common.{refl, rules}
use Rattle.std.proofs.lemmas.Result.{err_from_is_err_and}
use Rattle.crn_format.specs.Palettes.{alpha_endpoints}
use Rattle.crn_palettes.proofs.Starting.{all_left, fills_left, table-holds, table-rest, table-refused, few_fit}
use Rattle.crn_endpoints.proofs.alpha_read.Goals as goal

pub returns-in_err-n : goal.returns-in_err-n
unfolding alpha_endpoints
returns-in_err-n c =
    let p = err_from_is_err_and c.from_residual.result c.from_residual.ensures.1 in
    rw (p.1, p.2) (table-refused c.in_err-n.ensures refl _ (all_left _ (alpha_endpoints _) _ c.start.ensures.1) refl)

pub alpha_by-requires-clause-tables_fit : goal.alpha_by-requires-clause-tables_fit
alpha_by-requires-clause-tables_fit c =
    (search rules, search rules, search rules, (few_fit _ _ _ c.few.ensures c.if-few.true).0, search rules, search rules)

pub alpha_by-requires-clause-holds : goal.alpha_by-requires-clause-holds
alpha_by-requires-clause-holds c = table-holds c.in_ok-n.ensures refl

pub alpha_by-requires-else-few-clause-holds : goal.alpha_by-requires-else-few-clause-holds
alpha_by-requires-else-few-clause-holds c = table-holds c.in_ok-n.ensures refl

pub returns-then-few : goal.returns-then-few
unfolding alpha_endpoints
returns-then-few c =
    fills_left c.alpha_by.ensures
    (table-rest c.in_ok-n.ensures refl _ (all_left _ (alpha_endpoints _) _ c.start.ensures.1))

pub returns-else-few : goal.returns-else-few
unfolding alpha_endpoints
returns-else-few c =
    fills_left c.alpha_by-else-few.ensures
    (table-rest c.in_ok-n.ensures refl _ (all_left _ (alpha_endpoints _) _ c.start.ensures.1))
