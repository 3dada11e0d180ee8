-- A colour endpoint palette: a table for five bits, one for six, and then the entries.
use Rattle.std.proofs.Common.{refl, rules}
use Rattle.std.proofs.lemmas.Result.{err_from_is_err_and}
use Rattle.crn_format.specs.Palettes.{color_endpoints}
use Rattle.crn_palettes.proofs.Starting.{all_left, fills_left, table-holds, table-rest, table-refused, few_fit}
use Rattle.crn_endpoints.proofs.color_read.Goals as goal

pub returns-in_err-n : goal.returns-in_err-n
unfolding color_endpoints
returns-in_err-n c =
    let p = err_from_is_err_and c.from_residual.result c.from_residual.ensures.1 in
    rw (p.1, p.2) (table-refused c.in_err-n.ensures refl _ (all_left _ (color_endpoints _) _ c.start.ensures.1) refl)

pub receive_lengths-requires-2-clause-holds : goal.receive_lengths-requires-2-clause-holds
receive_lengths-requires-2-clause-holds c = table-holds c.in_ok-n.ensures refl

pub returns-in_err-m : goal.returns-in_err-m
unfolding color_endpoints
returns-in_err-m c =
    let p = err_from_is_err_and c.from_residual-in_err-m.result c.from_residual-in_err-m.ensures.1 in
    let l = table-rest c.in_ok-n.ensures refl _ (all_left _ (color_endpoints _) _ c.start.ensures.1) in
    rw (p.1, p.2) (table-refused c.in_err-m.ensures refl _ l refl)

pub color_by-requires-clause-tables_fit : goal.color_by-requires-clause-tables_fit
color_by-requires-clause-tables_fit c =
    let fit = few_fit _ _ _ c.few.ensures c.if-few.true in
    (search rules, search rules, search rules, fit.0, fit.1, search rules, search rules)

pub color_by-requires-clause-holds : goal.color_by-requires-clause-holds
color_by-requires-clause-holds c = table-holds c.in_ok-m.ensures refl

pub color_by-requires-else-few-clause-holds : goal.color_by-requires-else-few-clause-holds
color_by-requires-else-few-clause-holds c = table-holds c.in_ok-m.ensures refl

pub returns-then-few : goal.returns-then-few
unfolding color_endpoints
returns-then-few c =
    let l = table-rest c.in_ok-n.ensures refl _ (all_left _ (color_endpoints _) _ c.start.ensures.1) in
    fills_left c.color_by.ensures (table-rest c.in_ok-m.ensures refl _ l)

pub returns-else-few : goal.returns-else-few
unfolding color_endpoints
returns-else-few c =
    let l = table-rest c.in_ok-n.ensures refl _ (all_left _ (color_endpoints _) _ c.start.ensures.1) in
    fills_left c.color_by-else-few.ensures (table-rest c.in_ok-m.ensures refl _ l)
