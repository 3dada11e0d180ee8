-- The code of lengths is received, and then the lengths in it.
use mathlib.Core.Path.{sym, ◌∙◌}
use Rattle.crn_format.proofs.Results.{passed}
use Rattle.crn_code_tables.proofs.Telling.{tells_fault, tells_same}
use Rattle.crn_code_tables.proofs.Receiving.{coded-refused, coded_bad, coded_good}
use Rattle.crn_code_tables.proofs.parts.coded_table.Goals as goal

pub returns-in_err-at : goal.returns-in_err-at
returns-in_err-at c =
    let e = c.in_err-at.ensures in
    rw (passed c.from_residual.ensures.1) (λ b. tells_fault (coded-refused _ _ _ _ (e.same b)))

pub returns-then-not-is_code : goal.returns-then-not-is_code
returns-then-not-is_code c =
    let sent = c.in_ok-at.ensures in
    let bad = sym c.is_code.ensures ∙ c.if-not-is_code.true in
    rw c.fault.ensures (λ b. tells_fault (coded_bad _ _ _ _ (sent.same b) bad))

pub returns : goal.returns
returns c =
    let sent = c.in_ok-at.ensures in
    let good = sym c.is_code.ensures ∙ c.if-not-is_code.false in
    let runs = c.table_by_runs.ensures _ c.build.ensures in
    λ b. tells_same (coded_good _ _ _ _ (sent.same b) good) runs
