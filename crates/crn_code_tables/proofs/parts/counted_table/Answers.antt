-- The number of lengths of the code of lengths, 1 to 21, and what follows it.
use mathlib.Core.Logic.{inl, inr}
use mathlib.Core.Path.{refl}
use Rattle.crn_code_tables.proofs.Telling.{serves, serves_none, tells_fault, tells_same}
use Rattle.crn_code_tables.proofs.Receiving.{counted-failed, counted_none, counted-many, counted-some}
use Rattle.crn_code_tables.proofs.parts.counted_table.Goals as goal

pub returns-in-Err : goal.returns-in-Err
returns-in-Err c =
    let n = serves_none {d = c.args.c} refl c.in-Err.ensures in
    rw c.fault.ensures (λ b. tells_fault (counted-failed _ b n))

pub returns-then-n-eq0 : goal.returns-then-n-eq0
returns-then-n-eq0 c =
    let n = serves {d = c.args.c} refl c.in-Ok.ensures in
    rw c.fault-then-n-eq0.ensures
    (λ b. tells_fault (elim c.then-n-eq0.either [ inl none ↦ counted_none _ b n none | inr many ↦ counted-many _ b n many.0 many.1 ]))

pub returns : goal.returns
returns c =
    let n = serves {d = c.args.c} refl c.in-Ok.ensures in
    λ b. tells_same (counted-some _ b n c.if-n-eq0.false c.if-n-gt21.false) (c.coded_table.ensures _)
