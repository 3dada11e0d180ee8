-- The lengths, run by run; the room that their codes take tells whether they make a code.
use mathlib.Core.Logic.{inl, inr}
use native.Mathlib.Omega.{arith}
use Rattle.crn_symbol_codec.specs.Cursors.{place}
use Rattle.crn_format.proofs.Results.{passed}
use Rattle.crn_code_tables.proofs.Telling.{tells_fault}
use Rattle.crn_code_tables.proofs.Putting.{table-whole}
use Rattle.crn_code_tables.proofs.Growing.{all-refused, all_none, all_large, all_good}
use Rattle.crn_code_tables.proofs.parts.table_by_runs.Goals as goal

pub returns-in_err-room : goal.returns-in_err-room
returns-in_err-room c =
    let e = c.in_err-room.ensures in
    rw (passed c.from_residual.ensures.1) (λ cl d. tells_fault (all-refused e cl d))

pub returns-then-room-eq0 : goal.returns-then-room-eq0
returns-then-room-eq0 c =
    let ran = c.in_ok-room.ensures in
    let most = c.requires.count_in in
    rw c.fault.ensures
    (λ cl d.
    tells_fault (elim c.then-room-eq0.either [ inl none ↦ all_none ran most none cl d | inr large ↦ all_large ran most large.1 cl d ]))

pub returns : goal.returns
returns c =
    let ran = c.in_ok-room.ensures in
    let most = c.requires.count_in in
    λ cl d.
    record {
      blamed = place c.in_ok-room.at;
      same = all_good ran most c.if-room-eq0.false c.if-room-gt65536.false cl d;
      goes = record { holds = ran.goes.holds; whole = table-whole _ _ (omega (arith, ran.long)) ran.goes.rest };
    }
