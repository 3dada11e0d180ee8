-- A run is refused, or the lengths grow by it.
use Prim.Native.Nat.{◌+◌, ◌≤◌}
use mathlib.Core.Path.{◌≡◌, refl, sym, ◌∙◌}
use native.Mathlib.Omega.{arith}
use borrow.Author.Rules.{rules}
use lib.ListN.{length}
use lib.Seq.{length-take-le}
use Rattle.crn_symbol_codec.specs.Cursors.{place}
use Rattle.crn_static_huffman_data_model.proofs.Room.{fit_none, room-none}
use Rattle.crn_format.proofs.Results.{passed}
use Rattle.crn_code_tables.proofs.Running.{turn_done}
use Rattle.crn_code_tables.proofs.Putting.{none-long, run-one, run_filled}
use Rattle.crn_code_tables.proofs.Growing.{run-refused, run_long, grown_zeros, grown_put}
use Rattle.crn_code_tables.proofs.parts.lengths_by_runs.Goals as goal
use Rattle.crn_code_tables.proofs.parts.lengths_by_runs.Goals.{then-n-eq1, else-n-eq1+then-l-ne0, else-n-eq1+else-l-ne0}

pub loop-done-init : goal.loop-done-init
loop-done-init c =
    let none = c.requires.lengths_zero in
    record {
      long = none-long none;
      within = search rules;
      rest = none;
      holds = search rules;
      short = search rules;
      fits = fit_none _;
      sums = sym (room-none _);
      few = search rules;
      turns = c.args.count;
      enough = search rules;
      blamed = place c.args.c;
      same = λ cl d. refl;
    }

pub returns-in_err-l : goal.returns-in_err-l
returns-in_err-l c =
    rw (passed c.from_residual.ensures.1)
    (run-refused c.loop-done.invariant c.requires.count_in c.loop-done-test.true c.in_err-l.ensures)

pub returns-then-count-done : goal.returns-then-count-done
returns-then-count-done c =
    rw c.fault.ensures
    (run_long c.loop-done.invariant c.requires.count_in c.loop-done-test.true c.in_ok-l.ensures refl c.if-count-done.true)

pub loop-done-preserved : goal.loop-done-preserved
loop-done-preserved c =
    let i = c.loop-done.invariant in
    let most = c.requires.count_in in
    let more = c.loop-done-test.true in
    let fit = c.if-count-done.false in
    let r = c.in_ok-l.ensures in
    let room = c.room_of-room.ensures in
    let within : c.loop-done.done + c.in_ok-l.n ≤ length c.loop-done.lengths = omega (arith, i.long, more, most, fit) in
    elim c.if-n-eq1.branch [
      | then-n-eq1 w ↦
          grown_put i most more r fit room.0 room.1
          (w.lengths-is ∙ run-one c.loop-done.lengths c.loop-done.done c.in_ok-l.n c.in_ok-l.l within w.if-n-eq1.true)
      | else-n-eq1+then-l-ne0 w ↦
          grown_put i most more r fit room.0 room.1
          (run_filled c.loop-done.lengths c.loop-done.done c.in_ok-l.n c.in_ok-l.l _ within (omega arith) (w.fill.ensures.after (λ y h. h))
          w.lengths-is)
      | else-n-eq1+else-l-ne0 w ↦ rw w.lengths-is (grown_zeros i most more r fit room.0 room.1 w.if-l-ne0.false)
    ]

pub returns : goal.returns
returns c =
    let i = c.loop-done.invariant in
    let all : c.loop-done.done ≡ c.args.count = omega arith in
    let l = length-take-le c.loop-done.done c.loop-done.lengths (omega (arith, i.long, c.requires.count_in)) in
    record {
      long = i.long;
      blamed = i.blamed;
      same = λ cl d. rw (← all) (sym (rw (← all) at (i.same cl d)) ∙ turn_done _ _ _ _ _ _ _ (omega arith));
      goes = record { holds = i.holds; rest = rw all at i.rest; fits = rw all at i.fits; is = rw all at i.sums };
    }
