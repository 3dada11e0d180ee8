-- The next encoding.
use mathlib.Core.Path.{sym}
use native.Mathlib.Omega.{arith}
use Rattle.crn_format.specs.Reading.{budgeted, from_bits}
use Rattle.crn_chunks.specs.Meaning.{source, spending}
use Rattle.crn_format.proofs.Results.{passed}
use Rattle.crn_chunks.proofs.Encoding.{pending-two, pending-one, code_lost, code-far, code_got}
use Rattle.crn_chunks.proofs.next_encoding.Goals as goal

pub returns-then-pending-ge64 : goal.returns-then-pending-ge64
returns-then-pending-ge64 c =
    let a = c.args in
    record {
      same = λ cs k. sym (pending-two (source a.supply.now.seg.now) (cs 0) (spending a.s) a.pending c.if-pending-ge64.true);
      on = (c.requires.holds, omega arith);
    }

pub returns-then-pending-ge8 : goal.returns-then-pending-ge8
returns-then-pending-ge8 c =
    let a = c.args in
    record {
      same = λ cs k.
          sym (pending-one (source a.supply.now.seg.now) (cs 0) (spending a.s) a.pending c.if-pending-ge8.true c.if-pending-ge64.false);
      on = (c.requires.holds, omega arith);
    }

pub returns-in_err-v : goal.returns-in_err-v
returns-in_err-v c =
    let a = c.args in
    let t = c.in_err-v.ensures in
    rw (passed c.from_residual.ensures.1) (record {
      same = λ cs k.
          sym (code_lost (source a.supply.now.seg.now) (cs 0) (spending a.s) a.pending c.if-pending-ge8.false (sym (t.same cs k)));
      on = tt;
    })

pub returns-then-v-ge1024 : goal.returns-then-v-ge1024
unfolding budgeted from_bits
returns-then-v-ge1024 c =
    let a = c.args in
    let t = c.in_ok-v.ensures in
    rw c.blamed.ensures (record {
      same = λ cs k. sym (code-far (source a.supply.now.seg.now) (cs 0) (spending a.s) a.pending c.if-pending-ge8.false (sym (t.same cs k))
          c.if-v-ge1024.true);
      on = tt;
    })

pub returns : goal.returns
returns c =
    let a = c.args in
    let t = c.in_ok-v.ensures in
    record {
      same = λ cs k. sym (code_got (source a.supply.now.seg.now) (cs 0) (spending a.s) a.pending c.if-pending-ge8.false (sym (t.same cs k))
          c.if-v-ge1024.false);
      on = (t.on.0, omega arith);
    }
