-- The next encoding by the quick way.
use mathlib.Core.Path.{sym}
use native.Mathlib.Omega.{arith}
use Rattle.crn_chunks.specs.Meaning.{source, spending}
use Rattle.crn_chunks.proofs.Encoding.{pending-two, pending-one}
use Rattle.crn_quick.proofs.Stepping.{found-code}
use Rattle.crn_quick.proofs.quick_code.Goals as goal

pub returns-then-pending-ge64 : goal.returns-then-pending-ge64
returns-then-pending-ge64 c =
    let a = c.args in
    record {
      same = record {
        same = λ cs k. sym (pending-two (source a.supply.now.seg.now) (cs 0) (spending a.s) a.pending c.if-pending-ge64.true);
        on = (c.requires.ready.holds, omega arith);
      };
      few = omega arith;
    }

pub returns-then-pending-ge8 : goal.returns-then-pending-ge8
returns-then-pending-ge8 c =
    let a = c.args in
    record {
      same = record {
        same = λ cs k.
            sym (pending-one (source a.supply.now.seg.now) (cs 0) (spending a.s) a.pending c.if-pending-ge8.true c.if-pending-ge64.false);
        on = (c.requires.ready.holds, omega arith);
      };
      few = omega arith;
    }

pub returns : goal.returns
returns c = record {
  same = found-code c.in-Some.ensures c.filled-d.ensures.stays c.args.pending c.if-pending-ge8.false c.if-v-ge1024.false
      c.requires.some_left c.place.ensures;
  few = omega arith;
}
