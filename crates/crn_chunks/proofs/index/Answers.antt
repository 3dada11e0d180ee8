-- The next index of a palette.
use mathlib.Core.Path.{sym}
use native.Mathlib.Omega.{arith}
use Rattle.crn_format.specs.Reading.{budgeted, from_bits}
use Rattle.crn_chunks.specs.Meaning.{source, spending}
use Rattle.crn_format.proofs.Results.{passed}
use Rattle.crn_chunks.proofs.Indexing.{index_lost, index-far, index-kept, reach_kept}
use Rattle.crn_chunks.proofs.index.Goals as goal

pub returns-in_err-d : goal.returns-in_err-d
returns-in_err-d c =
    let a = c.args in
    let t = c.in_err-d.ensures in
    rw (passed c.from_residual.ensures.1) (record {
      same = λ cs k. sym (index_lost (source a.supply.now.seg.now) (cs a.which) a.size a.inside a.i (spending a.s) (sym (t.same cs k)));
      on = tt;
    })

pub returns-then-inside-size : goal.returns-then-inside-size
unfolding budgeted from_bits
returns-then-inside-size c =
    let a = c.args in
    let t = c.in_ok-d.ensures in
    rw c.blamed.ensures (record {
      same = λ cs k. sym (index-far (source a.supply.now.seg.now) (cs a.which) a.size a.inside a.i (spending a.s) (sym (t.same cs k))
          c.limit-j.ensures c.if-inside-size.true);
      on = tt;
    })

pub returns : goal.returns
returns c =
    let a = c.args in
    let t = c.in_ok-d.ensures in
    record {
      same = λ cs k. sym (index-kept (source a.supply.now.seg.now) (cs a.which) a.size a.inside a.i (spending a.s) (sym (t.same cs k))
          c.limit-j.ensures c.if-inside-size.false);
      on = (
        t.on.0,
        reach_kept a.inside a.size a.i c.in_ok-d.d c.if-inside-size.false c.limit-j.ensures t.on.1
            (omega (arith, c.requires.size_in)),
      );
    }
