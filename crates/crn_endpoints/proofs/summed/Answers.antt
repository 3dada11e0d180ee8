use Rattle.std.proofs.Common.{◌<◌, ◌≢◌, length, refl, arith, get_or-set_other, get_or-set_same, below_more}
use Rattle.std.proofs.lemmas.Result.{err_from_is_err_and}
use Rattle.crn_palettes.proofs.Leaving.{reaches_to, reaches-refused}
use Rattle.crn_endpoints.proofs.Summing.{low_bits, sums_none, adds_at, sum_more, sum-failed, sums_done}
use Rattle.crn_endpoints.proofs.summed.Goals as goal

pub loop-i-init : goal.loop-i-init
loop-i-init c = record { holds = c.requires.holds; kept = λ k h. absurd (omega arith); sums = λ ms a b. sums_none _ _ _ _ b }

pub draw_at-requires-clause-holds : goal.draw_at-requires-clause-holds
draw_at-requires-clause-holds c = c.loop-i.invariant.holds

pub draw_at-requires-clause-usable : goal.draw_at-requires-clause-usable
draw_at-requires-clause-usable c = (adds_at c.loop-i.i _ c.requires.some_sums.adds c.loop-i-test.true).adds.decodes.usable

pub returns-in_err-delta : goal.returns-in_err-delta
returns-in_err-delta c =
    let p = err_from_is_err_and c.from_residual.result c.from_residual.ensures.1 in
    rw (p.1, p.2)
    (record {
      reads = λ ms a b.
          let x = adds_at c.loop-i.i _ a c.loop-i-test.true in
          reaches-refused (sum-failed (c.loop-i.invariant.sums ms a b) x (c.in_err-delta.ensures.takes _ x.adds.decodes)
          (c.in_err-delta.ensures.names _ refl));
      keeps = tt;
    })

pub loop-i-preserved : goal.loop-i-preserved
loop-i-preserved c =
    let l : c.loop-i.i < length c.loop-i.values = omega arith in
    let some = adds_at c.loop-i.i _ c.requires.some_sums.adds c.loop-i-test.true in
    record {
      holds = (c.in_ok-delta.ensures.takes _ some.adds.decodes).holds;
      kept = below_more _ _
          (λ k h x. let ne : k ≢ c.loop-i.i = omega arith in rw get_or-set_other (c.loop-i.invariant.kept k h x))
          (λ x. rw (get_or-set_same c.loop-i.values c.loop-i.i _ 0 l) (low_bits _ _ _ x _ c.loop-i-test.true));
      sums = λ ms a b.
          let y = adds_at c.loop-i.i _ a c.loop-i-test.true in
          sum_more (c.loop-i.invariant.sums ms a b) y (c.in_ok-delta.ensures.takes _ y.adds.decodes);
    }

pub returns : goal.returns
returns c = record {
  reads = λ ms a b. reaches_to (sums_done (c.loop-i.invariant.sums ms a b) _ a c.loop-i-test.false) c.loop-i.invariant.holds;
  keeps = λ i x h. c.loop-i.invariant.kept i (omega arith) x;
}
