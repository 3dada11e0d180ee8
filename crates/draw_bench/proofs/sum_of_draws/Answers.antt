-- `sum_of_draws` refuses lengths that make no code, and else is `total`.
use Rattle.std.proofs.Common.{◌≤◌, length, sym, ◌∙◌, arith, rules, le-leb}
use borrow.Author.Tests.{lt-leb}
use Rattle.crn_format.proofs.Kraft.{code_fits}
use Rattle.draw_bench.proofs.sum_of_draws.Goals as goal

pub returns-then-lengths-gt8192 : goal.returns-then-lengths-gt8192
returns-then-lengths-gt8192 c = simp (lt-leb _ _ c.if-lengths-gt8192.true)

pub returns-then-not-is_code : goal.returns-then-not-is_code
returns-then-not-is_code c =
    let h : length c.args.lengths.now ≤ 8192 = omega arith in
    simp (le-leb _ _ h, sym c.is_code.ensures ∙ c.if-not-is_code.true)

pub build-requires : goal.build-requires
build-requires c = record {
  lengths_len_bound = (search rules, code_fits _ (sym c.is_code.ensures ∙ c.if-not-is_code.false));
  most_nonzero =
      search rules;
}

pub returns : goal.returns
returns c =
    let h : length c.args.lengths.now ≤ 8192 = omega (arith, c.if-lengths-gt8192.false) in
    simp (le-leb _ _ h, sym c.is_code.ensures ∙ c.if-not-is_code.false) c.total.ensures
