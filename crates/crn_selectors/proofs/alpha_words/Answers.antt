use Rattle.std.proofs.Common.{◌≡◌, ◌+◌, ◌*◌, true, refl, sym, ap, arith}
use Rattle.std.proofs.lemmas.Result.{err_from_is_err_and}
use Rattle.crn_format.specs.Palettes.{three_words, alpha_selector_words}
use Rattle.crn_palettes.proofs.Entering.{filling_none, filling_more, filling_failed, filling_done}
use Rattle.crn_selectors.specs.Selectors.{values_of}
use Rattle.crn_selectors.proofs.Pairing.{pairs-zero}
use Rattle.crn_selectors.proofs.alpha_words.Goals as goal

pub loop-i-init : goal.loop-i-init
loop-i-init c = (filling_none _ _ _ _ _ _ _ _ c.requires.holds, pairs-zero true)

pub loop-i-preserved : goal.loop-i-preserved
unfolding alpha_selector_words
loop-i-preserved c =
    let k : 3 * (c.loop-i.i + 1) ≡ 3 * c.loop-i.i + 3 = omega arith in (
      rw k (filling_more c.loop-i.invariant.0 c.loop-i-test.true (λ t d b. c.in_ok-bits.ensures.reads t d b) c.requires.some_code.decodes
          refl (ap three_words (sym c.in_ok-bits.ensures.entry.same)) (omega arith) c.put_three.ensures),
      c.in_ok-bits.ensures.entry.eight,
    )

pub returns-in_err-bits : goal.returns-in_err-bits
unfolding values_of
returns-in_err-bits c =
    let p = err_from_is_err_and c.from_residual.result c.from_residual.ensures.1 in
    rw (p.1, p.2)
    (filling_failed c.loop-i.invariant.0 c.loop-i-test.true (λ t d b. c.in_err-bits.ensures.reads t d b) _ refl c.loop-i.auto.out)

pub returns : goal.returns
unfolding values_of
returns c = filling_done c.loop-i.invariant.0 c.loop-i-test.false
