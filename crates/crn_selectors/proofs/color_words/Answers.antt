use Rattle.std.proofs.Common.{ℕ, [], ◌∷◌, false, refl, sym, ap, arith, length-append, length-drop}
use Rattle.std.proofs.Math.ListN.{length-set}
use lib.Seq.{length-take-le}
use Rattle.std.proofs.lemmas.Result.{err_from_is_err_and}
use Rattle.crn_format.specs.Palettes.{color_selector_words}
use Rattle.crn_palettes.proofs.Entering.{filling_none, filling_more, filling_failed, filling_front}
use Rattle.crn_selectors.specs.Selectors.{values_of}
use Rattle.crn_selectors.proofs.Pairing.{pairs-zero}
use Rattle.crn_selectors.proofs.color_words.Goals as goal

pub loop-word-init : goal.loop-word-init
loop-word-init c = (filling_none _ _ _ _ _ _ _ _ c.requires.holds, pairs-zero false)

pub loop-word-preserved : goal.loop-word-preserved
unfolding color_selector_words
loop-word-preserved c =
    let l = length-take-le _ _ c.requires.count_in in (
      filling_more c.loop-word.invariant.0 (omega (arith, l)) (λ t d b. c.in_ok-bits.ensures.reads t d b) c.requires.some_code.decodes refl
          (ap (λ (p : ℕ). p ∷ []) (sym c.in_ok-bits.ensures.entry.same)) (omega arith) refl,
      c.in_ok-bits.ensures.entry.eight,
    )

pub returns-in_err-bits : goal.returns-in_err-bits
unfolding values_of
returns-in_err-bits c =
    let l = length-take-le _ _ c.requires.count_in in
    let p = err_from_is_err_and c.from_residual.result c.from_residual.ensures.1 in
    rw (p.1, p.2)
    (filling_failed c.loop-word.invariant.0 (omega (arith, l)) (λ t d b. c.in_err-bits.ensures.reads t d b) _ refl
    (simp (length-append, length-set, length-drop) (omega (arith, l))))

pub returns : goal.returns
unfolding values_of
returns c =
    let l = length-take-le _ _ c.requires.count_in in
    filling_front c.loop-word.invariant.0 (omega (arith, l)) (omega (arith, l)) (omega (arith, l)) refl
