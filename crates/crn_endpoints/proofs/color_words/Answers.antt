use Rattle.std.proofs.Common.{refl, arith, length-append, length-drop}
use Rattle.std.proofs.Math.ListN.{length-set}
use lib.Seq.{length-take-le}
use Rattle.crn_palettes.proofs.Entering.{filling_none, filling_more, filling_failed, filling_front}
use Rattle.crn_endpoints.proofs.Summing.{color-adds, small-six}
use Rattle.crn_endpoints.proofs.color_words.Goals as goal

pub loop-word-init : goal.loop-word-init
loop-word-init c = (filling_none _ _ _ _ _ _ _ _ c.requires.holds, refl)

pub summed-requires : goal.summed-requires
summed-requires c = record {
  holds = c.loop-word.invariant.0.holds;
  seg_long = c.requires.seg_long;
  some_sums = record { sums = _; adds = color-adds _ _ {t = _} (c.requires.code_5.decodes, c.requires.code_6.decodes) };
  as_many = c.loop-word.invariant.1;
}

pub loop-word-preserved : goal.loop-word-preserved
loop-word-preserved c =
    let l = length-take-le _ _ c.requires.count_in in (
      filling_more c.loop-word.invariant.0 (omega (arith, l)) (λ t d b. c.in-Ok.ensures.reads _ (color-adds _ _ d) b)
          (c.requires.code_5.decodes, c.requires.code_6.decodes) refl c.color_word.ensures (omega arith) refl,
      omega arith,
    )

pub returns-in-Err : goal.returns-in-Err
returns-in-Err c =
    let l = length-take-le _ _ c.requires.count_in in
    filling_failed c.loop-word.invariant.0 (omega (arith, l)) (λ t d b. c.in-Err.ensures.reads _ (color-adds _ _ d) b) _ refl
    (simp (length-append, length-set, length-drop) (omega (arith, l)))

pub returns : goal.returns
returns c =
    let l = length-take-le _ _ c.requires.count_in in
    filling_front c.loop-word.invariant.0 (omega (arith, l)) (omega (arith, l)) (omega (arith, l)) refl

pub color_word-requires : goal.color_word-requires
color_word-requires c = small-six _ (omega arith) (c.in-Ok.ensures.keeps)
