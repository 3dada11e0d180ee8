use Rattle.std.proofs.Common.{◌≡◌, ℕ, ◌*◌, ap, ◌∙◌, arith}
use Rattle.crn_symbol_codec.specs.Taking.{refusal_of}
use Rattle.crn_symbol_codec.proofs.Taking.{takes_at}
use Rattle.crn_symbol_codec.proofs.Serving.{taken-holds}
use Rattle.crn_palettes.proofs.Leaving.{reaches_to, reaches-refused}
use Rattle.crn_selectors.proofs.Changing.{pairs-none, pair-more, pair-failed, pair_bad, pairs_done}
use Rattle.crn_selectors.proofs.Packing.{packed_none}
use Rattle.crn_selectors.proofs.Pairing.{delta_halves, moved-halves, halves_small, values_moved, pairs-moved, pair_fits, pair-packed}
use Rattle.crn_selectors.proofs.next_word.Goals as goal

pub loop-pair-init : goal.loop-pair-init
loop-pair-init g c =
    record { holds = c.requires.holds; eight = c.requires.pairs; packs = packed_none _ _ _; changes = λ t d b. pairs-none _ _ _ _ _ b }

pub returns-in_default : goal.returns-in_default
returns-in_default g c =
    rw (c.refusal.ensures ∙ ap refusal_of c.in_default.is)
    (record {
      reads = λ t d b.
          reaches-refused (pair-failed (c.loop-pair.invariant.changes t d b) c.loop-pair-test.true
          (takes_at c.filled.ensures.stays (c.draw_ready-drawn.ensures.0 t d))
          c.in_default.is c.place.ensures);
      entry = tt;
    })

pub returns-then-PAIRS-s : goal.returns-then-PAIRS-s
returns-then-PAIRS-s g c =
    record {
      reads = λ t d b.
          reaches-refused (pair_bad (c.loop-pair.invariant.changes t d b) c.loop-pair-test.true
          (takes_at c.filled.ensures.stays (c.draw_ready-drawn.ensures.0 t d))
          c.in-Ok.is (c.PAIRS.ensures ∙ g.K.Kind.constants.2) c.if-PAIRS-s.true c.place-then-PAIRS-s.ensures);
      entry = tt;
    }

pub moved-requires-clause-delta_halves : goal.moved-requires-clause-delta_halves
moved-requires-clause-delta_halves g c =
    let p = c.PAIRS.ensures ∙ g.K.Kind.constants.2 in
    delta_halves (c.requires.delta_table _ (rw p at c.if-PAIRS-s.false))

pub overflow_add-word : goal.overflow_add-word
overflow_add-word g c =
    record {
      fits = pair_fits g.K.Kind.alpha c.loop-pair.pairs c.loop-pair.pair-index _ c.loop-pair.invariant.packs
          c.loop-pair-test.true (omega (arith, c.loop-pair.invariant.eight.long))
          (c.from.ensures ∙ c.requires.word_table _ (halves_small g.K.Kind.alpha (moved-halves c.moved.ensures)));
    }

pub loop-pair-preserved : goal.loop-pair-preserved
loop-pair-preserved g c =
    let code = c.requires.some_code in
    let draws = c.draw_ready-drawn.ensures.0 in
    let m = c.moved.ensures in
    let p = c.PAIRS.ensures ∙ g.K.Kind.constants.2 in
    record {
      holds = taken-holds (draws code.code code.decodes) c.in-Ok.is;
      eight = pairs-moved c.loop-pair.pairs c.loop-pair.pair-index m c.loop-pair.invariant.eight;
      packs = pair-packed g.K.Kind.alpha c.loop-pair.pairs c.loop-pair.pair-index _ c.loop-pair.invariant.packs
          c.loop-pair-test.true (omega (arith, c.loop-pair.invariant.eight.long))
          (c.from.ensures ∙ c.requires.word_table _ (halves_small g.K.Kind.alpha (moved-halves m)))
          (ap (λ (n : ℕ). 2 * n) (c.BITS.ensures ∙ g.K.Kind.constants.1));
      changes = λ t d b.
          pair-more (c.loop-pair.invariant.changes t d b) c.loop-pair-test.true
          (takes_at c.filled.ensures.stays (draws t d)) c.in-Ok.is p c.if-PAIRS-s.false
          (values_moved c.loop-pair.pairs c.loop-pair.pair-index m (c.requires.delta_table _ (rw p at c.if-PAIRS-s.false)));
    }

pub returns : goal.returns
returns g c =
    let k : c.loop-pair.pair-index ≡ 8 = omega (arith, c.loop-pair.invariant.packs.within, c.loop-pair.invariant.eight.long) in
    record {
      reads = λ t d b. reaches_to (pairs_done (c.loop-pair.invariant.changes t d b) (omega arith)) c.loop-pair.invariant.holds;
      entry = record {
        eight = c.loop-pair.invariant.eight;
        same = rw k at c.loop-pair.invariant.packs.same;
        small = rw (c.loop-pair.invariant.packs.place, k) at c.loop-pair.invariant.packs.small;
      };
    }
