-- One level more, or its refusal, from how far it has come.
use Prim.Native.Nat.{◌+◌, ◌-◌}
use mathlib.Core.Path.{◌≡◌, refl, sym, ap, ◌∙◌}
use native.Mathlib.Omega.{arith}
use lib.ListN.{length, length-drop}
use borrow.Rule.Slice.PartMut.{same_len_mid}
use Rattle.crn_formats.specs.Lent.{lent}
use Rattle.crn_drawing.specs.Levels.{record_with}
use Rattle.crn_levels.specs.Several.{Far, several_from}
use Rattle.crn_levels.proofs.Steps.{far, at_first, moved, rest-whole, put_whole, went, on, off, from_start, all-through}
use Rattle.crn_levels.proofs.levels_by.Goals as goal

pub loop-level-init : goal.loop-level-init
loop-level-init c = record {
  within = omega arith;
  place = omega arith;
  long = refl;
  left = omega arith;
  cut = omega arith;
  goes = λ t m. ap
      (λ (f : Far). several_from (c.args.h.levels - c.args.first) (record_with c.args.h t) c.args.file.now (lent c.args.palettes.now) f
      c.args.dst.now) (at_first c.args.first c.args.budget.now);
}

pub overflow_sub-all : goal.overflow_sub-all
overflow_sub-all c = omega (arith, (c.in-Err.ensures c.requires.of c.requires.made).spent)

pub returns-in-Err : goal.returns-in-Err
returns-in-Err c =
    λ t m.
    from_start (c.loop-level.invariant.goes t m) c.stopped.ensures
    (off (record_with c.args.h t) _ _ (far c.args.first c.loop-level.level c.loop-level.from c.args.budget.now c.loop-level.budget
    c.loop-level.cutouts) c.loop-level.dst (c.args.h.levels - (c.loop-level.level + 1))
    (omega (arith, c.loop-level-test.true)) c.level_sizes-z.ensures (rest-whole c.loop-level.from c.loop-level.dst)
    (omega (arith, c.loop-level.invariant.left)) (put_whole c.loop-level.from c.loop-level.dst _) (c.in-Err.ensures t m))

pub overflow_add-from : goal.overflow_add-from
overflow_add-from c =
    let w = went (record_with c.args.h c.requires.of) _ _ _ _ _ c.level_sizes-z.ensures (c.in-Ok.ensures c.requires.of c.requires.made) in
    omega (
      arith,
      w.0,
      ap length (rest-whole c.loop-level.from c.loop-level.dst),
      length-drop c.loop-level.from c.loop-level.dst,
      c.well_formed.1.1.1.1.1.1.0.0,
    )

pub overflow_add-cutouts : goal.overflow_add-cutouts
overflow_add-cutouts c =
    let w = went (record_with c.args.h c.requires.of) _ _ _ _ _ c.level_sizes-z.ensures (c.in-Ok.ensures c.requires.of c.requires.made) in
    omega (arith, w.1, c.loop-level.auto.level, c.loop-level.invariant.cut, c.loop-level-test.true)

pub loop-level-preserved : goal.loop-level-preserved
loop-level-preserved c =
    let o = c.in-Ok.ensures c.requires.of c.requires.made in
    let w = went (record_with c.args.h c.requires.of) _ _ _ _ _ c.level_sizes-z.ensures o in
    let long = same_len_mid c.loop-level.from (length c.loop-level.dst - c.loop-level.from) c.loop-level.dst c.unpack_made.new.dst
    c.unpack_made.auto.dst in record {
      within = omega (arith, c.loop-level-test.true);
      place = omega (
        arith,
        w.0,
        long,
        c.loop-level.invariant.place,
        ap length (rest-whole c.loop-level.from c.loop-level.dst),
        length-drop c.loop-level.from c.loop-level.dst,
      );
      long = long ∙ c.loop-level.invariant.long;
      left = omega (arith, o.spent, c.loop-level.invariant.left);
      cut = omega (arith, w.1);
      goes = λ t m.
          sym (on (record_with c.args.h t) _ _ (far c.args.first c.loop-level.level c.loop-level.from c.args.budget.now
          c.loop-level.budget c.loop-level.cutouts) c.loop-level.dst (c.args.h.levels - (c.loop-level.level + 1))
          (omega (arith, c.loop-level-test.true)) c.level_sizes-z.ensures (rest-whole c.loop-level.from c.loop-level.dst)
          (moved c.args.first c.loop-level.level c.loop-level.from c.args.budget.now c.loop-level.cutouts _ _ _
          c.loop-level.auto.level c.loop-level.invariant.left o.spent) (put_whole c.loop-level.from c.loop-level.dst _)
          (c.in-Ok.ensures t m))
          ∙ c.loop-level.invariant.goes t m;
    }

pub returns : goal.returns
returns c =
    let passed : c.saturating_sub.result ≡ c.loop-level.level - c.args.first =
    omega (arith, c.saturating_sub.ensures, c.loop-level-test.false, c.loop-level.invariant.within)
    in
    λ t m.
    from_start (c.loop-level.invariant.goes t m) (λ i. record {
      refusal = 0;
      at = 0;
      levels = passed i;
      symbols = c.args.budget.now - c.loop-level.budget;
      cutouts = c.loop-level.cutouts;
    })
    (all-through (record_with c.args.h t) _ _ (far c.args.first c.loop-level.level c.loop-level.from c.args.budget.now c.loop-level.budget
    c.loop-level.cutouts) c.loop-level.dst (omega (arith, c.loop-level-test.false)))
