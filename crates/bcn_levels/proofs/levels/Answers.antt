-- One level after another is put in its place. Assumes nothing.
use Prim.Native.Nat.{◌+◌, ◌*◌, ◌<◌}
use mathlib.Core.Logic.{◌≢◌}
use native.Mathlib.Nat.{le_refl}
use native.Mathlib.Omega.{arith}
use borrow.Author.Rules.{rules}
use lib.ListN.{length}
use lib.Seq.{get_or-set_other}
use Rattle.std.proofs.lemmas.List.Edits.{fill_by_more}
use Rattle.bcn_format.specs.Channels.{byte}
use Rattle.bcn_format.specs.Blocks.{level}
use Rattle.bcn_levels.proofs.Eight.{small, placed-small}
use Rattle.bcn_levels.proofs.levels.Goals as goal

pub loop-level-init : goal.loop-level-init
loop-level-init c = record { placed = λ k h. absurd (omega arith); left = λ k _ h. c.bytes-levels.ensures k h }

pub overflow_mul-level : goal.overflow_mul-level
overflow_mul-level c =
    let is = c.loop-level.invariant.left c.loop-level.level-index (le_refl _) c.loop-level-test.true in
    let low = small c.args.a c.args.b c.loop-level.level-index c.requires.a_in c.requires.b_in c.loop-level-test.true in
    rw is (omega (arith, placed-small _ c.args.scale c.args.more low c.requires.sum_fits))

pub overflow_add-level : goal.overflow_add-level
overflow_add-level c =
    let is = c.loop-level.invariant.left c.loop-level.level-index (le_refl _) c.loop-level-test.true in
    let low = small c.args.a c.args.b c.loop-level.level-index c.requires.a_in c.requires.b_in c.loop-level-test.true in
    rw is (record { fits = placed-small _ c.args.scale c.args.more low c.requires.sum_fits })

pub loop-level-preserved : goal.loop-level-preserved
loop-level-preserved c =
    let at = c.loop-level.level-index in
    let is = c.loop-level.invariant.left at (le_refl _) c.loop-level-test.true in
    let long : at < length c.loop-level.level-items = search rules in
    record {
      placed = rw is (fill_by_more (λ k. byte (level c.args.a c.args.b k) * c.args.scale + c.args.more) _ at 0 long
          c.loop-level.invariant.placed);
      left = λ k h l. let other : k ≢ at = omega arith in rw get_or-set_other (c.loop-level.invariant.left k (omega arith) l);
    }

pub returns : goal.returns
returns c = record { each = λ i h. c.loop-level.invariant.placed i (omega (arith, c.loop-level-test.false)) }
