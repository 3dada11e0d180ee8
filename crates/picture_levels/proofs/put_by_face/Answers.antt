use Prim.Native.Nat.{ℕ, ◌+◌, ◌-◌, ◌*◌, ◌≤◌, ◌<◌}
use mathlib.Core.Bool.{true}
use mathlib.Core.Path.{◌≡◌, refl, sym, ap, ◌∙◌}
use native.Mathlib.Omega.{arith}
use borrow.Author.Rules.{rules}
use native.Mathlib.Nat.{sub-zero}
use lib.ListN.{length}
use borrow.Author.Tests.{lt-ltb}
use borrow.Rule.Slice.PartMut.{put_mid, same_len_mid}
use Rattle.crn_format.specs.Header.{within_limits}
use Rattle.crn_format.specs.declared.Header.{Header}
use Rattle.crn_formats.specs.Lent.{lent}
use Rattle.crn_formats.proofs.Limited.{limited}
use Rattle.crn_drawing.specs.Levels.{record_with}
use Rattle.crn_sizes.specs.Sizes.{level_sizes}
use Rattle.crn_sizes.specs.declared.LevelSizes.{LevelSizes}
use Rattle.crn_sizes.proofs.Counts.{most_cutouts, most_symbols, symbols-few}
use Rattle.crn_levels.proofs.Steps.{rest-whole, put_whole}
use Rattle.picture.specs.Surfaces.{picture_of, surface, chain, chain_to, by_face}
use Rattle.picture.specs.Writing.{nothing, put_from}
use Rattle.picture.proofs.Chains.{chain-none}
use Rattle.picture.proofs.Bytes.{distance_so, room_for, chain-after}
use Rattle.picture_levels.proofs.Steps.{on, off, few_cuts, all_in, not_in, none_left}
use Rattle.picture_levels.proofs.put_by_face.Goals as goal

-- of a level that is there: its bytes, the room for it, its symbols
record Here (h : Header) (from distance symbols level n : ℕ) : Type 0 where
  number : level < h.levels
  bytes : distance ≡ surface (picture_of h) level
  room : from + surface (picture_of h) level ≤ n
  few : symbols ≤ most_symbols
  levels : h.levels ≤ 13

here : (h : Header) (head n level : ℕ) {step from : ℕ} {z : LevelSizes} → within_limits h ≡ true → level < h.levels → z ≡ level_sizes h
    level
    → step ≡ chain (picture_of h) → head + h.faces * step ≤ n → from ≡ head + chain_to (picture_of h) level
    → Here h from z.distance z.symbols level n
here h head n level within number is e room place =
    record {
      number = number;
      bytes = distance_so h within level number is;
      room = room_for h within head n e room place number;
      few = symbols-few h level within (lt-ltb _ _ number) is;
      levels = (limited h within).levels;
    }

pub loop-level-init : goal.loop-level-init
loop-level-init c =
    record {
      place = omega (arith, chain-none (picture_of c.args.h));
      long = refl;
      drawn = omega arith;
      cut = omega arith;
      goes = λ t m.
          ap (λ (n : ℕ). put_from n (by_face c.args.head (picture_of c.args.h)) (record_with c.args.h t) c.args.file.now
          (lent c.args.palettes.now)
          0 nothing c.args.dst.now) (sub-zero c.args.h.levels);
    }

pub slice_bounds-unpack_made-count : goal.slice_bounds-unpack_made-count
slice_bounds-unpack_made-count c =
    let w = here c.args.h c.args.head (length c.loop-level.dst) c.loop-level.level c.requires.tabled.made.within
    c.loop-level-test.true
    c.level_sizes-z.ensures c.requires.step_same (omega (arith, c.requires.room, c.loop-level.invariant.long)) c.loop-level.invariant.place
    in
    omega (arith, w.room)

pub slice_bounds-unpack_made-start : goal.slice_bounds-unpack_made-start
slice_bounds-unpack_made-start c =
    let w = here c.args.h c.args.head (length c.loop-level.dst) c.loop-level.level c.requires.tabled.made.within
    c.loop-level-test.true
    c.level_sizes-z.ensures c.requires.step_same (omega (arith, c.requires.room, c.loop-level.invariant.long)) c.loop-level.invariant.place
    in
    omega (arith, w.room)

pub slice_bounds-unpack_made-end : goal.slice_bounds-unpack_made-end
slice_bounds-unpack_made-end c =
    let w = here c.args.h c.args.head (length c.loop-level.dst) c.loop-level.level c.requires.tabled.made.within
    c.loop-level-test.true
    c.level_sizes-z.ensures c.requires.step_same (omega (arith, c.requires.room, c.loop-level.invariant.long)) c.loop-level.invariant.place
    in
    omega (arith, w.room)

pub overflow_sub-symbols : goal.overflow_sub-symbols
overflow_sub-symbols c =
    let spent : c.unpack_made-drawn.new.budget ≤ c.level_sizes-z.result.symbols = omega
    (arith, (c.unpack_made-drawn.ensures c.requires.tabled.of c.requires.tabled.made).spent) in
    omega (arith, spent)

pub overflow_add-symbols : goal.overflow_add-symbols
overflow_add-symbols c =
    let spent : c.unpack_made-drawn.new.budget ≤ c.level_sizes-z.result.symbols = omega
    (arith, (c.unpack_made-drawn.ensures c.requires.tabled.of c.requires.tabled.made).spent) in
    let w = here c.args.h c.args.head (length c.loop-level.dst) c.loop-level.level c.requires.tabled.made.within
    c.loop-level-test.true
    c.level_sizes-z.ensures c.requires.step_same (omega (arith, c.requires.room, c.loop-level.invariant.long)) c.loop-level.invariant.place
    in
    omega (arith, spent, c.loop-level.invariant.drawn, w.few, w.levels, w.number)

pub shape_of-dst-in-Err : goal.shape_of-dst-in-Err
shape_of-dst-in-Err c =
    let kept : length (put_mid c.loop-level.from (length c.loop-level.dst - c.loop-level.from) c.loop-level.dst
    c.unpack_made-drawn.new.dst) ≡
    length c.args.dst.now = same_len_mid c.loop-level.from (length c.loop-level.dst - c.loop-level.from) c.loop-level.dst
    c.unpack_made-drawn.new.dst c.unpack_made-drawn.auto.dst ∙ c.loop-level.invariant.long in
    omega (arith, kept)

pub returns-in-Err : goal.returns-in-Err
returns-in-Err c =
    let kept : length (put_mid c.loop-level.from (length c.loop-level.dst - c.loop-level.from) c.loop-level.dst
    c.unpack_made-drawn.new.dst) ≡
    length c.args.dst.now = same_len_mid c.loop-level.from (length c.loop-level.dst - c.loop-level.from) c.loop-level.dst
    c.unpack_made-drawn.new.dst c.unpack_made-drawn.auto.dst ∙ c.loop-level.invariant.long in
    λ t m.
    not_in c.args.dst.now _ (put_mid c.loop-level.from (length c.loop-level.dst - c.loop-level.from) c.loop-level.dst
    c.unpack_made-drawn.new.dst)
    (sym (off (by_face c.args.head (picture_of c.args.h)) (record_with c.args.h t) _ _ c.loop-level.level _ c.loop-level.dst
    (c.args.h.levels - (c.loop-level.level + 1)) (omega (arith, c.loop-level-test.true)) c.level_sizes-z.ensures
    c.loop-level.invariant.place
    (rest-whole c.loop-level.from c.loop-level.dst) c.requires.step_same (rw c.in-Err.is at (c.unpack_made-drawn.ensures t m))) ∙
    c.loop-level.invariant.goes t m)
    (search rules) kept

pub overflow_add-from : goal.overflow_add-from
overflow_add-from c =
    let w = here c.args.h c.args.head (length c.loop-level.dst) c.loop-level.level c.requires.tabled.made.within
    c.loop-level-test.true
    c.level_sizes-z.ensures c.requires.step_same (omega (arith, c.requires.room, c.loop-level.invariant.long)) c.loop-level.invariant.place
    in
    omega (
      arith,
      c.well_formed.1.1.1.1.1.1.0.0,
      w.room,
      w.bytes,
      c.loop-level.invariant.long,
    )

pub overflow_add-cutouts : goal.overflow_add-cutouts
overflow_add-cutouts c =
    let few : c.in-Ok.unpacked.cutouts ≤ most_cutouts = few_cuts (record_with c.args.h c.requires.tabled.of) _ _ _ _ _ _ _
    (rw c.in-Ok.is at (c.unpack_made-drawn.ensures c.requires.tabled.of c.requires.tabled.made)) in
    let w = here c.args.h c.args.head (length c.loop-level.dst) c.loop-level.level c.requires.tabled.made.within
    c.loop-level-test.true
    c.level_sizes-z.ensures c.requires.step_same (omega (arith, c.requires.room, c.loop-level.invariant.long)) c.loop-level.invariant.place
    in
    omega (arith, few, c.loop-level.invariant.cut, w.number, w.levels)

pub loop-level-preserved : goal.loop-level-preserved
loop-level-preserved c =
    let kept : length (put_mid c.loop-level.from (length c.loop-level.dst - c.loop-level.from) c.loop-level.dst
    c.unpack_made-drawn.new.dst) ≡
    length c.args.dst.now = same_len_mid c.loop-level.from (length c.loop-level.dst - c.loop-level.from) c.loop-level.dst
    c.unpack_made-drawn.new.dst c.unpack_made-drawn.auto.dst ∙ c.loop-level.invariant.long in
    let few : c.in-Ok.unpacked.cutouts ≤ most_cutouts = few_cuts (record_with c.args.h c.requires.tabled.of) _ _ _ _ _ _ _
    (rw c.in-Ok.is at (c.unpack_made-drawn.ensures c.requires.tabled.of c.requires.tabled.made)) in
    let w = here c.args.h c.args.head (length c.loop-level.dst) c.loop-level.level c.requires.tabled.made.within
    c.loop-level-test.true
    c.level_sizes-z.ensures c.requires.step_same (omega (arith, c.requires.room, c.loop-level.invariant.long)) c.loop-level.invariant.place
    in
    record {
      place = omega (arith, c.loop-level.invariant.place, w.bytes, chain-after (picture_of c.args.h) c.loop-level.level);
      long = kept;
      drawn = omega (arith, c.loop-level.invariant.drawn, w.few);
      cut = omega (arith, c.loop-level.invariant.cut, few);
      goes = λ t m.
          sym (on (by_face c.args.head (picture_of c.args.h)) (record_with c.args.h t) _ _ c.loop-level.level _ c.loop-level.dst
          (c.args.h.levels - (c.loop-level.level + 1)) (omega (arith, w.number)) c.level_sizes-z.ensures c.loop-level.invariant.place
          (rest-whole c.loop-level.from c.loop-level.dst) c.requires.step_same (put_whole c.loop-level.from c.loop-level.dst _)
          (rw c.in-Ok.is at (c.unpack_made-drawn.ensures t m)))
          ∙ c.loop-level.invariant.goes t m;
    }

pub shape_of-dst : goal.shape_of-dst
shape_of-dst c = c.loop-level.invariant.long

pub returns : goal.returns
returns c =
    λ t m.
    all_in c.args.dst.now _ (sym (none_left (by_face c.args.head (picture_of c.args.h)) (record_with c.args.h t) _ _
    c.loop-level.level _ c.loop-level.dst
    (omega (arith, c.loop-level-test.false))) ∙ c.loop-level.invariant.goes t m)
