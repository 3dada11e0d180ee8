-- The level's bytes of the file.
use Prim.Native.Nat.{◌-◌}
use native.Mathlib.Omega.{arith}
use Rattle.crn_level.proofs.Checks.{Inside, inside, segment-short}
use Rattle.crn_level.proofs.unpacking.segment_of.Goals as goal

pub slice_bounds-result-count : goal.slice_bounds-result-count
slice_bounds-result-count c =
    let i : Inside c.args.file.now c.args.h c.args.level = inside _ _ _ c.requires in omega arith

pub slice_bounds-result-start : goal.slice_bounds-result-start
slice_bounds-result-start c =
    let i : Inside c.args.file.now c.args.h c.args.level = inside _ _ _ c.requires in omega arith

pub slice_bounds-result-end : goal.slice_bounds-result-end
slice_bounds-result-end c =
    let i : Inside c.args.file.now c.args.h c.args.level = inside _ _ _ c.requires in omega arith

pub returns : goal.returns
returns c =
    let i : Inside c.args.file.now c.args.h c.args.level = inside _ _ _ c.requires in (
      rw (c.level_end-end.ensures, c.level_start-start.ensures),
      omega
          (arith, segment-short c.args.file.now c.level_start-start.result (c.level_end-end.result - c.level_start-start.result)),
    )
