-- The tiles and positions of a chunk by the quick way.
use Prim.Native.Nat.{ℕ, ◌-◌}
use mathlib.Core.Bool.{true}
use mathlib.Core.Path.{ap}
use native.Mathlib.Omega.{arith}
use Rattle.crn_quick.specs.Quick.{each}
use Rattle.crn_quick.proofs.Joining.{both_read}
use Rattle.crn_quick.proofs.quick_chunk.Goals as goal

pub quick_positions-requires-clause-able : goal.quick_positions-requires-clause-able
quick_positions-requires-clause-able c = record {
  served = c.requires.served;
  holds =
      (c.in_ok-d.ensures 0 (each c.args.supply.now.planes.two c.args.n) 0 (omega arith)).tiled.on.0;
}

pub place-requires : goal.place-requires
place-requires c = (
  ((c.in_ok-e.ensures true true).picked 0 (each c.args.supply.now.planes.two 4) 0 (omega arith)).on.0,
  c.requires.seg_long,
)

pub overflow_sub-stream : goal.overflow_sub-stream
overflow_sub-stream c = omega (arith, c.place.ensures, (c.in_ok-e.ensures true true).passed)

pub returns : goal.returns
returns c =
    λ right bottom. both_read c.args.supply.now.planes right bottom c.args.r c.args.s c.in_ok-d.ensures (c.in_ok-e.ensures right bottom)
    c.quick_positions.auto.out c.requires.enough_left.0 c.requires.enough_left.1
    (ap (λ (p : ℕ). p - c.in_ok-e.length) c.place.ensures) (ap (λ (x : ℕ). c.args.s.left - x) c.each-drawn.ensures.0)
