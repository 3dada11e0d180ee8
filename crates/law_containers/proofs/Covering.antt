-- Every byte of a surface is one of a block of its level. Assumes nothing.
use Prim.Native.Nat.{ℕ, ◌*◌, ◌-◌}
use mathlib.Core.Path.{◌≡◌, ap}
use mathlib.Core.Bool.{true}
use native.Mathlib.Omega.{arith}
use Rattle.crn_format.specs.Header.{kind_of, block_bytes, within_limits}
use Rattle.crn_format.specs.Grid.{pixels, blocks}
use Rattle.crn_format.specs.Unpacking.{grid_of}
use Rattle.crn_format.specs.declared.Header.{Header}
use Rattle.crn_sizes.specs.Sizes.{level_sizes}
use Rattle.picture.specs.Surfaces.{Plan, place_in, picture_of, surface}
use Rattle.law_containers.specs.Standing.{InSurface, InBlock}
use Rattle.law_containers.proofs.Places.{face-of}
use Rattle.law_containers.proofs.Filling.{pitch_so}

pub in_block : (pl : Plan) (h : Header) → within_limits h ≡ true → (f l i : ℕ) → InSurface pl (picture_of h) f l i → InBlock pl h i
unfolding grid_of surface
in_block pl h limits f l i a =
    let columns = blocks (pixels h.width l) in
    let rows = blocks (pixels h.height l) in
    let bytes = block_bytes (kind_of h.format) in
    let off = i - place_in pl f l in
    let y = face-of (columns * bytes) rows off (omega (arith, a.starts, a.ends)) in
    let x = face-of bytes columns (off - y.face * (columns * bytes)) (omega (arith, y.starts, y.ends)) in
    let e : y.face * (level_sizes h l).pitch ≡ y.face * (columns * bytes) =
    ap (λ (n : ℕ). y.face * n) (pitch_so h limits l a.level) in
    record {
      face = f;
      level = l;
      column = x.face;
      row = y.face;
      byte = off - y.face * (columns * bytes) - x.face * bytes;
      number = a.level;
      block = record { face = a.face; column = x.below; row = y.below };
      small = omega (arith, x.starts, x.ends);
      here = omega (arith, a.starts, y.starts, x.starts);
    }
