-- Every channel of both ends, by its bits.
use mathlib.Core.Path.{◌≡◌, refl}
use Prim.Native.Nat.{◌+◌, ◌*◌}
use native.Mathlib.Nat.{div-one}
use borrow.Author.Rules.{rules}
use Rattle.bcn_format.specs.Blocks.{red, green, blue}
use Rattle.bcn_colors.specs.Colors.{twice}
use Rattle.bcn_colors.proofs.Colors.{channel}
use Rattle.bcn_colors.proofs.ends.Goals as goal

pub returns : goal.returns
returns c =
    let e : c.from.result + 4294967296 * c.from-2.result ≡ twice c.args.v c.args.w = search rules in
    record {
      reds = channel red 65536 4194304 _ _ refl refl refl (search rules) e c.low_bits.ensures c.low_bits-2.ensures;
      greens = channel green 2097152 1048576 _ _ refl refl refl (search rules) e
          c.low_bits-3.ensures c.low_bits-4.ensures;
      blues = channel blue 134217728 4194304 _ _ refl refl refl (search rules) e
          (rw div-one c.low_bits-5.ensures) c.low_bits-6.ensures;
    }
