-- The words of the header, after the magic.
use mathlib.Core.Path.{◌≡◌, ◌∙◌}
use native.Mathlib.Omega.{arith}
use Rattle.picture.specs.Surfaces.{picture_of, surface}
use Rattle.crn_formats.proofs.Limited.{limited}
use Rattle.picture.proofs.Bytes.{distance_so, surface-few}
use Rattle.dds.proofs.Fields.{in_two}
use Rattle.dds.proofs.header.put_header.Goals as goal

pub overflow_cast-linear : goal.overflow_cast-linear
overflow_cast-linear c = omega (
  arith,
  (let it : c.level_sizes-linear.result.distance ≡ surface (picture_of c.args.h) 0 =
      (distance_so c.args.h c.requires.within_limits 0 (limited c.args.h c.requires.within_limits).level c.level_sizes-linear.ensures) in
      it),
  surface-few c.args.h c.requires.within_limits 0,
)

pub returns : goal.returns
returns c =
    c.put_words.ensures
    ∙ in_two c.args.h c.args.dst.now ((let it : c.level_sizes-linear.result.distance ≡ surface (picture_of c.args.h) 0 =
    (distance_so c.args.h c.requires.within_limits 0 (limited c.args.h c.requires.within_limits).level c.level_sizes-linear.ensures) in
    it)) c.letters_of-letters.ensures c.caps_of.ensures
    c.caps2_of.ensures c.put_bytes.ensures
