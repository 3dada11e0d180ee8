-- The refusal, or the picture.
use mathlib.Core.Path.{refl, sym}
use native.Mathlib.Omega.{arith}
use lib.ListN.{length}
use Rattle.crn_format.proofs.Numbers.{number-above}
use Rattle.crn_format.proofs.Results.{passed}
use Rattle.texels.proofs.Refusing.{accepted, left_alone, drawn-there}
use Rattle.texels.proofs.texels.Goals as goal

pub returns-in_err-check : goal.returns-in_err-check
returns-in_err-check c =
    rw (passed c.from_residual.ensures.1) (left_alone c.args.blocks.now c.args.dst.now c.in_err-check.ensures (λ e. omega (arith, number-above c.in_err-check.field-0.0)))

pub face-requires : goal.face-requires
face-requires c =
    let none = sym c.in_ok-check.ensures in
    let taken = accepted c.args.format c.args.s (length c.args.blocks.now) (length c.args.dst.now) none in
    rw c.from.ensures (record { room = taken.fits; given = taken.there })

pub returns : goal.returns
returns c = drawn-there c.args.blocks.now c.args.dst.now c.in_ok-check.ensures refl (rw c.from.ensures at c.face.ensures)
