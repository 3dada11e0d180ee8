-- A number by the bits at hand; where they may be too few, as `crn_symbol_codec::number` reads it.
use native.Mathlib.Omega.{arith}
use Rattle.crn_symbol_codec.specs.Cursors.{place, Enough}
use Rattle.crn_symbol_codec.proofs.Taking.{field-small, number_is, takes-number}
use Rattle.crn_short_draw.proofs.number.Goals as goal

pub overflow_cast-result : goal.overflow_cast-result
overflow_cast-result c =
    let some : Enough c.args.seg.now c.args.c 16 = λ few. omega (arith, c.if-c-lt16.false) in
    omega (arith, number_is c.requires.holds some c.requires.n_in, field-small c.args.seg.now (place c.args.c) c.args.n c.requires.n_in)

pub returns : goal.returns
returns c =
    let some : Enough c.args.seg.now c.args.c 16 = λ few. omega (arith, c.if-c-lt16.false) in
    takes-number c.requires.holds some c.requires.n_in (omega (arith, c.if-c-lt16.false))
