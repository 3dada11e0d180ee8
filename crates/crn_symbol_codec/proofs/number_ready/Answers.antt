-- A number is the buffer's first bits, or there are too few of them.
use native.Mathlib.Omega.{arith}
use Rattle.crn_symbol_codec.proofs.Taking.{field-small, number_is, takes-number, number-ended}
use Rattle.crn_symbol_codec.specs.Cursors.{place}
use Rattle.crn_symbol_codec.proofs.number_ready.Goals as goal

pub returns-then-c-n : goal.returns-then-c-n
returns-then-c-n c =
    number-ended c.requires.holds c.requires.enough c.requires.n_in (omega arith)

pub overflow_cast-result : goal.overflow_cast-result
overflow_cast-result c =
    omega (
      arith,
      number_is c.requires.holds c.requires.enough c.requires.n_in,
      field-small c.args.seg.now (place c.args.c) c.args.n
          c.requires.n_in,
    )

pub returns : goal.returns
returns c =
    rw c.skip.ensures (takes-number c.requires.holds c.requires.enough c.requires.n_in (omega arith))
