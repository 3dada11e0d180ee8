-- A symbol by the quick way.
use native.Mathlib.Omega.{arith}
use Rattle.crn_quick.proofs.Stepping.{code-short, found}
use Rattle.crn_quick.proofs.quick_symbol.Goals as goal

pub overflow_sub-cursor : goal.overflow_sub-cursor
overflow_sub-cursor c =
    let t = c.decoder.ensures in
    omega (
      arith,
      code-short c.requires.able.served c.requires.which_in t.lookup t.sorted c.requires.able.holds c.if-c-lt16.false c.entry-e.ensures
          c.if-e-eq0.false,
      c.from-length.ensures,
    )

pub returns : goal.returns
returns c =
    let t = c.decoder.ensures in
    rw (c.from-length.ensures, c.from.ensures) (found c.requires.able.served c.requires.which_in t.lookup t.sorted c.requires.able.holds
    c.if-c-lt16.false c.entry-e.ensures c.if-e-eq0.false (omega (arith, c.entry-e.type_inv)))
