-- Eight bytes are the number that their 64 bits spell.
use native.Mathlib.Omega.{arith}
use Rattle.crn_bytes.proofs.Bytes.{high-eight}
use Rattle.crn_bytes.proofs.eight_bytes.Goals as goal

pub returns : goal.returns
returns c =
    let a = c.args in
    omega (arith, high-eight a.s.now a.i (λ j. (c.type_inv.s j).fits), c.from_be_bytes.ensures)
