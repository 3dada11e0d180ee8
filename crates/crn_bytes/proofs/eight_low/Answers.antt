-- Eight bytes, the first lowest.
use native.Mathlib.Omega.{arith}
use Rattle.crn_bytes.proofs.Bytes.{low-eight}
use Rattle.crn_bytes.proofs.eight_low.Goals as goal

pub returns : goal.returns
returns c =
    let a = c.args in
    omega (arith, low-eight a.s.now a.i, c.from_le_bytes.ensures)
