-- A refill adds as many of the next eight bytes as there is room for.
use Prim.Native.Nat.{◌-◌, ◌/◌}
use native.Mathlib.Omega.{arith}
use Rattle.crn_symbol_codec.proofs.Holding.{filled}
use Rattle.crn_symbol_codec.proofs.refill.Goals as goal

pub returns-then-n-seg : goal.returns-then-n-seg
returns-then-n-seg c =
    let a = c.args in
    let h = c.requires in
    filled (7 - a.c.have / 8) h c.eight_bytes.ensures (omega (arith, h.some)) (omega arith) (omega arith) (omega arith)
    (λ q. absurd (omega arith))
