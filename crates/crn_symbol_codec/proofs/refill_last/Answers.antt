-- A refill at the segment's end adds all the bytes that are left, or as many as there is room for.
use Prim.Native.Nat.{◌-◌, ◌/◌}
use native.Mathlib.Omega.{arith}
use lib.ListN.{length}
use Rattle.crn_symbol_codec.proofs.Holding.{filled}
use Rattle.crn_symbol_codec.proofs.refill_last.Goals as goal

pub returns-then-left-room : goal.returns-then-left-room
returns-then-left-room c =
    let a = c.args in
    let h = c.requires.holds in
    let l = length a.seg.now - a.c.next in
    filled l h c.last_bytes.ensures (omega arith) (omega arith)
    (omega (arith, h.some)) (omega (arith, h.within)) (λ q. omega (arith, h.within))

pub returns : goal.returns
returns c =
    let a = c.args in
    let h = c.requires.holds in
    let l = 7 - a.c.have / 8 in
    filled l h c.last_bytes.ensures (omega arith) (omega arith)
    (omega (arith, h.some)) (omega (arith, h.within)) (λ q. absurd (omega (arith, h.some)))
