-- The room of n codes of one length, which is a power of two for each.
use Prim.Native.Nat.{◌-◌}
use native.Mathlib.Nat.{mul-le-mul_left}
use native.Mathlib.Omega.{arith}
use lib.Pow.{shl_exact, pow_mono}
use borrow.Author.Rules.{rules}
use borrow.Author.Tests.{eq-eqb, ne_eqb}
use Rattle.crn_code_tables.proofs.parts.room_of.Goals as goal

pub returns-then-l-eq0 : goal.returns-then-l-eq0
returns-then-l-eq0 c = (simp (eq-eqb _ _ c.if-l-eq0.true) (omega arith), search rules)

pub returns : goal.returns
returns c =
    let l = c.args.l in
    let n = c.args.n in
    let e = shl_exact {a = n} 14 (16 - l) 32 (omega arith) (omega arith) in
    let p = pow_mono {i = 16 - l} {j = 15} (omega arith) in
    (simp (ne_eqb _ _ c.if-l-eq0.false) e, omega (arith, e, mul-le-mul_left n p))
