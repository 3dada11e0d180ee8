-- Three selector words, each above the one before, and below them an endpoint word.
use Prim.Native.Nat.{◌+◌, ◌*◌, ◌<◌}
use native.Mathlib.Omega.{arith}
use Rattle.crn_blocks.proofs.Words.{alpha_words}
use Rattle.crn_blocks.proofs.alpha_half.Goals as goal

pub returns : goal.returns
returns c =
    let a = c.args in
    let sel = c.type_inv.sels in
    let low : c.from.result < 65536 = omega (arith, sel (3 * a.s)) in
    let middle : c.from-2.result < 65536 = omega (arith, sel (3 * a.s + 1)) in
    let high : c.from-3.result < 65536 = omega (arith, sel (3 * a.s + 2)) in
    let end : c.from-4.result < 65536 = omega (arith, c.type_inv.ends a.e) in
    alpha_words a.ends.now a.sels.now a.e a.s c.from-4.result c.from.result c.from-2.result c.from-3.result _ (omega arith)
    (c.from-4.ensures, end) (c.from.ensures, low) (c.from-2.ensures, middle) c.from-3.ensures
