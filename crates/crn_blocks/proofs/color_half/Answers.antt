-- An endpoint word and a selector word, the one above the other.
use Prim.Native.Nat.{◌*◌, ◌%◌, ◌<◌}
use mathlib.Core.Path.{◌≡◌}
use native.Mathlib.Omega.{arith}
use Rattle.crn_blocks.proofs.Words.{color_words}
use Rattle.crn_blocks.proofs.color_half.Goals as goal

pub returns : goal.returns
returns c =
    let a = c.args in
    let end = c.from.result in
    let sel = c.from-2.result in
    let few : end < 4294967296 = omega (arith, c.type_inv.ends a.e) in
    let whole : sel * 4294967296 % 18446744073709551616 ≡ 4294967296 * sel = omega (arith, c.type_inv.sels a.s) in
    rw whole (color_words a.ends.now a.sels.now a.e a.s end sel c.from.ensures few c.from-2.ensures)
