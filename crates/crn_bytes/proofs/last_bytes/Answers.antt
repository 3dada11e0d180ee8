use Prim.Native.Nat.{◌*◌}
use mathlib.Core.Path.{◌≡◌, sym}
use native.Mathlib.Omega.{arith}
use lib.ListN.{length}
use Rattle.crn_bytes.proofs.Bytes.{field_past, byte_more, all-bytes, no_byte, few_bytes}
use Rattle.crn_bytes.proofs.last_bytes.Goals as goal

pub returns-then-i-s : goal.returns-then-i-s
returns-then-i-s c =
    let g = c.args in
    sym (field_past g.s.now (8 * g.i) 64 (omega arith))

pub loop-k-init : goal.loop-k-init
loop-k-init c =
    let g = c.args in
    no_byte g.s.now g.i

pub overflow_mul-w : goal.overflow_mul-w
overflow_mul-w c =
    let g = c.args in
    omega (arith, few_bytes g.s.now g.i c.loop-k.k (omega arith))

pub overflow_add-w : goal.overflow_add-w
overflow_add-w c =
    let g = c.args in
    omega (arith, few_bytes g.s.now g.i c.loop-k.k (omega arith))

pub loop-k-preserved : goal.loop-k-preserved
loop-k-preserved c =
    let g = c.args in
    omega (arith, byte_more g.s.now g.i c.loop-k.k (omega arith) (c.type_inv.s c.loop-k.k).fits)

pub returns : goal.returns
returns c =
    let g = c.args in
    let end : length g.s.now ≡ c.loop-k.k = omega arith in
    rw (end, c.loop-k.invariant) (all-bytes g.s.now g.i c.loop-k.k (omega arith) (omega arith) (omega arith))
