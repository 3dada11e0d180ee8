-- The products of narrow numbers are small.
use Prim.Native.Nat.{ℕ, ◌*◌, ◌/◌, ◌^◌, ◌<◌, ◌≤◌}
use native.Mathlib.Omega.{arith}
use native.Mathlib.Nat.{mul-le-mul}
use Rattle.crn_sizes.proofs.sizes_by.Goals as goal

bytes-few : (faces rows columns bytes : ℕ) → faces < 2 ^ 8 → rows < 2 ^ 16 → columns < 2 ^ 16 → bytes < 2 ^ 8
    → faces * (rows * (columns * bytes)) ≤ 256 * (65536 * (65536 * 256))
bytes-few faces rows columns bytes f r c b =
    let row : columns * bytes ≤ 65536 * 256 = mul-le-mul {n₂ = 65536} {m₂ = 256} (omega arith) (omega arith) in
    let face : rows * (columns * bytes) ≤ 65536 * (65536 * 256) = mul-le-mul {n₂ = 65536} (omega arith) row in
    mul-le-mul {n₂ = 256} (omega arith) face

record Chunks (faces rows columns bytes : ℕ) : Type 0 where
  all : faces * (rows * columns) ≤ 256 * (65536 * 65536)
  symbols : faces * (rows * columns) * (bytes / 8) ≤ 256 * (65536 * 65536) * 256

chunks-few : (faces rows columns bytes : ℕ) → faces < 2 ^ 8 → rows ≤ 65536 → columns ≤ 65536 → bytes < 2 ^ 8 → Chunks faces rows columns bytes
chunks-few faces rows columns bytes f r c b =
    let all : faces * (rows * columns) ≤ 256 * (65536 * 65536) = mul-le-mul {n₂ = 256} (omega arith) (mul-le-mul {n₂ = 65536} {m₂ = 65536} r c)
    in
    record { all = all; symbols = mul-le-mul {m₂ = 256} all (omega arith) }

pub overflow_mul-result : goal.overflow_mul-result
overflow_mul-result c =
    let few = bytes-few c.from-10.result c.from-3.result c.from.result c.from-2.result (omega arith) (omega arith) (omega arith) (omega arith) in
    omega arith

pub overflow_mul-result-2 : goal.overflow_mul-result-2
overflow_mul-result-2 c =
    let few = chunks-few c.from-4.result c.div_ceil.result c.div_ceil-2.result c.from-11.result (omega arith) (omega arith) (omega arith)
    (omega arith) in
    omega arith

pub overflow_mul-result-3 : goal.overflow_mul-result-3
overflow_mul-result-3 c =
    let few = chunks-few c.from-4.result c.div_ceil.result c.div_ceil-2.result c.from-11.result (omega arith) (omega arith) (omega arith)
    (omega arith) in
    omega arith

pub overflow_add-result : goal.overflow_add-result
overflow_add-result c =
    let few = chunks-few c.from-4.result c.div_ceil.result c.div_ceil-2.result c.from-11.result (omega arith) (omega arith) (omega arith)
    (omega arith) in
    omega arith
