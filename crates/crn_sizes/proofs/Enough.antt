-- The sizes that a host is told are enough: a level's pitch, distance and bytes are refused by neither 11 nor 12.
use Prim.Native.Nat.{ℕ, zero, suc, ◌+◌, ◌*◌, ◌-◌, ◌%◌, ◌≤◌}
use mathlib.Core.Path.{◌≡◌, sym, ap, ◌∙◌}
use mathlib.Core.Bool.{true}
use native.Mathlib.Omega.{arith}
use native.Mathlib.Nat.{le_refl, suc-mul, mul_assoc, mul_comm, mul-mod_left, zero-mul, mul-zero}
use lib.Dec.{ltb}
use borrow.Author.Tests.{le-leb, eq-eqb}
use Rattle.crn_format.specs.Header.{within_limits}
use Rattle.crn_format.specs.Unpacking.{grid_fits, reach}
use Rattle.crn_format.specs.declared.Header.{Header}
use Rattle.crn_sizes.specs.Sizes.{close, close_sizes, level_sizes}

-- of a level that is there
pub sizes_so : (h : Header) (n : ℕ) → within_limits h ≡ true → ltb n h.levels ≡ true → level_sizes h n ≡ close_sizes h n
unfolding level_sizes
sizes_so h n a b = simp (a, b)

-- whose blocks are of so many times four bytes

fours : (n q : ℕ) → n * (4 * q) % 4 ≡ 0
fours n q = ap (λ (x : ℕ). x % 4) (ap (λ (x : ℕ). n * x) (mul_comm 4 q) ∙ sym (mul_assoc n q 4)) ∙ mul-mod_left (n * q) 4

pub grid-fits : (faces columns rows q : ℕ) → grid_fits (close faces columns rows (4 * q)) ≡ true
grid-fits faces columns rows q =
    let pitch : columns * (4 * q) % 4 ≡ 0 = fours columns q in
    let distance : rows * (columns * (4 * q)) % 4 ≡ 0 = ap (λ (x : ℕ). x % 4) (sym (mul_assoc rows columns (4 * q))) ∙ fours
    (rows * columns) q in
    simp (
      eq-eqb (columns * (4 * q) % 4) 0 pitch,
      eq-eqb (rows * (columns * (4 * q)) % 4) 0 distance,
      le-leb (columns * (4 * q)) (columns * (4 * q)) (le_refl _),
      le-leb (rows * (columns * (4 * q))) (rows * (columns * (4 * q))) (le_refl _),
    )

less_one : (n : ℕ) → suc n - 1 ≡ n
less_one n = omega arith

summed : (faces rows pitch : ℕ) → faces * (suc rows * pitch) + rows * pitch + pitch ≡ suc faces * (suc rows * pitch)
summed faces rows pitch = omega (arith, suc-mul rows pitch, suc-mul faces (suc rows * pitch))

-- of one face and one row at least
pub bytes-reach : (faces columns rows bytes : ℕ)
    → reach (close (suc faces) columns (suc rows) bytes) ≡ suc faces * (suc rows * (columns * bytes))
bytes-reach faces columns rows bytes =
    ap (λ (x : ℕ). x * (suc rows * (columns * bytes)) + (suc rows - 1) * (columns * bytes) + columns * bytes) (less_one faces)
    ∙ ap (λ (x : ℕ). faces * (suc rows * (columns * bytes)) + x * (columns * bytes) + columns * bytes) (less_one rows)
    ∙ summed faces rows (columns * bytes)

-- no more than these bytes are needed, whatever the faces and the rows
pub bytes_needed : (faces columns rows bytes : ℕ) → faces * (rows * (columns * bytes)) ≤ reach (close faces columns rows bytes)
bytes_needed zero columns rows bytes = omega arith
bytes_needed (suc faces) columns zero bytes = simp (zero-mul, mul-zero) (omega arith)
bytes_needed (suc faces) columns (suc rows) bytes = rw (bytes-reach faces columns rows bytes) (le_refl _)
