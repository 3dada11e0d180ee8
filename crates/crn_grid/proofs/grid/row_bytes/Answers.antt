-- Columns times bytes, which fit.
use Prim.Native.Nat.{◌≤◌}
use native.Mathlib.Nat.{mul-le-mul, lt_of_le_of_lt}
use lib.Dec.{lit<}
use Rattle.crn_format.specs.Header.{kind_of}
use Rattle.crn_format.specs.Unpacking.{grid_of}
use Rattle.crn_formats.proofs.ByFormat.{bytes-at-most}
use Rattle.crn_grid.proofs.grid.row_bytes.Goals as goal

pub overflow_mul-result : goal.overflow_mul-result
overflow_mul-result c =
    let few : c.block_bytes.result ≤ 16 = rw c.block_bytes.ensures (bytes-at-most (kind_of c.args.h.format)) in
    record { fits = lt_of_le_of_lt (mul-le-mul c.columns_of.ensures.1.1 few) (lit< tt) }

pub returns : goal.returns
unfolding grid_of
returns c = λ pitch distance. rw (c.columns_of.ensures.0 pitch distance, c.block_bytes.ensures)
