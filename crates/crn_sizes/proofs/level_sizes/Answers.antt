-- The sizes of a level, by the tests that led to each return; the limits keep its blocks few.
use Prim.Native.Nat.{◌≤◌}
use mathlib.Core.Path.{◌≡◌, sym, ◌∙◌}
use mathlib.Core.Bool.{true}
use native.Mathlib.Omega.{arith}
use borrow.Author.Tests.{lt-ltb, le-ltb}
use Rattle.crn_format.specs.Header.{kind_of, within_limits}
use Rattle.crn_format.specs.Unpacking.{grid_of}
use Rattle.crn_format.proofs.Planes.{planes_by_bytes}
use Rattle.crn_formats.proofs.ByFormat.{bytes-at-most}
use Rattle.crn_formats.proofs.Limited.{Limited, limited}
use Rattle.crn_sizes.specs.Sizes.{level_sizes}
use Rattle.crn_sizes.proofs.Few.{few}
use Rattle.crn_sizes.proofs.level_sizes.Goals as goal

pub returns-then-not-within_limits : goal.returns-then-not-within_limits
unfolding level_sizes
returns-then-not-within_limits c = simp (sym c.within_limits.ensures ∙ c.if-not-within_limits.true, c.no_sizes.ensures)

pub returns-then-header-level : goal.returns-then-header-level
unfolding level_sizes
returns-then-header-level c =
    let within : within_limits c.args.header ≡ true = sym c.within_limits.ensures ∙ c.if-not-within_limits.false in
    simp (
      within,
      le-ltb _ _ c.if-header-level.true,
      c.no_sizes-then-header-level.ensures,
    )

pub overflow_cast-header : goal.overflow_cast-header
overflow_cast-header c =
    let within : within_limits c.args.header ≡ true = sym c.within_limits.ensures ∙ c.if-not-within_limits.false in
    omega (
      arith,
      ((let it : Limited c.args.header =
          (limited _ within) in
          it)).faces,
    )

pub overflow_cast-columns : goal.overflow_cast-columns
unfolding grid_of
overflow_cast-columns c =
    let within : within_limits c.args.header ≡ true = sym c.within_limits.ensures ∙ c.if-not-within_limits.false in
    let small : Limited c.args.header = limited _ within in
    let wide : c.columns_of-columns.result ≤ 1024 = rw (c.columns_of-columns.ensures.0 0 0)
    (few c.args.header.width c.args.level small.width) in
    omega (arith, wide)

pub overflow_cast-rows : goal.overflow_cast-rows
unfolding grid_of
overflow_cast-rows c =
    let within : within_limits c.args.header ≡ true = sym c.within_limits.ensures ∙ c.if-not-within_limits.false in
    let small : Limited c.args.header = limited _ within in
    let high : c.rows_of-rows.result ≤ 1024 = rw (c.rows_of-rows.ensures.0 0 0) (few c.args.header.height c.args.level small.height) in
    omega (arith, high)

pub overflow_cast-bytes : goal.overflow_cast-bytes
overflow_cast-bytes c =
    let thick : c.block_bytes-bytes.result ≤ 16 = rw c.block_bytes-bytes.ensures (bytes-at-most (kind_of c.args.header.format)) in
    omega (arith, thick)

pub returns : goal.returns
unfolding level_sizes grid_of
returns c =
    let within : within_limits c.args.header ≡ true = sym c.within_limits.ensures ∙ c.if-not-within_limits.false in
    simp (
      within,
      lt-ltb _ _ c.if-header-level.false,
      c.sizes_by.ensures,
      c.columns_of-columns.ensures.0 0 0,
      c.rows_of-rows.ensures.0 0 0,
      c.block_bytes-bytes.ensures,
      planes_by_bytes (kind_of c.args.header.format),
    )
