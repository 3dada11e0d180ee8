-- The tests in their order.
use Prim.Native.Nat.{ℕ, ◌≤◌}
use mathlib.Core.Bool.{Bool}
use mathlib.Core.Path.{◌≡◌, sym, ap, ◌∙◌}
use native.Mathlib.Nat.{mul-le-mul}
use native.Mathlib.Omega.{arith}
use Rattle.crn_format.specs.Choice.{both}
use Rattle.crn_format.specs.Header.{kind_of, known, block_bytes}
use Rattle.crn_format.specs.declared.Kind.{Kind}
use Rattle.crn_formats.proofs.ByFormat.{bytes-at-most}
use Rattle.bcn_format.specs.Picture.{side, fine, enough}
use Rattle.bcn_format.specs.declared.Face.{Face}
use Rattle.texels.proofs.Refusing.{sides, few-blocks, not-fine, low-pitch, too_few, short, none_due, too_short, long-enough}
use Rattle.texels.proofs.check.Goals as goal

-- the tests of a kind are those of its format
tested : (f : ℕ) {k : Kind} (s : Face) {b : Bool} → k ≡ kind_of f → b ≡ both (known k) (both (side s.width) (side s.height)) → fine f s ≡ b
tested f s e h = ap (λ (k : Kind). both (known k) (both (side s.width) (side s.height))) (sym e) ∙ sym h

eights : (f : ℕ) {n : ℕ} {k : Kind} → k ≡ kind_of f → n ≡ block_bytes k → n ≡ block_bytes (kind_of f)
eights f e h = h ∙ ap block_bytes e

pub returns-then-not-in_limits : goal.returns-then-not-in_limits
returns-then-not-in_limits c =
    sym (not-fine c.args.format c.args.s c.args.given c.args.room (tested c.args.format c.args.s c.from-kind.ensures c.in_limits.ensures ∙ c.if-not-in_limits.true))

pub overflow_mul-s : goal.overflow_mul-s
overflow_mul-s c =
    omega (arith, (sides c.args.format c.args.s (tested c.args.format c.args.s c.from-kind.ensures c.in_limits.ensures ∙ c.if-not-in_limits.false)).few_columns)

pub returns-then-s : goal.returns-then-s
returns-then-s c =
    let ok = tested c.args.format c.args.s c.from-kind.ensures c.in_limits.ensures ∙ c.if-not-in_limits.false in
    sym (low-pitch c.args.format c.args.s c.args.given c.args.room ok c.if-s.true)

pub overflow_add-s-2 : goal.overflow_add-s-2
overflow_add-s-2 c =
    omega (
      arith,
      (sides c.args.format c.args.s (tested c.args.format c.args.s c.from-kind.ensures c.in_limits.ensures
          ∙ c.if-not-in_limits.false)).few_rows,
    )

pub overflow_mul-s-2 : goal.overflow_mul-s-2
overflow_mul-s-2 c =
    omega (
      arith,
      few-blocks (sides c.args.format c.args.s (tested c.args.format c.args.s c.from-kind.ensures c.in_limits.ensures
          ∙ c.if-not-in_limits.false)),
    )

pub overflow_mul-block_bytes : goal.overflow_mul-block_bytes
overflow_mul-block_bytes c =
    let few = few-blocks (sides c.args.format c.args.s (tested c.args.format c.args.s c.from-kind.ensures c.in_limits.ensures
    ∙ c.if-not-in_limits.false)) in
    rw (eights c.args.format c.from-kind.ensures c.block_bytes.ensures) (omega (arith, mul-le-mul (bytes-at-most (kind_of c.args.format)) few))

pub returns-then-given-block_bytes : goal.returns-then-given-block_bytes
returns-then-given-block_bytes c =
    let ok = tested c.args.format c.args.s c.from-kind.ensures c.in_limits.ensures ∙ c.if-not-in_limits.false in
    sym (too_few c.args.format c.args.s c.args.given c.args.room ok c.if-s.false
    (rw (eights c.args.format c.from-kind.ensures c.block_bytes.ensures) at c.if-given-block_bytes.true))

pub returns-then-room-s : goal.returns-then-room-s
returns-then-room-s c =
    let ok = tested c.args.format c.args.s c.from-kind.ensures c.in_limits.ensures ∙ c.if-not-in_limits.false in
    let given : enough (kind_of c.args.format) c.args.s ≤ c.args.given = rw (eights c.args.format c.from-kind.ensures c.block_bytes.ensures) at
    c.if-given-block_bytes.false in
    sym (short c.args.format c.args.s c.args.given c.args.room ok c.if-s.false given
    (omega (arith, c.if-room-s.true)))

pub nonzero_div-room : goal.nonzero_div-room
nonzero_div-room c =
    let ok = tested c.args.format c.args.s c.from-kind.ensures c.in_limits.ensures ∙ c.if-not-in_limits.false in
    omega (arith, (sides c.args.format c.args.s ok).columns, c.if-s.false)

pub overflow_sub-s : goal.overflow_sub-s
overflow_sub-s c =
    let ok = tested c.args.format c.args.s c.from-kind.ensures c.in_limits.ensures ∙ c.if-not-in_limits.false in
    omega (arith, (sides c.args.format c.args.s ok).rows)

pub returns-then-room-s-2 : goal.returns-then-room-s-2
returns-then-room-s-2 c =
    let a = c.args
    in
    let ok = tested c.args.format c.args.s c.from-kind.ensures c.in_limits.ensures ∙ c.if-not-in_limits.false in
    let given : enough (kind_of a.format) a.s ≤ a.given = rw
    (eights c.args.format c.from-kind.ensures c.block_bytes.ensures) at
    c.if-given-block_bytes.false in
    let less = too_short a.s a.room (sides a.format a.s ok)
    c.if-s.false
    c.if-room-s.false c.if-room-s-2.true in
    sym (short a.format a.s a.given a.room ok c.if-s.false given less)

pub returns : goal.returns
returns c =
    let a = c.args
    in
    let ok = tested c.args.format c.args.s c.from-kind.ensures c.in_limits.ensures ∙ c.if-not-in_limits.false in
    let given : enough (kind_of a.format) a.s ≤ a.given = rw
    (eights c.args.format c.from-kind.ensures c.block_bytes.ensures) at
    c.if-given-block_bytes.false in
    let room = long-enough a.s a.room (sides a.format a.s ok)
    c.if-s.false
    c.if-room-s.false c.if-room-s-2.false in
    sym (none_due a.format a.s a.given a.room ok
    c.if-s.false given room)
