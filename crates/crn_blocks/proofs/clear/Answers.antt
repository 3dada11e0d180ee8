-- The faces, their rows, and a row's bytes at once.
use Prim.Native.Nat.{◌+◌, ◌*◌, ◌≤◌}
use mathlib.Core.Path.{◌≡◌, refl, ap, ◌∙◌}
use native.Mathlib.Numerals.{add-one}
use native.Mathlib.Omega.{arith}
use lib.ListN.{length}
use Rattle.crn_format.specs.Grid.{painted, face_painted, row_painted, blank}
use Rattle.crn_blocks.proofs.Places.{row_ends}
use Rattle.crn_blocks.proofs.Putting.{row_blank}
use Rattle.crn_blocks.proofs.Counting.{place-first}
use Rattle.crn_blocks.proofs.clear.Goals as goal

pub loop-face-init : goal.loop-face-init
unfolding painted
loop-face-init c = refl

pub loop-y-init : goal.loop-y-init
unfolding face_painted
loop-y-init c = c.loop-face.invariant

pub loop-y-preserved : goal.loop-y-preserved
unfolding face_painted
loop-y-preserved c =
    let g = c.args.g in
    let face = c.loop-face.face in
    let y = c.loop-y.y in
    let fits : face * g.distance + y * g.pitch + g.columns * g.bytes ≤ length c.loop-y.dst = omega (
      arith,
      row_ends c.requires c.loop-face-test.true c.loop-y-test.true,
    ) in
    rw add-one (row_blank g face y c.loop-y.dst c.fill.new.self _ _ (place-first g face y) (omega arith) (omega (arith, fits))
    (c.fill.ensures.after (λ _ e. e)) ∙ ap (row_painted g (blank g) face y g.columns) c.loop-y.invariant)

pub loop-face-preserved : goal.loop-face-preserved
unfolding painted
loop-face-preserved c =
    let whole : c.loop-y.y ≡ c.args.g.rows = omega arith in
    rw (add-one, ← whole) c.loop-y.invariant
