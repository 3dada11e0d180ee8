-- The faces, their rows, and a row's blocks: each is counted once.
use Prim.Native.Nat.{◌+◌, ◌*◌}
use mathlib.Core.Path.{◌≡◌, refl}
use native.Mathlib.Numerals.{add-one}
use native.Mathlib.Omega.{arith}
use Rattle.crn_format.specs.Grid.{place_of, cutouts, face_cutouts, row_cutouts}
use Rattle.crn_blocks.specs.Sheet.{In, standing}
use Rattle.crn_blocks.proofs.Counting.{one_more, no_more}
use Rattle.crn_blocks.proofs.cutouts_by.Goals as goal
use Rattle.crn_blocks.proofs.cutouts_by.Goals.{then-pair, else-pair}

pub loop-face-init : goal.loop-face-init
unfolding cutouts
loop-face-init g c = record { counted = refl; few = omega arith }

pub loop-y-init : goal.loop-y-init
unfolding face_cutouts
loop-y-init g c = record { counted = omega arith; few = omega arith }

pub loop-x-init : goal.loop-x-init
unfolding row_cutouts
loop-x-init g c = record { counted = omega arith; few = omega arith }

pub loop-x-preserved : goal.loop-x-preserved
loop-x-preserved g c =
    let face = c.loop-face.face in
    let y = c.loop-y.y in
    let x = c.loop-x.x in
    let dst = c.args.dst.now in
    let here : In c.args.g face x y = record { face = c.loop-face-test.true; column = c.loop-x-test.true; row = c.loop-y-test.true } in
    let is : face * c.args.g.distance + y * c.args.g.pitch + x * g.row.BYTES ≡ place_of c.args.g face x y = rw c.requires.bytes_same refl in
    elim c.if-pair.branch [
      | then-pair w ↦
          let e = one_more dst c.requires.room here is c.pair.ensures c.pair-in-loop-x.ensures w.if-pair.true in
          record { counted = omega arith; few = omega arith }
      | else-pair w ↦
          let e = no_more dst c.requires.room here is c.pair.ensures c.pair-in-loop-x.ensures w.if-pair.false in
          record { counted = omega arith; few = omega arith }
    ]

pub loop-y-preserved : goal.loop-y-preserved
unfolding face_cutouts
loop-y-preserved g c =
    let a = c.args in
    let face = c.loop-face.face in
    let blocks = standing a.g a.dst.now in
    let whole : c.loop-x.x ≡ a.g.columns = omega arith in
    let next : face_cutouts a.g blocks face (c.loop-y.y + 1)
    ≡ face_cutouts a.g blocks face c.loop-y.y + row_cutouts blocks face c.loop-y.y c.loop-x.x = rw (add-one, whole) refl in
    record { counted = omega arith; few = omega (arith, c.requires.room.few_columns) }

pub loop-face-preserved : goal.loop-face-preserved
unfolding cutouts
loop-face-preserved g c =
    let whole : c.loop-y.y ≡ c.args.g.rows = omega arith in
    record { counted = rw (add-one, ← whole) c.loop-y.invariant.counted; few = omega (arith, c.requires.room.few_rows) }
