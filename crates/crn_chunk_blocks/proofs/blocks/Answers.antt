use Prim.Native.Nat.{ℕ, ◌+◌, ◌*◌, ◌/◌, ◌%◌, ◌≤◌, ◌<◌}
use mathlib.Core.Bool.{Bool, true, ◌&&◌, ◌||◌}
use lib.Dec.{ltb, eqb}
use Rattle.crn_format.specs.Choice.{pick}
use Rattle.crn_format.specs.declared.Grid.{Grid}
use Rattle.crn_chunks.specs.declared.Planes.{Planes}
use Rattle.crn_blocks.specs.Sheet.{Covered, chunk_number}
use Rattle.crn_chunk_blocks.specs.Blocks.{Placeable}
use mathlib.Core.Path.{◌≡◌, sym, ap, ◌∙◌}
use native.Mathlib.Omega.{arith}
use lib.ListN.{length}
use Rattle.crn_formats.specs.Lent.{lent}
use Rattle.crn_blocks.proofs.Places.{lies, room-kept}
use Rattle.crn_blocks.proofs.Paint.{start, then, until, put_in, skipped}
use Rattle.crn_chunk_blocks.proofs.Positions.{by_byte, same_block, block-sized, in_grid, off_grid, place_by}
use Rattle.crn_chunk_blocks.proofs.blocks.Goals as goal
use Rattle.crn_chunk_blocks.proofs.blocks.Goals.{then-right-q, else-right-q}

-- a block that lies inside the grid ends within the destination
block_ends : {ps : Planes} {g : Grid} {e n f cx cy q : ℕ} {right bottom : Bool} → Placeable ps g e n → Covered g f cx cy → q < 4
    → (right ≡ ltb (2 * cx + 1) g.columns) × (bottom ≡ ltb (2 * cy + 1) g.rows) → ((right || eqb (q % 2) 0) && (bottom || ltb q 2)) ≡ true
    → f * g.distance + 2 * cy * g.pitch + 2 * cx * g.bytes + q / 2 * g.pitch + q % 2 * g.bytes + pick ps.two 16 8 ≤ n
block_ends {g = g} {f = f} {cx = cx} {cy = cy} {q = q} {right = right} {bottom = bottom} placeable covered four sides e =
    let inside = in_grid g f cx cy q right bottom covered four sides e in
    omega (arith, lies placeable.room inside, place_by g f cx cy q, placeable.bytes)

pub overflow_add-at : goal.overflow_add-at
overflow_add-at c =
    let ends = block_ends c.requires.placeable c.requires.covered c.loop-q-test.true c.requires.sides c.if-right-q.true in
    omega (arith, c.well_formed.0.0)

pub overflow_add-at-then-right-q : goal.overflow_add-at-then-right-q
overflow_add-at-then-right-q c =
    let ends = block_ends c.requires.placeable c.requires.covered c.loop-q-test.true c.requires.sides c.if-right-q.true in
    omega (arith, c.well_formed.0.0)

pub block-requires-clause-room : goal.block-requires-clause-room
block-requires-clause-room c =
    let ends = block_ends c.requires.placeable c.requires.covered c.loop-q-test.true c.requires.sides c.if-right-q.true in
    omega (arith, c.loop-q.invariant.long)

pub loop-q-init : goal.loop-q-init
loop-q-init c = until (omega arith) start

pub loop-q-preserved : goal.loop-q-preserved
loop-q-preserved c =
    let a = c.args in
    let q = c.loop-q.q in
    let i = c.loop-q.invariant in
    let t = c.loop-q-test.true in
    let p = lent a.palettes.now in
    let of = by_byte p a.ps a.e a.out.now c.tiles-tiles.result q c.requires.placeable.known t c.tiles-tiles.ensures in
    elim c.if-right-q.branch [
      | then-right-q w ↦
          rw w.dst-is
          (until (omega arith)
          (then c.requires.placeable.room (omega arith) (omega arith) i
          (put_in a.face a.cx a.cy q (room-kept c.requires.placeable.room i.long) t
          (in_grid a.g a.face a.cx a.cy q a.right a.bottom c.requires.covered t c.requires.sides w.if-right-q.true)
          (place_by a.g a.face a.cx a.cy q) w.block.ensures
          (of ∙ same_block p a.ps a.e a.out.now (chunk_number a.g a.face a.cx a.cy) q)
          (ap length of ∙ block-sized p a.ps a.e a.out.now q ∙ sym c.requires.placeable.bytes))))
      | else-right-q w ↦
          rw w.dst-is
          (until (omega arith)
          (then c.requires.placeable.room (omega arith) (omega arith) i
          (skipped a.face a.cx a.cy q c.requires.covered t
          (off_grid a.g a.face a.cx a.cy q a.right a.bottom c.requires.covered t c.requires.sides w.if-right-q.false))))
    ]

pub returns : goal.returns
returns c = until (omega arith) c.loop-q.invariant
