-- So many of the blocks are cut-outs in the faces before this one, in its rows before y and in that row before x.
use Prim.Native.Nat.{◌+◌, ◌*◌, ◌≤◌}
use mathlib.Core.Path.{◌≡◌}
use Rattle.crn_format.specs.Grid.{cutouts, face_cutouts, row_cutouts}
use Rattle.crn_blocks.specs.Sheet.{standing}
use Rattle.crn_blocks.proofs.cutouts_by.Given as goal

abbrev pub invariant-loop-x : goal.invariant-loop-x
invariant-loop-x g l = record {
  counted : l.n ≡ cutouts l.g (standing l.g l.dst) l.face + face_cutouts l.g (standing l.g l.dst) l.face l.y
      + row_cutouts (standing l.g l.dst) l.face l.y l.x;
  few : l.n ≤ 4294967296 * l.face + 65536 * l.y + l.x;
}

abbrev pub invariant-loop-y : goal.invariant-loop-y
invariant-loop-y g l = record {
  counted : l.n ≡ cutouts l.g (standing l.g l.dst) l.face + face_cutouts l.g (standing l.g l.dst) l.face l.y;
  few : l.n ≤ 4294967296 * l.face + 65536 * l.y;
}

abbrev pub invariant-loop-face : goal.invariant-loop-face
invariant-loop-face g l = record { counted : l.n ≡ cutouts l.g (standing l.g l.dst) l.face; few : l.n ≤ 4294967296 * l.face }
