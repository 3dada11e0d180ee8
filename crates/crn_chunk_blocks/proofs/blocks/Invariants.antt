-- The invariant: the positions before q are painted, those of them that lie inside the grid.
use Prim.Native.Nat.{◌+◌, ◌*◌}
use Rattle.crn_formats.specs.Lent.{lent}
use Rattle.crn_blocks.specs.Sheet.{Painted, chunk_number}
use Rattle.crn_chunk_blocks.specs.Blocks.{block_in}
use Rattle.crn_chunk_blocks.proofs.blocks.Given as goal

abbrev pub invariant-loop-q : goal.invariant-loop-q
invariant-loop-q l = Painted l.g (block_in (lent l.palettes) l.ps l.e l.out)
    (4 * chunk_number l.g l.face l.cx l.cy) (4 * chunk_number l.g l.face l.cx l.cy + l.q) l.initial.dst l.dst
