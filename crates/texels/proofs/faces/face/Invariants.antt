-- The rows of blocks before y are drawn.
use Rattle.crn_format.specs.Grid.{blocks}
use Rattle.bcn_format.specs.Picture.{rgba}
use Rattle.texels.specs.Sheet.{Drawn, first}
use Rattle.texels.proofs.faces.face.Given as goal

abbrev pub invariant-loop-y : goal.invariant-loop-y
invariant-loop-y l = Drawn l.s (rgba l.kind l.s l.blocks) 0 (first l.s 0 l.y) l.initial.dst l.dst
