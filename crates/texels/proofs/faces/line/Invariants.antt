-- The blocks of the row before x are drawn.
use Rattle.bcn_format.specs.Picture.{rgba}
use Rattle.texels.specs.Sheet.{Drawn, first}
use Rattle.texels.proofs.faces.line.Given as goal

abbrev pub invariant-loop-x : goal.invariant-loop-x
invariant-loop-x l = Drawn l.s (rgba l.kind l.s l.blocks) (first l.s 0 l.y)
    (first l.s l.x l.y) l.initial.dst l.dst
