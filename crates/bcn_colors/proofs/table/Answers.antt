-- One mode or the other: the ends, and what is between them.
use Rattle.bcn_colors.proofs.Colors.{filled}
use Rattle.bcn_colors.proofs.table.Goals as goal
use Rattle.bcn_colors.proofs.table.Goals.{then-four, else-four}

pub packed-m-requires-clause-colors_in : goal.packed-m-requires-clause-colors_in
packed-m-requires-clause-colors_in g c = (_, _, c.mixed.ensures _ _ c.ends-e.ensures)

pub returns : goal.returns
returns g c = λ alpha each.
    filled c.args.four _ _ _ c.requires each c.ends-e.ensures (c.mixed.ensures _ _ c.ends-e.ensures) c.packed-c.ensures c.packed-m.ensures
    (elim c.if-four.branch [ then-four w ↦ rw (w.if-four.true, w.n-is) | else-four w ↦ rw (w.if-four.false, w.n-is) ])
    c.split-first.ensures.0 c.split-first.ensures.1 c.split-third.ensures.0 c.split-third.ensures.1
