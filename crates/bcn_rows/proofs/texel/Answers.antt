-- Column by column. Assumes nothing.
use borrow.Author.Rules.{rules}
use Rattle.bcn_rows.specs.Rows.{texel_of}
use Rattle.bcn_rows.proofs.Laws.{fourth}
use Rattle.bcn_rows.proofs.texel.Goals as goal
use Rattle.bcn_rows.proofs.texel.Goals.{in-0, in-1, in-2, in_default}

pub returns : goal.returns
unfolding texel_of
returns c =
    elim c.match-i.branch [
      | in-0 w ↦ rw (w.texel-is, w.in-0.is)
      | in-1 w ↦ rw (w.texel-is, w.in-1.is)
      | in-2 w ↦ rw (w.texel-is, w.in-2.is)
      | in_default w ↦ rw w.texel-is (fourth c.args.r c.args.i (search rules) (search rules) (search rules))
    ]
