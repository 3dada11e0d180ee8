-- A symbol, under the budget.
use mathlib.Core.Path.{ap, ◌∙◌}
use borrow.Author.Rules.{rules}
use Rattle.crn_symbol_codec.specs.Taking.{refusal_of}
use Rattle.crn_chunks.proofs.Drawing.{draw_lost, draw-got}
use Rattle.crn_chunks.proofs.take.Goals as goal

pub returns-in_default : goal.returns-in_default
returns-in_default c =
    rw (c.refusal.ensures ∙ ap refusal_of c.in_default.is) (draw_lost c.place-at.ensures c.in_default.ensures)

pub returns : goal.returns
returns c = rw c.from.ensures (draw-got c.place-at.ensures c.in-Ok.ensures (search rules))
