-- Two texels in each half. Assumes nothing.
use mathlib.Core.Path.{◌∙◌}
use Rattle.bcn_rows.proofs.Laws.{holds}
use Rattle.bcn_rows.proofs.row_chosen.Goals as goal

pub returns : goal.returns
returns g c =
    holds _ (c.two.ensures.0 ∙ c.texel_chosen.ensures, c.two.ensures.1 ∙ c.texel_chosen-2.ensures)
    (c.two-2.ensures.0 ∙ c.texel_chosen-3.ensures, c.two-2.ensures.1 ∙ c.texel_chosen-4.ensures)
