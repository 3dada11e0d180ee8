-- Every channel of both.
use Rattle.bcn_colors.proofs.mixed.Goals as goal

pub returns : goal.returns
returns c =
    λ a b h. record {
      reds = c.between.ensures _ _ h.reds;
      greens = c.between-2.ensures _ _ h.greens;
      blues = c.between-3.ensures _ _ h.blues;
    }
