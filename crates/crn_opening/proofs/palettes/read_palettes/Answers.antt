-- The four palettes: the colour plane, then the alpha plane.
use Rattle.crn_format.proofs.Results.{passed}
use Rattle.crn_opening.proofs.Checks.{color-fits, alpha-fits}
use Rattle.crn_opening.proofs.Streams.{color-stops, color-goes-on}
use Rattle.crn_opening.proofs.palettes.read_palettes.Goals as goal

pub color_palettes-requires : goal.color_palettes-requires
color_palettes-requires c = color-fits c.requires

pub returns-in_err-color_palettes-clause-ends : goal.returns-in_err-color_palettes-clause-ends
returns-in_err-color_palettes-clause-ends c = rw (passed c.from_residual.ensures.1) (color-stops _ _ _ _ _ _ c.in_err-color_palettes.ensures)

pub alpha_palettes-requires : goal.alpha_palettes-requires
alpha_palettes-requires c = alpha-fits c.requires

pub returns-clause-ends : goal.returns-clause-ends
returns-clause-ends c = color-goes-on _ _ _ _ _ _ c.in_ok-color_palettes.ensures c.alpha_palettes.ensures
