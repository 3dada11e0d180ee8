-- The two palettes of the colour plane.
use Rattle.crn_format.proofs.Results.{passed}
use Rattle.crn_opening.proofs.Refusals.{color-endpoints_numbered, color-selectors_numbered}
use Rattle.crn_opening.proofs.Streams.{plane_absent, plane_stops, plane_goes-on}
use Rattle.crn_opening.proofs.palettes.color_palettes.Goals as goal

pub returns-then-ends-eq0 : goal.returns-then-ends-eq0
returns-then-ends-eq0 c = plane_absent _ _ _ _ _ _ _ c.if-ends-eq0.true

pub returns-in_err-color_endpoints : goal.returns-in_err-color_endpoints
returns-in_err-color_endpoints c =
    rw (passed c.from_residual.ensures.1)
    (plane_stops _ _ _ _ _ _ _ c.if-ends-eq0.false (color-endpoints_numbered _)
    (rw c.segment.ensures.0 at c.in_err-color_endpoints.ensures))

pub returns : goal.returns
returns c =
    plane_goes-on _ _ _ _ _ _ _ c.if-ends-eq0.false (color-endpoints_numbered _) (rw c.segment.ensures.0 at c.in_ok-color_endpoints.ensures)
    (color-selectors_numbered _) (rw c.segment-2.ensures.0 at c.color_selectors.ensures)
