-- A plane is an alpha or a colour plane.
use Rattle.crn_chunk_blocks.specs.Blocks.{shade_of}
use Rattle.crn_chunk_blocks.proofs.plane_half.Goals as goal

pub alpha_half-requires : goal.alpha_half-requires
unfolding shade_of
alpha_half-requires c = rw c.if-p.true at c.requires

pub returns-then-p : goal.returns-then-p
unfolding shade_of
returns-then-p c = rw c.if-p.true c.alpha_half.ensures

pub color_half-requires : goal.color_half-requires
unfolding shade_of
color_half-requires c = rw c.if-p.false at c.requires

pub returns-else-p : goal.returns-else-p
unfolding shade_of
returns-else-p c = rw c.if-p.false c.color_half.ensures
