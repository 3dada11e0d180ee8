-- One row of blocks after another.
use native.Mathlib.Omega.{arith}
use mathlib.Core.Path.{◌≡◌}
use Rattle.crn_format.specs.Grid.{blocks}
use Rattle.texels.proofs.Drawing.{skipped, line-more}
use Rattle.texels.proofs.faces.face.Goals as goal

pub overflow_add-rows : goal.overflow_add-rows
overflow_add-rows c = omega (arith, c.requires.room.few_rows)

pub loop-y-init : goal.loop-y-init
loop-y-init c = skipped _ (λ x y at from to. omega arith)

pub line-requires : goal.line-requires
line-requires c = record { room = rw c.loop-y.invariant.long c.requires.room; y_in = c.loop-y-test.true; given = c.requires.given }

pub loop-y-preserved : goal.loop-y-preserved
loop-y-preserved c = line-more c.requires.room.narrow c.loop-y.y c.loop-y.invariant c.line.ensures

pub shape_of-dst : goal.shape_of-dst
shape_of-dst c = c.loop-y.invariant.long

pub returns : goal.returns
returns c =
    let full : c.loop-y.y ≡ blocks c.args.s.height = omega (arith, c.loop-y.auto.y-end, c.loop-y-test.false) in
    rw full at c.loop-y.invariant
