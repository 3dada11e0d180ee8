-- Eight bytes at once, the lowest first.
use mathlib.Core.Path.{◌≡◌, ap, ◌∙◌}
use native.Mathlib.Omega.{arith}
use native.Mathlib.Nat.{div-div-eq-div-mul}
use lib.Seq.{sets}
use Rattle.crn_format.specs.Grid.{little}
use Rattle.crn_blocks.proofs.Putting.{part-put}
use Rattle.crn_blocks.proofs.put_eight.Goals as goal

pub returns : goal.returns
unfolding little
returns c =
    let a = c.args in
    let is : c.copy_from_slice.new.self ≡ little 8 a.v = c.copy_from_slice.ensures.after ∙ c.to_le_bytes.ensures ∙ simp div-div-eq-div-mul in
    part-put a.dst.now c.copy_from_slice.new.self a.at _ (rw is (omega arith)) (omega arith) ∙ ap (sets a.dst.now a.at) is
