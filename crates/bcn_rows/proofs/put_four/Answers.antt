-- The bytes of a number are those that std has of it. Assumes nothing.
use mathlib.Core.Path.{◌≡◌, sym, ◌∙◌}
use native.Mathlib.Omega.{arith}
use native.Mathlib.Nat.{div-div-eq-div-mul}
use Rattle.std.proofs.lemmas.List.Edits.{sets-eq}
use Rattle.std.proofs.lemmas.Slice.{put_mid-paste}
use Rattle.std.specs.Int.{w32, to_le_bytes}
use Rattle.crn_format.specs.Grid.{little}
use Rattle.bcn_rows.proofs.put_four.Goals as goal

pub returns : goal.returns
unfolding little
returns c =
    let a = c.args in
    let bytes : to_le_bytes w32 a.v ≡ little 4 a.v = simp div-div-eq-div-mul in
    put_mid-paste a.at _ a.dst.now _ (little 4 a.v) 4 (c.copy_from_slice.ensures.after ∙ c.to_le_bytes.ensures ∙ bytes)
    (omega arith) (omega arith)
    ∙ sym (sets-eq (little 4 a.v) a.dst.now a.at (omega arith))
