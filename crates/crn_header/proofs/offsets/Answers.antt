-- The offsets of all levels, one more at each turn.
use Prim.Native.Nat.{ℕ, suc, ◌+◌, ◌-◌, ◌<◌}
use mathlib.Core.Path.{◌≡◌, sym, ◌∙◌}
use mathlib.Core.List.{List, ◌++◌, append_assoc, append-nil}
use native.Mathlib.Omega.{arith}
use native.Mathlib.Numerals.{add-one}
use lib.ListN.{length, take, set, length-set}
use lib.Seq.{take-suc-set, take_all}
use Rattle.crn_format.specs.Limits.{max_levels}
use Rattle.crn_format.specs.Header.{offset_at, offsets_from}
use Rattle.crn_header.proofs.offsets.Goals as goal

more : (file : List ℕ) (levels : ℕ) (a : List ℕ) (i v : ℕ) → i < length a → i < max_levels → v ≡ offset_at file levels i
    → take (i + 1) (set a i v) ++ offsets_from file levels (i + 1) (max_levels - (i + 1)) ≡ take i a ++ offsets_from file levels i
    (max_levels - i)
unfolding offsets_from
more file levels a i v h l e =
    let n : max_levels - i ≡ suc (max_levels - (i + 1)) = omega arith in
    rw (n, e, add-one, take-suc-set, append_assoc)

pub loop-i-preserved : goal.loop-i-preserved
loop-i-preserved c =
    let s = c.args in
    let w = c.loop-i in (
      simp length-set w.invariant.0,
      more s.file.now s.levels w.offset-items w.i c.offset_at.result (omega arith) (omega arith)
          c.offset_at.ensures ∙ w.invariant.1,
    )

pub returns : goal.returns
unfolding offsets_from
returns c =
    let w = c.loop-i in
    let e : w.i ≡ max_levels = omega arith in
    sym (take_all max_levels w.offset-items (omega arith)) ∙ sym (append-nil _) ∙ rw e at w.invariant.1
