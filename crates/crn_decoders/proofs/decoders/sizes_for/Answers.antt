-- The sizes, by the tests that led to them: what is tiny is small.
use Prim.Native.Nat.{ℕ}
use mathlib.Core.Path.{◌≡◌, sym, ◌∙◌}
use mathlib.Core.Bool.{true, ◌&&◌}
use lib.Dec.{leb}
use native.Mathlib.Omega.{arith}
use borrow.Author.Tests.{leb-true, le-leb}
use Rattle.crn_format.proofs.Choices.{and_hold}
use Rattle.crn_decoders.specs.Tables.{sizes_for}
use Rattle.crn_decoders.proofs.decoders.sizes_for.Goals as goal

small : (m n : ℕ) → (leb m 4 && leb n 4) ≡ true → (leb m 16 && leb n 16) ≡ true
small m n e =
    let h = and_hold (leb m 4) (leb n 4) e in
    rw (le-leb m 16 (omega (arith, leb-true m 4 h.0)), le-leb n 16 (omega (arith, leb-true n 4 h.1)))

pub returns-then-columns-rows : goal.returns-then-columns-rows
unfolding sizes_for
returns-then-columns-rows c =
    simp (sym c.few.ensures ∙ c.if-few.true, small c.args.columns c.args.rows c.if-columns-rows.true, c.if-columns-rows.true) c.new.ensures

pub returns-then-columns-rows-2 : goal.returns-then-columns-rows-2
unfolding sizes_for
returns-then-columns-rows-2 c =
    simp (sym c.few.ensures ∙ c.if-few.true, c.if-columns-rows.false, c.if-columns-rows-2.true) c.new-then-columns-rows-2.ensures

pub returns-else-columns-rows-2 : goal.returns-else-columns-rows-2
unfolding sizes_for
returns-else-columns-rows-2 c = simp (sym c.few.ensures ∙ c.if-few.true, c.if-columns-rows-2.false) c.new-else-columns-rows-2.ensures

pub returns-then-wide : goal.returns-then-wide
unfolding sizes_for
returns-then-wide c = simp (sym c.few.ensures ∙ c.if-few.false, sym c.wide.ensures ∙ c.if-wide.true) c.new-then-wide.ensures

pub returns-else-wide : goal.returns-else-wide
unfolding sizes_for
returns-else-wide c = simp (sym c.few.ensures ∙ c.if-few.false, sym c.wide.ensures ∙ c.if-wide.false) c.new-else-wide.ensures
