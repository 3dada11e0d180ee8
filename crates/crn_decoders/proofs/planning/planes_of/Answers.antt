-- The planes of a format: each by the test that chose it.
use Prim.Native.Nat.{ℕ}
use mathlib.Core.Bool.{Bool, true, false, ◌&&◌}
use mathlib.Core.Path.{◌≡◌, sym, ap}
use lib.Dec.{eqb}
use Rattle.crn_format.specs.Choice.{pick}
use Rattle.crn_format.specs.Header.{kind_of, has_color, has_alpha, block_bytes}
use Rattle.crn_format.specs.declared.Kind.{Kind}
use Rattle.crn_format.specs.declared.Header.{Header}
use Rattle.crn_chunks.specs.declared.Side.{Side}
use Rattle.crn_chunks.specs.declared.Planes.{Planes}
use Rattle.crn_decoders.specs.declared.decoders.Sizes.{Sizes}
use Rattle.crn_decoders.specs.Tables.{tables_in}
use Rattle.crn_decoders.specs.Planning.{color_side, alpha_side, planes_by, planes_for}
use Rattle.crn_decoders.proofs.planning.planes_of.Goals as goal
use Rattle.crn_decoders.proofs.planning.planes_of.Goals.{then-alpha, else-alpha, then-color, else-color, then-color-alpha, else-color-alpha}

tables-are : (color alpha : Bool) {both : Bool} → (color && alpha) ≡ both → pick both 5 3 ≡ tables_in color alpha
tables-are true alpha e = ap (λ (b : Bool). pick b 5 3) (sym e)
tables-are false alpha e = ap (λ (b : Bool). pick b 5 3) (sym e)

by_kind : {kind : Kind} (h : Header) (s : Sizes) {color alpha : Bool} {bytes tables : ℕ} {colors alphas first second : Side}
    → kind ≡ kind_of h.format → color ≡ has_color kind → alpha ≡ has_alpha kind
    → colors ≡ color_side h alpha → alphas ≡ alpha_side h → bytes ≡ block_bytes kind
    → first ≡ pick alpha alphas colors → second ≡ pick color colors alphas → tables ≡ tables_in color alpha
    → ◌≡◌ {A = Planes} (record {
      two = eqb bytes 16;
      first = first;
      second = second;
      tables = tables;
      lookup_step = s.lookup_step;
      sorted_step = s.sorted_step;
    }) (planes_for h s)
unfolding planes_by
by_kind h s e₀ e₁ e₂ e₃ e₄ e₅ e₆ e₇ e₈ = rw (e₆, e₇, e₈, e₅, e₃, e₄, e₁, e₂, e₀)

pub returns : goal.returns
returns c =
    by_kind c.args.h c.args.s c.from-kind.ensures c.has_color-color.ensures c.has_alpha-alpha.ensures c.color_side-colors.ensures
    c.alpha_side-alphas.ensures c.block_bytes.ensures
    (elim c.if-alpha.branch [ then-alpha w ↦ rw w.if-alpha.true w.first-is | else-alpha w ↦ rw w.if-alpha.false w.first-is ])
    (elim c.if-color.branch [ then-color w ↦ rw w.if-color.true w.second-is | else-color w ↦ rw w.if-color.false w.second-is ])
    (elim c.if-color-alpha.branch [
      | then-color-alpha w ↦ rw w.tables-is (tables-are c.has_color-color.result c.has_alpha-alpha.result w.if-color-alpha.true)
      | else-color-alpha w ↦ rw w.tables-is (tables-are c.has_color-color.result c.has_alpha-alpha.result w.if-color-alpha.false)
    ])
