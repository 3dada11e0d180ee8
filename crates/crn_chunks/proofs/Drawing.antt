-- A symbol under the budget.
use Rattle.std.specs.Prelude.{Ok, Err}
use Prim.Native.Nat.{ℕ, ◌-◌, ◌<◌}
use mathlib.Core.List.{List}
use mathlib.Core.Path.{◌≡◌, refl, sym, ap, ◌∙◌}
use borrow.Author.Tests.{eq-eqb, ne_eqb}
use Rattle.crn_format.specs.Reading.{a_symbol, symbol, Step, got, refused, then, Place, spot, run, from_bits, budgeted, charged}
use Rattle.crn_symbol_codec.specs.Cursors.{place, Holds}
use Rattle.crn_format.specs.declared.Refusal.{Refusal}
use Rattle.crn_symbol_codec.specs.Taking.{took, On, Takes}
use Rattle.crn_symbol_codec.specs.declared.Cursor.{Cursor}
use Rattle.crn_symbol_codec.specs.Taking.{Taken}
use Rattle.crn_chunks.specs.Meaning.{source, spending}
use Rattle.crn_chunks.specs.Parts.{WhenTaken, charging, Budgeted, Draws, farthest}
use Rattle.crn_chunks.specs.declared.Planes.{Planes}
use Rattle.crn_chunks.specs.declared.Stream.{Stream}

-- ---- a symbol

pub symbol-spent : (seg ls : List ℕ) (s : Stream) {at : ℕ} → s.left ≡ 0 → at ≡ place s.cursor
    → run (source seg) (symbol ls) (spending s) ≡ refused 15 (record { place = spot at at; left = s.left })
unfolding run then budgeted from_bits
symbol-spent seg ls s e f = rw f (simp (eq-eqb _ _ e))

module _ {seg ls : List ℕ} (s : Stream) {r : Taken} (t : Takes seg (a_symbol ls) s.cursor r) (some : s.left ≡ 0 → ⊥) where
  pub symbol-charged : charging s r ≡ run (source seg) (symbol ls) (spending s)
  unfolding run then budgeted from_bits charged
  symbol-charged =
      let served = ap (λ (y : Step Place ℕ). then (charged s.left y) (λ v w. got v w)) (sym (t.same (place s.cursor))) in
      sym (simp (ne_eqb _ _ some) served ∙ taken r)
    where
      taken : (y : Taken) → then (charged s.left (took (place s.cursor) (place s.cursor) y)) (λ v w. got v w) ≡ charging s y
      taken (Ok (v, d)) = refl
      taken (Err n) = refl

pub symbol-drawn : {seg ls : List ℕ} (s : Stream) {at v : ℕ} {d : Cursor} → Takes seg (a_symbol ls) s.cursor (Ok (v, d)) → (s.left ≡ 0 → ⊥)
    → at ≡ place s.cursor → run (source seg) (symbol ls) (spending s) ≡ got v (record { place = spot (place d) at; left = s.left - 1 })
symbol-drawn s t some f = rw f (sym (symbol-charged s t some))

-- a symbol comes only where something is left, n
pub symbol-on : (seg : List ℕ) (n : ℕ) (r : Taken) → 0 < n → On seg r → WhenTaken (λ v d. Holds seg d × (0 < n)) r
symbol-on seg n (Ok (v, d)) some h = (h, some)
symbol-on seg n (Err k) some h = tt

-- what is made of a draw's answer
module _ {lookup sorted seg : List ℕ} {ps : Planes} {which : ℕ} {s : Stream} {at : ℕ} (f : at ≡ place s.cursor) where
  pub draw_lost : {n : Refusal} → Budgeted lookup sorted seg ps which s (Err n)
      → Draws lookup sorted seg ps (λ cs. symbol (cs which)) s farthest (Err (record { refusal = n; at = at; left = s.left }))
  draw_lost t = rw f (record { same = t.same; on = tt })

  pub draw-got : {v : ℕ} {d : Cursor} → Budgeted lookup sorted seg ps which s (Ok (v, d)) → v < farthest
      → Draws lookup sorted seg ps (λ cs. symbol (cs which)) s farthest (Ok (v, (record { cursor = d; blamed = at; left = s.left - 1 })))
  draw-got t small = rw f (record { same = t.same; on = (t.on.0, small) })
