-- What the limits (refusal 2) say of a header.
use Prim.Native.Nat.{ℕ, ◌≤◌, ◌<◌}
use mathlib.Core.Bool.{Bool, true, false, false≢true}
use mathlib.Core.Path.{◌≡◌, refl}
use native.Mathlib.Omega.{arith}
use lib.Dec.{leb, eqb}
use borrow.Author.Tests.{leb-true, eqb-true}
use Rattle.crn_format.specs.Choice.{pick, either}
use Rattle.crn_format.specs.Limits.{max_side, max_levels, max_entries}
use Rattle.crn_format.specs.Header.{kind_of, known, has_color, has_alpha, between, entries_fit, within_limits}
use Rattle.crn_format.specs.declared.Part.{Part}
use Rattle.crn_format.specs.declared.Header.{Header}
use Rattle.crn_format.proofs.Choices.{both_hold}

entries : (uses : Bool) (p : Part) → entries_fit uses p ≡ true → p.count ≤ max_entries
entries uses p e = leb-true _ _ (both_hold (leb (pick uses 1 0) p.count) _ e).1

one_or_six : (n : ℕ) (a b : Bool) → eqb n 1 ≡ a → eqb n 6 ≡ b → either a b ≡ true → (0 < n) × (n ≤ 6)
one_or_six n true b e f h = let z : n ≡ 1 = eqb-true n 1 e in (omega arith, omega arith)
one_or_six n false true e f h = let z : n ≡ 6 = eqb-true n 6 f in (omega arith, omega arith)
one_or_six n false false e f h = absurd (false≢true h)

pub record Limited (h : Header) : Type 0 where
  pub width : h.width ≤ max_side
  pub height : h.height ≤ max_side
  pub level : 0 < h.levels
  pub levels : h.levels ≤ max_levels
  pub face : 0 < h.faces
  pub faces : h.faces ≤ 6
  pub known : known (kind_of h.format) ≡ true
  pub color_ends : h.color_endpoints.count ≤ max_entries
  pub color_sels : h.color_selectors.count ≤ max_entries
  pub alpha_ends : h.alpha_endpoints.count ≤ max_entries
  pub alpha_sels : h.alpha_selectors.count ≤ max_entries

pub limited : (h : Header) → within_limits h ≡ true → Limited h
unfolding within_limits
limited h e =
    let p0 = both_hold (between 1 max_side h.width) _ e in
    let p1 = both_hold (between 1 max_side h.height) _ p0.1 in
    let p2 = both_hold (between 1 max_levels h.levels) _ p1.1 in
    let p3 = both_hold (either (eqb h.faces 1) (eqb h.faces 6)) _ p2.1 in
    let p4 = both_hold (known (kind_of h.format)) _ p3.1 in
    let p5 = both_hold (entries_fit (has_color (kind_of h.format)) h.color_endpoints) _ p4.1 in
    let p6 = both_hold (entries_fit (has_color (kind_of h.format)) h.color_selectors) _ p5.1 in
    let p7 = both_hold (entries_fit (has_alpha (kind_of h.format)) h.alpha_endpoints) _ p6.1 in
    let faces = one_or_six h.faces (eqb h.faces 1) (eqb h.faces 6) refl refl p3.0 in
    record {
      width = leb-true _ _ (both_hold (leb 1 h.width) _ p0.0).1;
      height = leb-true _ _ (both_hold (leb 1 h.height) _ p1.0).1;
      level = leb-true _ _ (both_hold (leb 1 h.levels) _ p2.0).0;
      levels = leb-true _ _ (both_hold (leb 1 h.levels) _ p2.0).1;
      face = faces.0;
      faces = faces.1;
      known = p4.0;
      color_ends = entries (has_color (kind_of h.format)) h.color_endpoints p5.0;
      color_sels = entries (has_color (kind_of h.format)) h.color_selectors p6.0;
      alpha_ends = entries (has_alpha (kind_of h.format)) h.alpha_endpoints p7.0;
      alpha_sels = entries (has_alpha (kind_of h.format)) h.alpha_selectors p7.1;
    }
