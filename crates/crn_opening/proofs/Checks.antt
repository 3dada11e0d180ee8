-- What the checks before the stream say of a file's parts.
use Prim.Native.Nat.{ℕ, ◌+◌, ◌*◌, ◌≤◌, ◌<◌}
use mathlib.Core.Bool.{Bool, true}
use mathlib.Core.List.{List}
use mathlib.Core.Path.{◌≡◌, sym, ap, ◌∙◌}
use native.Mathlib.Omega.{arith}
use lib.ListN.{length}
use lib.Dec.{leb, ltb}
use borrow.Author.Tests.{leb-true, ltb-true, lt-ltb}
use Rattle.crn_format.specs.Choice.{pick, both}
use Rattle.crn_format.specs.Limits.{max_entries, too_long}
use Rattle.crn_format.specs.Header.{sizes_in}
use Rattle.crn_format.specs.Opening.{Palettes, of_plane, stands, part_stands, segments_stand, room_for}
use Rattle.crn_format.specs.declared.Part.{Part}
use Rattle.crn_format.specs.declared.Header.{Header}
use Rattle.crn_format.proofs.Choices.{both_hold}
use Rattle.crn_formats.proofs.Limited.{Limited, limited}
use Rattle.crn_opening.specs.Streams.{Passed, PlaneFits}

-- what holds of both palettes of a plane that is present
planes : (p : Part) (a b : Bool) → of_plane p a b ≡ true → 0 < p.count → (a ≡ true) × (b ≡ true)
planes p a b e h = both_hold a b (sym (ap (λ (t : Bool). pick t (both a b) true) (lt-ltb 0 p.count h)) ∙ e)

inside : (file : List ℕ) (p : Part) → part_stands file p ≡ true → p.offset + p.size ≤ length file
inside file p e = leb-true _ _ (both_hold (ltb 0 p.size) _ e).1

-- a plane, of whose selectors an entry takes so many words
plane_fits : (file : List ℕ) (ends sels : Part) (words room : ℕ) (b₁ b₂ : List ℕ) → words * sels.count ≤ room → length file < too_long
    → ends.count ≤ max_entries → sels.count ≤ max_entries → of_plane ends (part_stands file ends) (part_stands file sels) ≡ true
    → of_plane ends (leb ends.count (length b₁)) (leb room (length b₂)) ≡ true → PlaneFits file ends sels words b₁ b₂
plane_fits file ends sels words room b₁ b₂ enough short few₁ few₂ stand fit =
    record {
      short = short;
      first = λ there.
          let w : ends.count ≤ length b₁ = leb-true _ _ (planes ends _ _ fit there).0 in
          record { inside = inside file ends (planes ends _ _ stand there).0; few = few₁; room = omega arith };
      second = λ there.
          let w : room ≤ length b₂ = leb-true _ _ (planes ends (leb ends.count (length b₁)) _ fit there).1 in
          record { inside = inside file sels (planes ends (part_stands file ends) _ stand there).1; few = few₂; room = omega arith };
    }

module _ {file : List ℕ} {h : Header} {lent : Palettes} (passed : Passed file h lent) where
  pub file-short : length file < too_long
  unfolding sizes_in
  file-short =
      let enough = (both_hold (leb (70 + 4 * h.levels) h.header_size) _ passed.seen.sizes).1 in
      let held = (both_hold (leb h.header_size (length file)) _ enough).1 in
      ltb-true _ _ (both_hold (leb h.data_size (length file)) _ held).1

  pub tables-inside : h.tables_offset + h.tables_size ≤ length file
  unfolding segments_stand
  tables-inside =
      let tables = (both_hold (stands file h.tables_offset h.tables_size) _ passed.stand).0 in
      leb-true _ _ (both_hold (ltb 0 h.tables_size) _ tables).1

  few : Limited h
  few = limited h passed.seen.within

  pub color-fits : PlaneFits file h.color_endpoints h.color_selectors 1 lent.color_ends lent.color_sels
  unfolding segments_stand room_for
  color-fits =
      let ends = h.color_endpoints in
      let sels = h.color_selectors in
      let palettes = (both_hold (stands file h.tables_offset h.tables_size) _ passed.stand).1 in
      plane_fits file ends sels 1 sels.count _ _ (omega arith) file-short few.color_ends few.color_sels
      (both_hold (of_plane ends (part_stands file ends) (part_stands file sels)) _ palettes).0
      (both_hold (of_plane ends (leb ends.count (length lent.color_ends)) (leb sels.count (length lent.color_sels))) _ passed.room).0

  pub alpha-fits : PlaneFits file h.alpha_endpoints h.alpha_selectors 3 lent.alpha_ends lent.alpha_sels
  unfolding segments_stand room_for
  alpha-fits =
      let color = h.color_endpoints in
      let others = h.color_selectors in
      let ends = h.alpha_endpoints in
      let sels = h.alpha_selectors in
      let palettes = (both_hold (stands file h.tables_offset h.tables_size) _ passed.stand).1 in
      plane_fits file ends sels 3 (3 * sels.count) _ _ (omega arith) file-short few.alpha_ends few.alpha_sels
      (both_hold (of_plane color (part_stands file color) (part_stands file others)) _ palettes).1
      (both_hold (of_plane color (leb color.count (length lent.color_ends)) (leb others.count (length lent.color_sels))) _ passed.room).1
