-- The words that a host is told are enough: palettes of so many have room for an opening.
use Prim.Native.Nat.{ℕ, ◌*◌, ◌≤◌}
use mathlib.Core.Path.{◌≡◌, refl}
use mathlib.Core.Bool.{Bool, true, false}
use lib.ListN.{length}
use lib.Dec.{leb, ltb}
use borrow.Author.Tests.{le-leb}
use Rattle.crn_format.specs.Choice.{pick, both}
use Rattle.crn_format.specs.Opening.{Palettes, room_for}
use Rattle.crn_format.specs.declared.Header.{Header}
use Rattle.crunch_abi.specs.Sizes.{palette_words}

plane : (there : Bool) (n m w k : ℕ) → n ≤ m → pick there w 0 ≤ k → pick there (both (leb n m) (leb w k)) true ≡ true
plane true n m w k h l = simp (le-leb n m h, le-leb w k l)
plane false n m w k h l = refl

pub palettes_fit : (h : Header) (lent : Palettes)
    → (palette_words h).color_endpoints ≤ length lent.color_ends → (palette_words h).color_selectors ≤ length lent.color_sels
    → (palette_words h).alpha_endpoints ≤ length lent.alpha_ends → (palette_words h).alpha_selectors ≤ length lent.alpha_sels
    → room_for h lent ≡ true
unfolding room_for
palettes_fit h lent a b c d =
    simp (
      plane (ltb 0 h.color_endpoints.count) h.color_endpoints.count (length lent.color_ends) h.color_selectors.count
          (length lent.color_sels) a b,
      plane (ltb 0 h.alpha_endpoints.count) h.alpha_endpoints.count (length lent.alpha_ends) (3 * h.alpha_selectors.count)
          (length lent.alpha_sels) c d,
    )
