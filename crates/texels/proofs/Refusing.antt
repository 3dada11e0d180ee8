-- A refusal leaves the buffer, the tests in their order are the refusal's, and no refusal means that there is room. Assumes nothing.
use mathlib.Core.Path.{◌≡◌, refl, sym, ◌∙◌}
use mathlib.Core.Bool.{Bool, true, false, false≢true}
use mathlib.Core.List.{List}
use Prim.Native.Nat.{ℕ, ◌*◌, ◌-◌, ◌/◌, ◌≤◌, ◌<◌}
use native.Mathlib.Nat.{mul-le-mul, mul-le-mul_right, div-lt_iff_lt-mul, div-add-mod'}
use native.Mathlib.Omega.{arith}
use borrow.Author.Tests.{lt-ltb, le-ltb, ne_eqb, ltb-false, leb-true, not-false}
use lib.ListN.{length}
use lib.Dec.{ltb}
use Rattle.crn_format.specs.Choice.{pick, not}
use Rattle.crn_format.specs.Grid.{blocks}
use Rattle.crn_format.specs.declared.Kind.{Kind}
use Rattle.crn_format.specs.declared.Kind.TheVariants.{DXT1, DXT5, DXT5A, DXN, Unknown}
use Rattle.crn_format.specs.Header.{kind_of, known}
use Rattle.crn_format.specs.Limits.{max_side}
use Rattle.crn_format.proofs.Choices.{both_hold}
use Rattle.bcn_format.specs.Blocks.{texel}
use Rattle.bcn_format.specs.Picture.{side, fine, rgba, enough, reach, refusal, after}
use Rattle.bcn_format.specs.declared.Face.{Face}
use Rattle.texels.specs.Sheet.{Drawn, Room, Given, first}
use Rattle.texels.proofs.Picture.{whole}
use Rattle.texels.specs.Answers.{Answered}

-- ---- tests joined

-- a choice that is 0 was not for another number
past : (c : Bool) (n : ℕ) {m : ℕ} → (n ≡ 0 → ⊥) → pick c n m ≡ 0 → (c ≡ false) × (m ≡ 0)
past true n some e = absurd (some e)
past false n some e = (refl, e)

-- ---- format and size

pub record Sides (s : Face) : Type 0 where
  pub columns : 1 ≤ s.width
  pub few_columns : s.width ≤ max_side
  pub rows : 1 ≤ s.height
  pub few_rows : s.height ≤ max_side

pub sides : (format : ℕ) (s : Face) → fine format s ≡ true → Sides s
sides format s e =
    let both-sides = both_hold (side s.width) (side s.height) (both_hold (known (kind_of format)) _ e).1 in
    let width = both_hold _ _ both-sides.0 in
    let height = both_hold _ _ both-sides.1 in
    record {
      columns = leb-true 1 s.width width.0;
      few_columns = leb-true s.width max_side width.1;
      rows = leb-true 1 s.height height.0;
      few_rows = leb-true s.height max_side height.1;
    }

-- no more than a thousand and twenty-four blocks a side
pub few-blocks : {s : Face} → Sides s → blocks s.width * blocks s.height ≤ 1048576
few-blocks {s} h =
    let columns : blocks s.width ≤ 1024 = omega (arith, h.few_columns) in
    let rows : blocks s.height ≤ 1024 = omega (arith, h.few_rows) in
    omega (arith, mul-le-mul columns rows)

-- ---- the tests, in their order

module _ (format : ℕ) (s : Face) (given room : ℕ) where
  pub not-fine : fine format s ≡ false → refusal format s given room ≡ 2
  unfolding refusal
  not-fine e = rw e

  module _ (e : fine format s ≡ true) where
    pub low-pitch : s.pitch < 4 * s.width → refusal format s given room ≡ 18
    unfolding refusal
    low-pitch h = rw (e, lt-ltb s.pitch (4 * s.width) h)

    module _ (p : 4 * s.width ≤ s.pitch) where
      pub too_few : given < enough (kind_of format) s → refusal format s given room ≡ 28
      unfolding refusal
      too_few h = rw (e, le-ltb s.pitch (4 * s.width) p, lt-ltb given (enough (kind_of format) s) h)

      module _ (g : enough (kind_of format) s ≤ given) where
        pub short : room < reach s → refusal format s given room ≡ 12
        unfolding refusal
        short h = rw (e, le-ltb s.pitch (4 * s.width) p, le-ltb given (enough (kind_of format) s) g, lt-ltb room (reach s) h)

        pub none_due : reach s ≤ room → refusal format s given room ≡ 0
        unfolding refusal
        none_due h = rw (e, le-ltb s.pitch (4 * s.width) p, le-ltb given (enough (kind_of format) s) g, le-ltb room (reach s) h)

-- the room, by a division
module _ (s : Face) (room : ℕ) (h : Sides s) (p : 4 * s.width ≤ s.pitch) (row : 4 * s.width ≤ room) where
  pub too_short : (room - 4 * s.width) / s.pitch < s.height - 1 → room < reach s
  too_short lt =
      let some : 0 < s.pitch = omega (arith, h.columns) in
      omega (arith, (div-lt_iff_lt-mul some).0 lt)

  pub long-enough : s.height - 1 ≤ (room - 4 * s.width) / s.pitch → reach s ≤ room
  long-enough le = omega (arith, mul-le-mul_right s.pitch le, div-add-mod' (room - 4 * s.width) s.pitch)

-- ---- where no refusal is due

pub record Accepted (format : ℕ) (s : Face) (given room : ℕ) : Type 0 where
  pub there : Given (kind_of format) s given
  pub fits : Room s room

pub accepted : (format : ℕ) (s : Face) (given room : ℕ) → refusal format s given room ≡ 0 → Accepted format s given room
unfolding refusal
accepted format s given room e =
    let size = past (not (fine format s)) 2 (λ e. omega arith) e in
    let pitch = past (ltb s.pitch (4 * s.width)) 18 (λ e. omega arith) size.1 in
    let bytes = past (ltb given (enough (kind_of format) s)) 28 (λ e. omega arith) pitch.1 in
    let space = past (ltb room (reach s)) 12 (λ e. omega arith) bytes.1 in
    let taken = not-false (fine format s) size.0 in
    let h = sides format s taken in
    record {
      there = record {
        kind_known = (both_hold (known (kind_of format)) _ taken).0;
        all = ltb-false given (enough (kind_of format) s)
            bytes.0;
      };
      fits = record {
        few_columns = h.few_columns;
        few_rows = h.few_rows;
        narrow = ltb-false s.pitch (4 * s.width) pitch.0;
        all = ltb-false room (reach s) space.0;
      };
    }

-- ---- a texel has four bytes

pub fours : (kind : Kind) → known kind ≡ true → (s : Face) (bs : List ℕ) (x y : ℕ) → length (rgba kind s bs x y) ≡ 4
unfolding rgba texel
fours DXT1 e s bs x y = refl
fours DXT5 e s bs x y = refl
fours DXT5A e s bs x y = refl
fours DXN e s bs x y = refl
fours Unknown e s bs x y = absurd (false≢true e)

-- ---- the answer

module _ {format : ℕ} {s : Face} (bs d : List ℕ) where
  pub left_alone : {n : ℕ} → n ≡ refusal format s (length bs) (length d) → (n ≡ 0 → ⊥) → Answered format s bs d n d
  unfolding after
  left_alone {n} is some = record { number = is; left = rw (sym is, ne_eqb n 0 some) }

  pub drawn-there : {n : ℕ} {e : List ℕ} → n ≡ refusal format s (length bs) (length d) → n ≡ 0 → Drawn s (rgba (kind_of format) s bs) 0
      (first s 0 (blocks s.height)) d e
      → Answered format s bs d n e
  unfolding after
  drawn-there {n} is none p =
      let due : refusal format s (length bs) (length d) ≡ 0 = sym is ∙ none in
      let taken = accepted format s (length bs) (length d) due in
      record { number = is; left = rw due (whole taken.fits (fours (kind_of format) taken.there.kind_known s bs) p) }
