-- What a call's answer says of each byte of the buffer: each is its texel's channel, less than two steps of 255 away from the exact
-- fraction, and all else is as it was. Assumes nothing but, for the last, that the blocks are bytes.
use mathlib.Core.Path.{◌≡◌, refl, sym, ap, ◌∙◌}
use mathlib.Core.Bool.{Bool, true, false}
use mathlib.Core.List.{List}
use Prim.Native.Nat.{ℕ, ◌+◌, ◌*◌, ◌%◌, ◌<◌}
use borrow.Author.Tests.{ne_eqb}
use lib.Dec.{eqb}
use lib.ListN.{length, get_or, get_or-map}
use Rattle.crn_format.specs.Choice.{pick}
use Rattle.crn_format.specs.Header.{kind_of}
use Rattle.bcn_format.specs.Channels.{none, byte, exact, Near}
use Rattle.bcn_format.specs.Blocks.{texel}
use Rattle.bcn_format.specs.Picture.{Bytes, block_start, channel, rgba, texel_place, drawn, refusal, after}
use Rattle.bcn_format.specs.declared.Face.{Face}
use Rattle.bcn_format.proofs.Sound.{texel-near}
use Rattle.texels.specs.Sheet.{In, Within}
use Rattle.texels.proofs.Picture as picture
use Rattle.texels.specs.Answers.{Answered}
use Rattle.texels.proofs.Refusing.{Accepted, accepted, fours}

module _ (format : ℕ) (s : Face) (bs d : List ℕ) {r : ℕ} {e : List ℕ} (a : Answered format s bs d r e) where
  -- a refusal touches nothing
  pub untouched : (r ≡ 0 → ⊥) → e ≡ d
  unfolding after
  untouched some =
      let due : refusal format s (length bs) (length d) ≡ r = sym a.number in
      let left : after format s bs d ≡ d = rw (due, ne_eqb r 0 some) in
      a.left ∙ left

  pub long_as_before : length e ≡ length d
  unfolding after
  long_as_before = ap length a.left ∙ kept-long (eqb (refusal format s (length bs) (length d)) 0)
    where
      kept-long : (taken : Bool) → length (pick taken (drawn s (rgba (kind_of format) s bs) s.height d) d) ≡ length d
      kept-long true = picture.drawn-length s (rgba (kind_of format) s bs) s.height d
      kept-long false = refl

  module _ (none_due : r ≡ 0) where
    due : refusal format s (length bs) (length d) ≡ 0
    due = sym a.number ∙ none_due

    taken : Accepted format s (length bs) (length d)
    taken = accepted format s (length bs) (length d) due

    is-drawn : e ≡ drawn s (rgba (kind_of format) s bs) s.height d
    unfolding after
    is-drawn = let left : after format s bs d ≡ drawn s (rgba (kind_of format) s bs) s.height d = rw due in a.left ∙ left

    -- bytes that lie in no texel, between the rows and behind the last, stay put
    pub kept : (k : ℕ) → ((x y : ℕ) → In s x y → Within s x y k → ⊥) → get_or e k 0 ≡ get_or d k 0
    kept k out = ap (λ (l : List ℕ). get_or l k 0) is-drawn ∙ picture.drawn-kept s (rgba (kind_of format) s bs)
        (fours (kind_of format) taken.there.kind_known s bs) d k out

    pub texel-there : {x y k : ℕ} → In s x y → k < 4
        → get_or e (texel_place s x y + k) 0 ≡ byte (channel (kind_of format) s bs x y k)
    unfolding rgba byte
    texel-there {x} {y} {k} at h =
        ap (λ (l : List ℕ). get_or l (texel_place s x y + k) 0) is-drawn
        ∙ picture.drawn-there s (rgba (kind_of format) s bs) (fours (kind_of format) taken.there.kind_known s bs)
        taken.fits at h d refl
        ∙ get_or-map byte (texel bs (kind_of format) (block_start (kind_of format) s x y) (4 * (y % 4) + x % 4)) k none

    pub near : Bytes bs → {x y k : ℕ} → In s x y → k < 4
        → Near (exact (channel (kind_of format) s bs x y k)) (get_or e (texel_place s x y + k) 0)
    near bytes {x} {y} {k} at h =
        rw (texel-there at h)
        (texel-near bs bytes (block_start (kind_of format) s x y) (4 * (y % 4) + x % 4) (kind_of format) k)
