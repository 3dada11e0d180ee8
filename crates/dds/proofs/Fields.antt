-- The header has 128 bytes: the magic, and then its words. Assumes nothing.
use Prim.Native.Nat.{ℕ}
use mathlib.Core.Path.{◌≡◌, sym}
use mathlib.Core.List.{List, [], ◌∷◌}
use native.Mathlib.Omega.{arith}
use lib.ListN.{length, length-append}
use lib.Seq.{sets}
use Rattle.crn_format.specs.Header.{kind_of}
use Rattle.crn_format.specs.declared.Header.{Header}
use Rattle.crn_blocks.proofs.Places.{sets-append}
use Rattle.picture.specs.declared.Picture.{Picture}
use Rattle.picture.specs.Surfaces.{picture_of, surface}
use Rattle.picture.specs.Words.{words_of}
use Rattle.picture.proofs.Words.{words_long}
use Rattle.dds.specs.Header.{magic, letters, caps, caps2, head_bytes, header_words, dds_header}

pub header-long : (p : Picture) → length (dds_header p) ≡ head_bytes
unfolding dds_header header_words
header-long p = omega (arith, length-append magic (words_of (header_words p)), words_long (header_words p))

-- the two are put one after the other, by the fields as they were computed
pub in_two : (h : Header) (d : List ℕ) {linear code c c2 : ℕ} {after : List ℕ} → linear ≡ surface (picture_of h) 0
    → code ≡ letters (kind_of h.format) → c ≡ caps (picture_of h) → c2 ≡ caps2 (picture_of h) → after ≡ sets d 0 magic
    → sets after 4 (words_of (124 ∷ 0xA1007 ∷ h.height ∷ h.width ∷ linear ∷ 0 ∷ h.levels
    ∷ 0 ∷ 0 ∷ 0 ∷ 0 ∷ 0 ∷ 0 ∷ 0 ∷ 0 ∷ 0 ∷ 0 ∷ 0
    ∷ 32 ∷ 4 ∷ code ∷ 0 ∷ 0 ∷ 0 ∷ 0 ∷ 0
    ∷ c ∷ c2 ∷ 0 ∷ 0 ∷ 0 ∷ []))
    ≡ sets d 0 (dds_header (picture_of h))
unfolding dds_header header_words
in_two h d el ec ep ep2 so = rw (el, ec, ep, ep2, so) (sym (sets-append magic (words_of (header_words (picture_of h))) d 0))
