-- The sixteen texels of a block, rows downward, each row from left to right.
use Rattle.std.specs.Prelude.{ℕ, ◌+◌, ◌*◌, ◌/◌, ◌%◌, ◌^◌, Bool, true, false, List, [], ◌∷◌, ◌++◌, get_or, ltb, eqb}
use Rattle.crn_format.specs.Choice.{pick}
use Rattle.crn_format.specs.declared.Kind.{Kind}
use Rattle.crn_format.specs.declared.Kind.TheVariants.{DXT1, DXT5, DXT5A, DXN, Unknown}
use Rattle.crn_utils.specs.Little.{little_at}
use Rattle.bcn_format.specs.Channels.{Channel, none, full, ramp}

-- the selector of texel t, of so many bits
abbrev pub selector : ℕ → ℕ → ℕ → ℕ
selector bits s t = s / 2 ^ (bits * t) % 2 ^ bits

-- ---- colours: two words of 5 bits red, 6 green and 5 blue, then a selector word

pub record Part : Type 0 where
  pub bits : ℕ
  pub shift : ℕ

abbrev pub red : Part
red = record { bits = 5; shift = 11 }

abbrev pub green : Part
green = record { bits = 6; shift = 5 }

abbrev pub blue : Part
blue = record { bits = 5; shift = 0 }

abbrev pub part_of : Part → ℕ → ℕ
part_of p w = w / 2 ^ p.shift % 2 ^ p.bits

-- a part of the colour of selector i, in four-colour mode or in three-colour mode, where selector 3 is black
unfoldable pub shade : Bool → Part → ℕ → ℕ → ℕ → Channel
shade true p v w i = ramp p.bits 3 (part_of p v) (part_of p w) i
shade false p v w i = pick (ltb i 3) (ramp p.bits 2 (part_of p v) (part_of p w) i) none

-- and transparent
unfoldable pub cover : Bool → ℕ → Channel
cover true i = full
cover false i = pick (ltb i 3) full none

abbrev pub colors : Bool → ℕ → ℕ → ℕ → List Channel
colors four v w i = shade four red v w i ∷ shade four green v w i ∷ shade four blue v w i ∷ []

-- ---- levels: two ends of 8 bits, then sixteen selectors of three bits

-- eight levels where the first end is above the second, else six, then none and full
unfoldable pub level : ℕ → ℕ → ℕ → Channel
level a b i = pick (ltb b a) (ramp 8 7 a b i) (pick (ltb i 6) (ramp 8 5 a b i) (pick (eqb i 6) none full))

-- ---- the kinds of block, from byte `at` on

module _ (b : List ℕ) where
  -- what eight bytes of colours say: two words, and the selector of texel t
  abbrev pub first_word : ℕ → ℕ
  first_word at = little_at b at 2

  abbrev pub second_word : ℕ → ℕ
  second_word at = little_at b (at + 2) 2

  abbrev pub color_selector : ℕ → ℕ → ℕ
  color_selector at t = selector 2 (little_at b (at + 4) 4) t

  -- and eight bytes of levels: texel t's
  unfoldable pub level_at : ℕ → ℕ → Channel
  level_at at t = level (get_or b at 0) (get_or b (at + 1) 0) (selector 3 (little_at b (at + 2) 6) t)

  -- red, green, blue and alpha: DXT1 as BC1 with alpha, whose words' order has the mode; DXT5 as BC3, which has the four-colour mode only;
  -- DXT5A as BC4; DXN as BC5
  unfoldable pub texel : Kind → ℕ → ℕ → List Channel
  texel DXT1 at t =
      colors four (first_word at) (second_word at) (color_selector at t) ++ (cover four (color_selector at t) ∷ [])
    where
      four : Bool
      four = ltb (second_word at) (first_word at)
  texel DXT5 at t = colors true (first_word (at + 8)) (second_word (at + 8)) (color_selector (at + 8) t) ++ (level_at at t ∷ [])
  texel DXT5A at t = level_at at t ∷ none ∷ none ∷ full ∷ []
  texel DXN at t = level_at at t ∷ level_at (at + 8) t ∷ none ∷ full ∷ []
  texel Unknown at t = []
