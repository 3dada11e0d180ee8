-- The texels of a face in a lent buffer, and when a call is refused.
use Rattle.std.specs.Prelude.{ℕ, zero, suc, ◌+◌, ◌*◌, ◌-◌, ◌/◌, ◌%◌, ◌<◌, Bool, List, map, length, get_or, ltb, eqb}
use Rattle.std.proofs.lemmas.List.Edits.{sets}
use Rattle.crn_format.specs.Choice.{pick, both, not}
use Rattle.crn_format.specs.Grid.{blocks}
use Rattle.crn_format.specs.declared.Kind.{Kind}
use Rattle.crn_format.specs.Header.{between, kind_of, known, block_bytes}
use Rattle.crn_format.specs.Limits.{max_side}
use Rattle.bcn_format.specs.Channels.{Channel, none, byte}
use Rattle.bcn_format.specs.Blocks.{texel}
use Rattle.bcn_format.specs.declared.Face.{Face}

-- what a lent slice of bytes holds
abbrev pub Bytes : List ℕ → Type 0
Bytes b = (i : ℕ) → get_or b i 0 < 256

-- ---- texels

-- where the block of a texel starts, in a face's tightly packed blocks
abbrev pub block_start : Kind → Face → ℕ → ℕ → ℕ
block_start kind s x y = block_bytes kind * (y / 4 * blocks s.width + x / 4)

-- channel k of the texel in column x and row y: red, green, blue, alpha
abbrev pub channel : Kind → Face → List ℕ → ℕ → ℕ → ℕ → Channel
channel kind s bs x y k = get_or (texel bs kind (block_start kind s x y) (4 * (y % 4) + x % 4)) k none

-- its four bytes
unfoldable pub rgba : Kind → Face → List ℕ → ℕ → ℕ → List ℕ
rgba kind s bs x y = map byte (texel bs kind (block_start kind s x y) (4 * (y % 4) + x % 4))

-- ---- each texel in its place, all else as before

-- where a texel goes
abbrev pub texel_place : Face → ℕ → ℕ → ℕ
texel_place s x y = y * s.pitch + 4 * x

unfoldable pub row_drawn : Face → (ℕ → ℕ → List ℕ) → ℕ → ℕ → List ℕ → List ℕ
row_drawn s value y zero d = d
row_drawn s value y (suc x) d = sets (row_drawn s value y x d) (texel_place s x y) (value x y)

unfoldable pub drawn : Face → (ℕ → ℕ → List ℕ) → ℕ → List ℕ → List ℕ
unfolding row_drawn
drawn s value zero d = d
drawn s value (suc y) d = row_drawn s value y s.width (drawn s value y d)

-- ---- refusals, in their order; 0 where there is none

abbrev pub side : ℕ → Bool
side n = between 1 max_side n

abbrev pub fine : ℕ → Face → Bool
fine format s = both (known (kind_of format)) (both (side s.width) (side s.height))

abbrev pub enough : Kind → Face → ℕ
enough kind s = block_bytes kind * (blocks s.width * blocks s.height)

abbrev pub reach : Face → ℕ
reach s = (s.height - 1) * s.pitch + 4 * s.width

unfoldable pub refusal : ℕ → Face → ℕ → ℕ → ℕ
unfolding kind_of
refusal format s given room =
    pick (not (fine format s)) 2
    (pick (ltb s.pitch (4 * s.width)) 18 (pick (ltb given (enough (kind_of format) s)) 28 (pick (ltb room (reach s)) 12 0)))

-- what the buffer holds afterwards
unfoldable pub after : ℕ → Face → List ℕ → List ℕ → List ℕ
unfolding kind_of rgba drawn refusal
after format s bs d = pick (eqb (refusal format s (length bs) (length d)) 0) (drawn s (rgba (kind_of format) s bs) s.height d) d
