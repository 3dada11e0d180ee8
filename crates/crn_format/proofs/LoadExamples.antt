-- Looks and loads, computed: a header of 74 bytes, DXT1, 4 by 4 pixels, whose table segment is empty, so that opening refuses it by 4.
use Prim.Native.Nat.{ℕ}
use mathlib.Core.Path.{◌≡◌, refl}
use mathlib.Core.List.{List, [], ◌∷◌, ◌++◌}
use lib.ListN.{take, replicate}
use Rattle.crn_format.specs.Header.{signed_in, field, offsets_from, header_of, kind_of, within_limits, sizes_in}
use Rattle.crn_format.specs.Look.{look_at, look_of}
use Rattle.crn_format.specs.Opening.{Palettes, shut, segments_stand, opening}
use Rattle.crn_format.specs.Loading.{same_all, same_part, same_sizes, same_kind, same_parts, same_levels, same_header, agrees, loading}

-- its fields are told by the bytes that are not zero: the data size, the width, and the last byte of the user data are handed in
abbrev small : ℕ → ℕ → ℕ → List ℕ
small size width user =
    0x48 ∷ 0x78 ∷ 0 ∷ 74 ∷ 0 ∷ 0 ∷ 0 ∷ 0 ∷ 0 ∷ size ∷ 0 ∷ 0 ∷ 0 ∷ width ∷ 0 ∷ 4 ∷ 1 ∷ 1 ∷ 0 ∷
    replicate 13 0 ++ user ∷ replicate 7 0 ++ 1 ∷ replicate 7 0 ++ 1 ∷ replicate 24 0 ++ 74 ∷ []

abbrev lent : Palettes
lent = record { color_ends = 7 ∷ []; color_sels = 7 ∷ []; alpha_ends = []; alpha_sels = 7 ∷ [] }

-- the look: the header, by its first bytes too; 1 of a file that is too short, 2 of a width of 0, 3 of more data than there are bytes
looks : ((look_of (small 74 4 0)).refusal ≡ 0) × (((look_of (small 74 4 0)).header.width ≡ 4) ×
    ((look_of (small 74 4 0)).header.userdata1 ≡ 0))
unfolding look_at signed_in header_of field offsets_from kind_of within_limits sizes_in
looks = (refl, (refl, refl))

refusals : ((look_at (small 74 4 0) 73).refusal ≡ 1) × (((look_of (small 74 0 0)).refusal ≡ 2) × ((look_of (small 75 4 0)).refusal ≡ 3))
unfolding look_at signed_in header_of field offsets_from kind_of within_limits sizes_in
refusals = (refl, (refl, refl))

-- of more bytes than these the look asks only how many there are
longer : ((look_at (small 75 4 0) 75).refusal ≡ 0) × ((look_at (take 18 (small 75 4 0)) 75).refusal ≡ 2)
unfolding look_at signed_in header_of field offsets_from kind_of within_limits sizes_in
longer = (refl, refl)

-- the load by this file's record is refused by 4, as opening is; by that of another width, or with one other byte of user data, by 17; and
-- so by any record where the look refuses the file
loads : (loading (header_of (small 74 4 0)) (small 74 4 0) lent ≡ shut 4 0 lent) × ((opening (small 74 4 0) lent ≡ shut 4 0 lent)
    × ((loading (header_of (small 74 8 0)) (small 74 4 0) lent ≡ shut 17 0 lent)
    × ((loading (header_of (small 74 4 1)) (small 74 4 0) lent ≡ shut 17 0 lent)
    × (loading (header_of (small 75 4 0)) (small 75 4 0) lent ≡ shut 17 0 lent))))
unfolding loading opening agrees same_header same_sizes same_kind same_parts same_levels same_part same_all segments_stand look_at signed_in
    header_of
    field offsets_from kind_of within_limits sizes_in
loads = (refl, (refl, (refl, (refl, refl))))
