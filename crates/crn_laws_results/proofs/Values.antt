-- Functions whose contract names the value of their answer, or of what they leave in the lent slice.
use Prim.Native.Nat.{ℕ, ◌/◌, ◌%◌, ◌<◌}
use mathlib.Core.Path.{◌≡◌, sym, ap}
use native.Mathlib.Omega.{arith}
use Rattle.std.specs.Prelude.{Ok, Err}
use Rattle.std.specs.declared.result.Result.{Result}
use Rattle.crn_format.specs.Look.{looked}
use Rattle.crn_format.specs.declared.Header.{Header}
use Rattle.crn_format.specs.declared.Looked.{Looked}
use Rattle.crn_format.specs.declared.Refusal.{Refusal}
use Rattle.crn_format.specs.declared.Tables.{Tables}
use Rattle.crn_format.proofs.Kind.has_color.Reads as kind-has-color
use Rattle.crn_format.proofs.Kind.has_alpha.Reads as kind-has-alpha
use Rattle.crn_format.proofs.Kind.is_known.Reads as kind-is-known
use Rattle.crn_format.proofs.Kind.block_bytes.Reads as kind-block-bytes
use Rattle.crn_format.proofs.KindFromU32.from.Reads as kind-from
use Rattle.crn_format.proofs.U32FromRefusal.from.Reads as number-from
use Rattle.crn_utils.proofs.limit.Reads as limit
use Rattle.crn_utils.proofs.byte.Reads as byte
use Rattle.crn_utils.proofs.big16.Reads as big16
use Rattle.crn_utils.proofs.big24.Reads as big24
use Rattle.crn_utils.proofs.big32.Reads as big32
use Rattle.crn_utils.proofs.little32.Reads as little32
use Rattle.crn_utils.proofs.little64.Reads as little64
use Rattle.crn_bytes.proofs.eight_low.Reads as eight-low
use Rattle.crn_bytes.proofs.eight_bytes.Reads as eight-bytes
use Rattle.crn_bytes.proofs.last_bytes.Reads as last-bytes
use Rattle.crn_consts.proofs.tile_count.Reads as tile-count
use Rattle.crn_consts.specs.Tiles.{tile_in}
use Rattle.crn_consts.proofs.tiles.Reads as tiles
use Rattle.crn_consts.proofs.from_linear.Reads as from-linear
use Rattle.crn_consts.proofs.length_symbol.Reads as length-symbol
use Rattle.crn_consts.proofs.alpha_deltas.Reads as alpha-deltas
use Rattle.crn_formats.proofs.between.Reads as between
use Rattle.crn_formats.proofs.implies.Reads as implies
use Rattle.crn_formats.proofs.has_color.Reads as has-color
use Rattle.crn_formats.proofs.has_alpha.Reads as has-alpha
use Rattle.crn_formats.proofs.is_known.Reads as is_Known
use Rattle.crn_formats.specs.Records.{tables_sliced}
use Rattle.crn_formats.proofs.block_bytes.Reads as block-bytes
use Rattle.crn_formats.proofs.CodeTables.as_slices.Reads as as-slices
use Rattle.crn_header.proofs.is_signed.Reads as is_Signed
use Rattle.crn_header.proofs.header_of.Reads as header_of
use Rattle.crn_bounds.proofs.within_limits.Reads as within-limits
use Rattle.crn_bounds.proofs.sizes_hold.Reads as sizes-hold
use Rattle.crn_decomp.proofs.look.Reads as look
use Rattle.crn_decomp.proofs.look_at.Reads as look_at
use Rattle.crn_decomp.proofs.agrees.Reads as agrees
use Rattle.crn_segments.proofs.segments_stand.Reads as segments-stand
use Rattle.crn_segments.proofs.room_for.Reads as room_for
use Rattle.crn_grid.proofs.columns_of.Reads as columns_of
use Rattle.crn_grid.proofs.rows_of.Reads as rows_of_lem
use Rattle.crn_grid.proofs.grid_fits.Reads as grid-fits
use Rattle.crn_grid.proofs.reaches.Reads as reaches
use Rattle.crn_level_checks.proofs.level_start.Reads as level-start
use Rattle.crn_level_checks.proofs.level_end.Reads as level-end
use Rattle.crn_level_checks.proofs.level_stands.Reads as level-stands
use Rattle.crn_level_checks.proofs.palettes_reach.Reads as palettes-reach
use Rattle.crn_symbol_codec.proofs.refusal.Reads as refusal
use Rattle.crn_symbol_codec.proofs.place.Reads as place
use Rattle.crn_symbol_codec.proofs.entry.Reads as entry
use Rattle.crn_static_huffman_data_model.proofs.is_code.Reads as is_code
use Rattle.crn_blocks.proofs.put_eight.Reads as put-eight
use Rattle.crn_blocks.proofs.clear.Reads as clear
use Rattle.crn_blocks.proofs.cutouts.Reads as cutouts
use Rattle.crn_decoders.proofs.tables_hold.Reads as tables_hold_lem
use Rattle.crn_decoders.proofs.planes_of.Reads as planes-of
use Rattle.crn_decoders.proofs.sizes_for.Reads as sizes-for
use Rattle.crn_sizes.proofs.level_sizes.Reads as level-sizes
use Rattle.crn_edits.proofs.edited.Reads as edited
use Rattle.fnv.proofs.step.Reads as step
use Rattle.draw_bench.proofs.sum_of_draws.Reads as sum-of-draws
use Rattle.crn_laws_results.specs.Settled.{Settled, the_answer, alike}
use Rattle.crn_format.proofs.Numbers.{number-one}
use Rattle.crn_laws_results.proofs.Numbers.{some_number}

-- ---- crn_format: a kind of block, by its number and by its properties, and a refusal's number

pub kind_from-settled : Settled kind-from.Post the_answer
kind_from-settled _ _ _ _ _ _ _ p q = alike p q

pub kind_has_color-settled : Settled kind-has-color.Post the_answer
kind_has_color-settled _ _ _ _ _ _ _ p q = alike p q

pub kind_has_alpha-settled : Settled kind-has-alpha.Post the_answer
kind_has_alpha-settled _ _ _ _ _ _ _ p q = alike p q

pub kind_is_known-settled : Settled kind-is-known.Post the_answer
kind_is_known-settled _ _ _ _ _ _ _ p q = alike p q

pub kind_block_bytes-settled : Settled kind-block-bytes.Post the_answer
kind_block_bytes-settled _ _ _ _ _ _ _ p q = alike p q

pub number_from-settled : Settled number-from.Post the_answer
number_from-settled _ _ _ _ _ _ _ p q = alike p q

-- ---- crn_utils

pub limit-settled : Settled limit.Post the_answer
limit-settled _ _ _ _ _ _ _ p q = alike p q

pub byte-settled : Settled byte.Post the_answer
byte-settled _ _ _ _ _ _ _ p q = alike p.0 q.0

pub big16-settled : Settled big16.Post the_answer
big16-settled _ _ _ _ _ _ _ p q = alike p.0 q.0

pub big24-settled : Settled big24.Post the_answer
big24-settled _ _ _ _ _ _ _ p q = alike p.0 q.0

pub big32-settled : Settled big32.Post the_answer
big32-settled _ _ _ _ _ _ _ p q = alike p q

pub little32-settled : Settled little32.Post the_answer
little32-settled _ _ _ _ _ _ _ p q = alike p q

pub little64-settled : Settled little64.Post the_answer
little64-settled _ _ _ _ _ _ _ p q = alike p q

-- ---- crn_bytes

pub eight_low-settled : Settled eight-low.Post the_answer
eight_low-settled _ _ _ _ _ _ _ p q = alike p q

pub eight_bytes-settled : Settled eight-bytes.Post the_answer
eight_bytes-settled _ _ _ _ _ _ _ p q = alike p q

pub last_bytes-settled : Settled last-bytes.Post the_answer
last_bytes-settled _ _ _ _ _ _ _ p q = alike p q

-- ---- crn_consts

pub tile_count-settled : Settled tile-count.Post the_answer
tile_count-settled _ _ _ _ _ _ _ p q = alike p.0 q.0

-- two bits, and what stands above them
by_two-bits : (r s : ℕ) → r % 4 ≡ s % 4 → r / 4 ≡ s / 4 → r ≡ s
by_two-bits r s low high = omega arith

-- the bits of a byte, two and two
first-bits : (r s : ℕ) → r / 1 % 4 ≡ s / 1 % 4 → r % 4 ≡ s % 4
first-bits r s e = omega arith

third-bits : (r s : ℕ) → r / 16 % 4 ≡ s / 16 % 4 → r / 4 / 4 % 4 ≡ s / 4 / 4 % 4
third-bits r s e = omega arith

last-bits : (r s : ℕ) → r < 256 → s < 256 → r / 64 % 4 ≡ s / 64 % 4 → r / 4 / 4 / 4 ≡ s / 4 / 4 / 4
last-bits r s h k e = omega arith

pub tiles-settled : Settled tiles.Post the_answer
tiles-settled _ _ _ r s _ _ p q =
    by_two-bits r s (first-bits r s (pair 0 (omega arith)))
    (by_two-bits (r / 4) (s / 4) (pair 1 (omega arith))
    (by_two-bits (r / 4 / 4) (s / 4 / 4) (third-bits r s (pair 2 (omega arith))) (last-bits r s p.small q.small (pair 3 (omega arith)))))
  where
    pair : (k : ℕ) → k < 4 → tile_in r k ≡ tile_in s k
    pair k four = alike (p.each k four) (q.each k four)

pub from_linear-settled : Settled from-linear.Post the_answer
from_linear-settled _ _ _ _ _ _ _ p q = alike p q

pub length_symbol-settled : Settled length-symbol.Post the_answer
length_symbol-settled _ _ _ _ _ _ _ p q = alike p.0 q.0

pub alpha_deltas-settled : Settled alpha-deltas.Post the_answer
alpha_deltas-settled _ _ _ _ _ _ _ p q = alike p.rule q.rule

-- ---- crn_formats

pub between-settled : Settled between.Post the_answer
between-settled _ _ _ _ _ _ _ p q = alike p q

pub implies-settled : Settled implies.Post the_answer
implies-settled _ _ _ _ _ _ _ p q = alike p q

pub has_color-settled : Settled has-color.Post the_answer
has_color-settled _ _ _ _ _ _ _ p q = alike p q

pub has_alpha-settled : Settled has-alpha.Post the_answer
has_alpha-settled _ _ _ _ _ _ _ p q = alike p q

pub is_known-settled : Settled is_Known.Post the_answer
is_known-settled _ _ _ _ _ _ _ p q = alike p q

pub block_bytes-settled : Settled block-bytes.Post the_answer
block_bytes-settled _ _ _ _ _ _ _ p q = alike p q

-- the counts and what the slices hold
pub as_slices-settled : Settled {X = Tables} as-slices.Post (λ a r e. tables_sliced r)
as_slices-settled _ _ _ _ _ _ _ p q = alike p.0 q.0

-- ---- crn_decomp

pub is_signed-settled : Settled is_Signed.Post the_answer
is_signed-settled _ _ _ _ _ _ _ p q = alike p q

pub header_of-settled : Settled header_of.Post the_answer
header_of-settled _ _ _ _ _ _ _ p q = alike p q

pub within_limits-settled : Settled within-limits.Post the_answer
within_limits-settled _ _ _ _ _ _ _ p q = alike p q

pub sizes_hold-settled : Settled sizes-hold.Post the_answer
sizes_hold-settled _ _ _ _ _ _ _ p q = alike p q

-- a look by its number and its header tells the answer
looked_tells : (r s : Result Header Refusal) → looked r ≡ looked s → r ≡ s
looked_tells (Ok h) (Ok g) e = λ i. Ok (e i).header
looked_tells (Ok h) (Err n) e = absurd (some_number n (sym (ap (λ (x : Looked). x.refusal) e)))
looked_tells (Err m) (Ok g) e = absurd (some_number m (ap (λ (x : Looked). x.refusal) e))
looked_tells (Err m) (Err n) e = ap Err (number-one (ap (λ (x : Looked). x.refusal) e))

pub look-settled : Settled look.Post the_answer
look-settled _ _ _ r s _ _ p q = looked_tells r s (alike p q)

pub look_at-settled : Settled look_at.Post the_answer
look_at-settled _ _ _ r s _ _ p q = looked_tells r s (alike p q)

pub agrees-settled : Settled agrees.Post the_answer
agrees-settled _ _ _ _ _ _ _ p q = alike p q

pub segments_stand-settled : Settled segments-stand.Post the_answer
segments_stand-settled _ _ _ _ _ _ _ p q = alike p q

pub room_for-settled : Settled room_for.Post the_answer
room_for-settled _ _ _ _ _ _ _ p q = alike p q

-- ---- crn_grid

pub columns_of-settled : Settled columns_of.Post the_answer
columns_of-settled _ _ _ _ _ _ _ p q = alike (p.0 0 0) (q.0 0 0)

pub rows_of-settled : Settled rows_of_lem.Post the_answer
rows_of-settled _ _ _ _ _ _ _ p q = alike (p.0 0 0) (q.0 0 0)

pub grid_fits-settled : Settled grid-fits.Post the_answer
grid_fits-settled _ _ _ _ _ _ _ p q = alike p q

pub reaches-settled : Settled reaches.Post the_answer
reaches-settled _ _ _ _ _ _ _ p q = alike p q

pub level_start-settled : Settled level-start.Post the_answer
level_start-settled _ _ _ _ _ _ _ p q = alike p q

pub level_end-settled : Settled level-end.Post the_answer
level_end-settled _ _ _ _ _ _ _ p q = alike p q

pub level_stands-settled : Settled level-stands.Post the_answer
level_stands-settled _ _ _ _ _ _ _ p q = alike p q

pub palettes_reach-settled : Settled palettes-reach.Post the_answer
palettes_reach-settled _ _ _ _ _ _ _ p q = alike p q

-- ---- crn_symbol_codec, crn_static_huffman_data_model: those that answer no cursor

pub refusal-settled : Settled refusal.Post the_answer
refusal-settled _ _ _ _ _ _ _ p q = alike p q

pub place-settled : Settled place.Post the_answer
place-settled _ _ _ _ _ _ _ p q = alike p q

pub entry-settled : Settled entry.Post the_answer
entry-settled _ _ _ _ _ _ _ p q = alike p q

pub is_code-settled : Settled is_code.Post the_answer
is_code-settled _ _ _ _ _ _ _ p q = alike p q

-- ---- crn_blocks: a lent slice

pub put_eight-settled : Settled put-eight.Post (λ a r e. e.0.now)
put_eight-settled _ _ _ _ _ _ _ p q = alike p q

pub clear-settled : Settled clear.Post (λ a r e. e.0.now)
clear-settled _ _ _ _ _ _ _ p q = alike p q

pub cutouts-settled : Settled cutouts.Post the_answer
cutouts-settled _ _ _ _ _ _ _ p q = alike p q

-- ---- crn_decoders: those that make no table

pub tables_hold-settled : Settled tables_hold_lem.Post the_answer
tables_hold-settled _ _ _ _ _ _ _ p q = alike p q

pub planes_of-settled : Settled planes-of.Post the_answer
planes_of-settled _ _ _ _ _ _ _ p q = alike p q

pub sizes_for-settled : Settled sizes-for.Post the_answer
sizes_for-settled _ _ _ _ _ _ _ p q = alike p q

-- ---- crn_sizes

pub level_sizes-settled : Settled level-sizes.Post the_answer
level_sizes-settled _ _ _ _ _ _ _ p q = alike p q

-- ---- crn_edits, fnv, draw_bench

pub edited-settled : Settled edited.Post the_answer
edited-settled _ _ _ _ _ _ _ p q = alike p q

pub step-settled : Settled step.Post the_answer
step-settled _ _ _ _ _ _ _ p q = alike p q

pub sum_of_draws-settled : Settled sum-of-draws.Post the_answer
sum_of_draws-settled _ _ _ _ _ _ _ p q = alike p q
