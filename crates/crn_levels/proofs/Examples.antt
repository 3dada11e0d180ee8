-- The definition computed: a file of two levels, of 8 x 8 and of 4 x 4 pixels, in which every code is one bit and every bit is 0. The file
-- serves examples of other crates too.
use Prim.Native.Nat.{ℕ}
use mathlib.Core.Path.{◌≡◌, refl}
use mathlib.Core.List.{List, [], ◌∷◌, ◌++◌}
use lib.ListN.{replicate}
use Rattle.crn_format.specs.Bits.{spelled}
use Rattle.crn_format.specs.Codes.{below, used, first_code, longest_up_to, room, all_fit, nth, seek}
use Rattle.crn_format.specs.Reading.{next, then, run, of_drawn, served, from_bits, charged, budgeted}
use Rattle.crn_format.specs.Level.{endpoint_index, selector_index, endpoint_indices, plane_endpoints, plane_selectors, position_selectors, tile_counts, tile_map, encoding, last_or, lasts, last_row, chunk, chunks, level}
use Rattle.crn_format.specs.Grid.{inside, insides, little, half, halves, nth_list, block_of, chunk_at, block_at, row_painted, face_painted, painted, row_cutouts, face_cutouts, cutouts}
use Rattle.crn_format.specs.Header.{kind_of, within_limits}
use Rattle.crn_format.specs.Opening.{Palettes}
use Rattle.crn_format.specs.Unpacking.{tables_hold, level_stands, palettes_reach, grid_of, per_plane, cutout_count, ended, drawn_level, unpacking}
use Rattle.crn_format.specs.declared.Part.{Part}
use Rattle.crn_format.specs.declared.Table.{Table}
use Rattle.crn_format.specs.declared.Header.{Header}
use Rattle.crn_format.specs.declared.Record.{Record}
use Rattle.crn_sizes.specs.Sizes.{level_sizes}
use Rattle.crn_levels.specs.Several.{onward, several_from, several_of}

abbrev pub none : Part
none = record { offset = 0; size = 0; count = 0 }

abbrev pub one : Part
one = record { offset = 0; size = 0; count = 1 }

-- a code of one bit, and no code
abbrev pub bit : Table
bit = record { count = 1; lengths = 1 ∷ [] }

abbrev pub empty : Table
empty = record { count = 0; lengths = [] }

abbrev pub header : Header
header =
    record {
      header_size = 0;
      header_crc16 = 0;
      data_size = 0;
      data_crc16 = 0;
      width = 8;
      height = 8;
      levels = 2;
      faces = 1;
      format = 0;
      flags = 0;
      reserved = 0;
      userdata0 = 0;
      userdata1 = 0;
      color_endpoints = one;
      color_selectors = one;
      alpha_endpoints = none;
      alpha_selectors = none;
      tables_size = 0;
      tables_offset = 0;
      level_offsets = 0 ∷ 1 ∷ replicate 11 0;
    }

abbrev pub small : Record
small =
    record {
      header = header;
      tables = record {
        chunk_encoding = bit;
        color_endpoint_delta = bit;
        color_selector_delta = bit;
        alpha_endpoint_delta = empty;
        alpha_selector_delta = empty;
      };
    }

-- colour words 0 and 1, so that each block is a cut-out
abbrev pub palettes : Palettes
palettes = record { color_ends = 65536 ∷ []; color_sels = 9 ∷ []; alpha_ends = []; alpha_sels = [] }

abbrev pub block : List ℕ
block = 0 ∷ 0 ∷ 1 ∷ 0 ∷ 9 ∷ 0 ∷ 0 ∷ 0 ∷ []

abbrev pub four : List ℕ
four = block ++ (block ++ (block ++ block))

-- five blocks in 44 bytes that were 7; with two symbols for the second level it is refused, and its block is zero
shown : (several_of small (0 ∷ 0 ∷ []) palettes 0 100 (replicate 44 7)
    ≡ record {
      answer = record { refusal = 0; at = 0; levels = 2; symbols = 12; cutouts = 5 };
      left = 88;
      after = four ++ (block ++ replicate 4 7);
    })
    × (several_of small (0 ∷ 0 ∷ []) palettes 0 8 (replicate 44 7)
    ≡ record {
      answer = record { refusal = 15; at = 2; levels = 1; symbols = 8; cutouts = 4 };
      left = 0;
      after = four ++ (replicate 8 0 ++ replicate 4 7);
    })
unfolding several_from onward level_sizes spelled below used first_code longest_up_to room all_fit nth seek next then run of_drawn served
    from_bits charged budgeted endpoint_index selector_index endpoint_indices plane_endpoints plane_selectors position_selectors tile_counts
    tile_map encoding last_or lasts last_row chunk chunks level inside insides little half halves nth_list block_of chunk_at block_at
    row_painted face_painted painted row_cutouts face_cutouts cutouts kind_of within_limits tables_hold level_stands palettes_reach grid_of
    per_plane cutout_count ended drawn_level unpacking
shown = (refl, refl)
