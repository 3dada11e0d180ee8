-- The definition computed, on the file of two levels of which `crn_levels` computes all in one call (8 x 8 and 4 x 4 pixels, every code one
-- bit, every bit 0); and the places in a cube map.
use mathlib.Core.Path.{◌≡◌, refl}
use mathlib.Core.List.{List, [], ◌∷◌, ◌++◌}
use Prim.Native.Nat.{ℕ}
use lib.ListN.{replicate}
use Rattle.crn_format.specs.Bits.{spelled}
use Rattle.crn_format.specs.Codes.{below, used, first_code, longest_up_to, room, all_fit, nth, seek}
use Rattle.crn_format.specs.Reading.{next, then, run, of_drawn, served, from_bits, charged, budgeted}
use Rattle.crn_format.specs.Level.{endpoint_index, selector_index, endpoint_indices, plane_endpoints, plane_selectors, position_selectors}
use Rattle.crn_format.specs.Level.{tile_counts, tile_map, encoding, last_or, lasts, last_row, chunk, chunks, level}
use Rattle.crn_format.specs.Grid.{inside, insides, little, half, halves, nth_list, block_of, chunk_at, block_at}
use Rattle.crn_format.specs.Grid.{row_painted, face_painted, painted, row_cutouts, face_cutouts, cutouts}
use Rattle.crn_format.specs.Header.{kind_of, within_limits}
use Rattle.crn_format.specs.Unpacking.{tables_hold, level_stands, palettes_reach, grid_of, per_plane, cutout_count, ended, drawn_level, unpacking}
use Rattle.crn_sizes.specs.Sizes.{level_sizes}
use Rattle.crn_levels.proofs.Examples.{header, small, palettes, block, four}
use Rattle.picture.specs.declared.Picture.{Picture}
use Rattle.picture.specs.Surfaces.{picture_of, surface, chain_to, place_in, by_face}
use Rattle.picture.specs.Words.{words_of}
use Rattle.picture.specs.Writing.{early, onward, put_from, written, refused, finished, writing}
use Rattle.dds.specs.Header.{head_bytes, header_words, dds_header, dds_of}

-- "DDS ", the size of the header, flags, height, width, the bytes of the first level, levels; the pixel format; caps
head : List ℕ
head =
    (68 ∷ 68 ∷ 83 ∷ 32 ∷ 124 ∷ 0 ∷ 0 ∷ 0 ∷ 7 ∷ 16 ∷ 10 ∷ 0 ∷ 8 ∷ 0 ∷ 0 ∷ 0 ∷ 8 ∷ 0 ∷ 0 ∷ 0 ∷ 32 ∷ 0 ∷ 0 ∷ 0 ∷ 0 ∷ 0 ∷ 0 ∷ 0 ∷ 2 ∷ [])
    ++ (replicate 47 0
    ++ ((32 ∷ 0 ∷ 0 ∷ 0 ∷ 4 ∷ 0 ∷ 0 ∷ 0 ∷ 68 ∷ 88 ∷ 84 ∷ 49 ∷ [])
    ++ (replicate 20 0
    ++ ((8 ∷ 16 ∷ 64 ∷ [])
    ++ (replicate 17 0)))))

shown_header : dds_header (picture_of header) ≡ head
unfolding head dds_header header_words words_of little surface kind_of
shown_header = refl

-- a cube map of 5 x 7 pixels with three levels, in DXT5: 64, 16 and 16 bytes a face
abbrev cube : Picture
cube = record { format = 2; width = 5; height = 7; levels = 3; faces = 6 }

cube_head : List ℕ
cube_head =
    (68 ∷ 68 ∷ 83 ∷ 32 ∷ 124 ∷ 0 ∷ 0 ∷ 0 ∷ 7 ∷ 16 ∷ 10 ∷ 0 ∷ 7 ∷ 0 ∷ 0 ∷ 0 ∷ 5 ∷ 0 ∷ 0 ∷ 0 ∷ 64 ∷ 0 ∷ 0 ∷ 0 ∷ 0 ∷ 0 ∷ 0 ∷ 0 ∷ 3 ∷ [])
    ++ (replicate 47 0
    ++ ((32 ∷ 0 ∷ 0 ∷ 0 ∷ 4 ∷ 0 ∷ 0 ∷ 0 ∷ 68 ∷ 88 ∷ 84 ∷ 53 ∷ [])
    ++ (replicate 20 0
    ++ ((8 ∷ 16 ∷ 64 ∷ 0 ∷ 0 ∷ 254 ∷ [])
    ++ (replicate 14 0)))))

-- the last level of the last face begins 16 bytes before the end
shown_cube : (dds_header cube ≡ cube_head) × (place_in (by_face head_bytes cube) 1 0 ≡ 224) × (place_in (by_face head_bytes cube) 5 2 ≡ 688)
    × ((by_face head_bytes cube).total ≡ 704)
unfolding cube_head dds_header header_words words_of little surface chain_to kind_of
shown_cube = (refl, refl, refl, refl)

-- 168 bytes of the 172 that were 7; of one byte less nothing is written; where the second level's segment is empty all is zero, and what
-- lies beyond is left
shown : (writing dds_of small (0 ∷ 0 ∷ []) palettes (replicate 172 7)
    ≡ written 168 (record { symbols = 12; cutouts = 5 }) (head ++ (four ++ (block ++ replicate 4 7))))
    × (writing dds_of small (0 ∷ 0 ∷ []) palettes (replicate 167 7) ≡ refused (early 12) (replicate 167 7))
    × (writing dds_of small (0 ∷ []) palettes (replicate 172 7)
    ≡ refused (record { refusal = 4; level = 1; bit = 0; symbols = 6 }) (replicate 168 0 ++ replicate 4 7))
unfolding head writing put_from onward finished dds_header header_words words_of surface chain_to level_sizes spelled below used first_code
    longest_up_to room all_fit nth seek next then run of_drawn served from_bits charged budgeted endpoint_index selector_index
    endpoint_indices plane_endpoints plane_selectors position_selectors tile_counts tile_map encoding last_or lasts last_row chunk chunks
    level inside insides little half halves nth_list block_of chunk_at block_at row_painted face_painted painted row_cutouts face_cutouts
    cutouts kind_of within_limits tables_hold level_stands palettes_reach grid_of per_plane cutout_count ended drawn_level unpacking
shown = (refl, refl, refl)
