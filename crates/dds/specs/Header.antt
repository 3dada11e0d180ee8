-- A DDS file: the magic, a header of 124 bytes, and the surfaces.
use Rattle.std.specs.Prelude.{ℕ, ◌+◌, List, [], ◌∷◌, ◌++◌, ltb, eqb}
use Rattle.std.proofs.lemmas.List.Edits.{sets}
use Rattle.crn_format.specs.Choice.{pick, either}
use Rattle.crn_format.specs.declared.Kind.{Kind}
use Rattle.crn_format.specs.declared.Kind.TheVariants.{DXT1, DXT5, DXT5A, DXN, Unknown}
use Rattle.crn_format.specs.Header.{kind_of}
use Rattle.crn_format.specs.declared.Header.{Header}
use Rattle.picture.specs.declared.Picture.{Picture}
use Rattle.picture.specs.Surfaces.{picture_of, surface, by_face}
use Rattle.picture.specs.Words.{words_of}
use Rattle.picture.specs.Writing.{Container}

-- "DDS "
abbrev pub magic : List ℕ
magic = 68 ∷ 68 ∷ 83 ∷ 32 ∷ []

-- ---- the fields that depend on the picture

-- four letters as a word: DXT1, DXT5, BC4U, BC5U
abbrev pub letters : Kind → ℕ
letters DXT1 = 0x31545844
letters DXT5 = 0x35545844
letters DXT5A = 0x55344342
letters DXN = 0x55354342
letters Unknown = 0

-- DDSD: caps 1, height 2, width 4, pixel format 0x1000, mip map count 0x20000, linear size 0x80000
abbrev pub header_flags : ℕ
header_flags = 0xA1007

-- DDPF: the four letters are valid
abbrev pub by_letters : ℕ
by_letters = 4

-- DDSCAPS: texture, and for levels below the first a mip map, and complex where there is more than one surface
abbrev pub caps : Picture → ℕ
caps p =
    0x1000 + pick (ltb 1 p.levels) 0x400000 0 + pick (either (ltb 1 p.levels) (eqb p.faces 6)) 8 0

-- DDSCAPS2: a cube map 0x200, with each of its faces 0xFC00
abbrev pub caps2 : Picture → ℕ
caps2 p = pick (eqb p.faces 6) 0xFE00 0

-- ---- the bytes

abbrev pub head_bytes : ℕ
head_bytes = 128

-- dwSize, dwFlags, dwHeight, dwWidth, dwPitchOrLinearSize (of the first level of one face), dwDepth, dwMipMapCount, dwReserved1; ddspf:
-- dwSize, dwFlags, dwFourCC, no bit count, no masks; dwCaps, dwCaps2, dwCaps3, dwCaps4, dwReserved2
unfoldable pub header_words : Picture → List ℕ
header_words p =
    124 ∷ header_flags ∷ p.height ∷ p.width ∷ surface p 0 ∷ 0 ∷ p.levels
    ∷ 0 ∷ 0 ∷ 0 ∷ 0 ∷ 0 ∷ 0 ∷ 0 ∷ 0 ∷ 0 ∷ 0 ∷ 0
    ∷ 32 ∷ by_letters ∷ letters (kind_of p.format) ∷ 0 ∷ 0 ∷ 0 ∷ 0 ∷ 0
    ∷ caps p ∷ caps2 p ∷ 0 ∷ 0 ∷ 0 ∷ []

unfoldable pub dds_header : Picture → List ℕ
dds_header p = magic ++ words_of (header_words p)

-- how a DDS file is written: "faces outermost, each with its levels from large to small"
abbrev pub dds_of : Header → Container
dds_of h = record { plan = by_face head_bytes (picture_of h); stamp = λ cutouts d. sets d 0 (dds_header (picture_of h)) }
