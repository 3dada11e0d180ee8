-- The header (document 01, Header): big-endian fields at fixed places, formats, limits and sizes.
use Rattle.std.specs.Prelude.{ℕ, zero, suc, ◌+◌, ◌*◌, Bool, true, false, List, [], ◌∷◌, length, get_or, leb, ltb, eqb}
use Rattle.crn_format.specs.Choice.{pick, both, either}
use Rattle.crn_format.specs.Limits.{max_side, max_levels, max_entries, too_long}
use Rattle.crn_format.specs.declared.Part.{Part}
use Rattle.crn_format.specs.declared.Header.{Header}
use Rattle.crn_format.specs.declared.Kind.{Kind}
use Rattle.crn_format.specs.declared.Kind.TheVariants.{DXT1, DXT5, DXT5A, DXN, Unknown}

-- "The signature is the two bytes 48 78 (hex), compared as they stand"; 74 bytes at least (refusal 1): of n bytes that begin with these
unfoldable pub signed_in : List ℕ → ℕ → Bool
signed_in head n = both (leb 74 n) (both (eqb (get_or head 0 0) 0x48) (eqb (get_or head 1 0) 0x78))

abbrev pub signed : List ℕ → Bool
signed file = signed_in file (length file)

-- the number that n bytes from `at` on spell, the first the highest; a byte past the file's end counts as 0 (such a file gets 3)
unfoldable pub field : List ℕ → ℕ → ℕ → ℕ
field file at zero = 0
field file at (suc n) = 256 * field file at n + get_or file (at + n) 0

abbrev pub part_at : List ℕ → ℕ → Part
part_at file at = record { offset = field file at 3; size = field file (at + 3) 3; count = field file (at + 6) 2 }

-- the offset of level i, zero where the file has no such level
abbrev pub offset_at : List ℕ → ℕ → ℕ → ℕ
offset_at file levels i = pick (ltb i levels) (field file (70 + 4 * i) 4) 0

-- n of them, from level i on
unfoldable pub offsets_from : List ℕ → ℕ → ℕ → ℕ → List ℕ
offsets_from file levels i zero = []
offsets_from file levels i (suc n) = offset_at file levels i ∷ offsets_from file levels (i + 1) n

-- the fields as read
unfoldable pub header_of : List ℕ → Header
unfolding offsets_from
header_of file =
    record {
      header_size = field file 2 2;
      header_crc16 = field file 4 2;
      data_size = field file 6 4;
      data_crc16 = field file 10 2;
      width = field file 12 2;
      height = field file 14 2;
      levels = field file 16 1;
      faces = field file 17 1;
      format = field file 18 1;
      flags = field file 19 2;
      reserved = field file 21 4;
      userdata0 = field file 25 4;
      userdata1 = field file 29 4;
      color_endpoints = part_at file 33;
      color_selectors = part_at file 41;
      alpha_endpoints = part_at file 49;
      alpha_selectors = part_at file 57;
      tables_size = field file 65 2;
      tables_offset = field file 67 3;
      level_offsets = offsets_from file (field file 16 1) 0 max_levels;
    }

-- ---- formats: "0 DXT1; 2 to 6 DXT5 and its swizzles; 7, 8 DXN; 9 DXT5A"

abbrev pub between : ℕ → ℕ → ℕ → Bool
between low high n = both (leb low n) (leb n high)

unfoldable pub kind_of : ℕ → Kind
kind_of f = pick (eqb f 0) DXT1 (pick (between 2 6 f) DXT5 (pick (between 7 8 f) DXN (pick (eqb f 9) DXT5A Unknown)))

abbrev pub known : Kind → Bool
known DXT1 = true
known DXT5 = true
known DXT5A = true
known DXN = true
known Unknown = false

abbrev pub has_color : Kind → Bool
has_color DXT1 = true
has_color DXT5 = true
has_color DXT5A = false
has_color DXN = false
has_color Unknown = false

abbrev pub has_alpha : Kind → Bool
has_alpha DXT1 = false
has_alpha DXT5 = true
has_alpha DXT5A = true
has_alpha DXN = true
has_alpha Unknown = false

abbrev pub block_bytes : Kind → ℕ
block_bytes DXT1 = 8
block_bytes DXT5 = 16
block_bytes DXT5A = 8
block_bytes DXN = 16
block_bytes Unknown = 0

-- ---- limits (refusal 2) and sizes (refusal 3)

-- "palette counts at most 8,192; each palette that the format uses has at least one entry"
abbrev pub entries_fit : Bool → Part → Bool
entries_fit uses p = between (pick uses 1 0) max_entries p.count

unfoldable pub within_limits : Header → Bool
unfolding kind_of
within_limits h =
    both (between 1 max_side h.width)
    (both (between 1 max_side h.height)
    (both (between 1 max_levels h.levels)
    (both (either (eqb h.faces 1) (eqb h.faces 6))
    (both (known kind)
    (both (entries_fit (has_color kind) h.color_endpoints)
    (both (entries_fit (has_color kind) h.color_selectors)
    (both (entries_fit (has_alpha kind) h.alpha_endpoints)
    (entries_fit (has_alpha kind) h.alpha_selectors))))))))
  where
    kind : Kind
    kind = kind_of h.format

-- "Header size is at least 70 + 4 x levels; neither it nor data size exceeds the file's length", n, and that is 4,294,967,295 at most
unfoldable pub sizes_in : ℕ → Header → Bool
sizes_in n h =
    both (leb (70 + 4 * h.levels) h.header_size)
    (both (leb h.header_size n) (both (leb h.data_size n) (ltb n too_long)))

abbrev pub sizes_hold : List ℕ → Header → Bool
sizes_hold file h = sizes_in (length file) h
