-- The limits of document 01, each in this place alone.
use Rattle.std.specs.Prelude.{ℕ, ◌^◌}

-- pixels of a side (Header)
abbrev pub max_side : ℕ
max_side = 4096

-- levels of a file (Header)
abbrev pub max_levels : ℕ
max_levels = 13

-- entries of a palette (Header)
abbrev pub max_entries : ℕ
max_entries = 8192

-- symbols of a code table (Codes)
abbrev pub max_symbols : ℕ
max_symbols = 8192

-- bits of a code, and the room for all codes of a table, of which a code of l bits takes 2^(16 - l) (Codes)
abbrev pub max_length : ℕ
max_length = 16

abbrev pub all_room : ℕ
all_room = 65536

-- chunk symbols are below this (Refusal numbers, 13)
abbrev pub chunk_symbols : ℕ
chunk_symbols = 1024

-- a lent file is shorter than this (Header)
abbrev pub too_long : ℕ
too_long = 2 ^ 32
