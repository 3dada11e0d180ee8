-- The header look (document 02, request 2): "Refusals: 1 to 3 belong to the look", in opening's order and without its streams.
use Rattle.std.specs.Prelude.{Ok, Err, ℕ, ◌+◌, ◌*◌, List, length, replicate}
use Rattle.std.specs.declared.result.Result.{Result}
use Rattle.crn_format.specs.Choice.{pick}
use Rattle.crn_format.specs.Limits.{max_levels}
use Rattle.crn_format.specs.Header.{signed_in, header_of, within_limits, sizes_in}
use Rattle.crn_format.specs.declared.Part.{Part}
use Rattle.crn_format.specs.declared.Header.{Header}
use Rattle.crn_format.specs.Refusals.{number_of}
use Rattle.crn_format.specs.declared.Looked.{Looked}
use Rattle.crn_format.specs.declared.Refusal.{Refusal}

abbrev pub empty_part : Part
empty_part = record { offset = 0; size = 0; count = 0 }

-- what a refusal gives for a header
abbrev pub empty_header : Header
empty_header =
    record {
      header_size = 0;
      header_crc16 = 0;
      data_size = 0;
      data_crc16 = 0;
      width = 0;
      height = 0;
      levels = 0;
      faces = 0;
      format = 0;
      flags = 0;
      reserved = 0;
      userdata0 = 0;
      userdata1 = 0;
      color_endpoints = empty_part;
      color_selectors = empty_part;
      alpha_endpoints = empty_part;
      alpha_selectors = empty_part;
      tables_size = 0;
      tables_offset = 0;
      level_offsets = replicate max_levels 0;
    }

abbrev pub found : Header → Looked
found h = record { refusal = 0; header = h }

abbrev pub no : ℕ → Looked
no n = record { refusal = n; header = empty_header }

-- a look's answer by its number
abbrev pub looked : Result Header Refusal → Looked
looked (Ok h) = found h
looked (Err n) = no (number_of n)

-- the bytes of the longest header: the fields, and an offset for each level
abbrev pub head_bytes : ℕ
head_bytes = 70 + 4 * max_levels

-- the look at a file of n bytes that begins with these. It looks at no byte behind the longest header's (proofs/Heads), only at how many
-- there are
unfoldable pub look_at : List ℕ → ℕ → Looked
look_at head n = pick (signed_in head n) (pick (within_limits h) (pick (sizes_in n h) (found h) (no 3)) (no 2)) (no 1)
  where
    h : Header
    h = header_of head

-- the look at a whole file
abbrev pub look_of : List ℕ → Looked
look_of file = look_at file (length file)
