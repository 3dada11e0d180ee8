-- Where a reader is after an answer.
use Rattle.std.specs.Prelude.{Ok, Err}
use Rattle.crn_symbol_codec.specs.Taking.{Taken}
use Rattle.crn_symbol_codec.specs.declared.Cursor.{Cursor}
use Rattle.crn_reader.specs.declared.Reader.{Reader}

-- the cursor after an answer; the same where it is a refusal
abbrev pub cursor_after : Cursor → Taken → Cursor
cursor_after c (Ok (v, d)) = d
cursor_after c (Err n) = c

-- the same segment, with that cursor
abbrev pub moved_by : Reader → Taken → Reader
moved_by r t = record { seg = r.seg; cursor = cursor_after r.cursor t }
