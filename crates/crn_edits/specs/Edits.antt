-- A record with one edit made (docs/CASES.md). `set` at an index out of range changes nothing.
use Rattle.std.specs.Prelude.{ℕ, ◌%◌, set, eqb}
use Rattle.crn_format.specs.Choice.{pick}
use Rattle.crn_format.specs.declared.Part.{Part}
use Rattle.crn_format.specs.declared.Header.{Header}
use Rattle.crn_format.specs.declared.Table.{Table}
use Rattle.crn_format.specs.declared.Tables.{Tables}
use Rattle.crn_format.specs.declared.Record.{Record}

-- the value for the field that is edited, the old one for any other
abbrev pub chosen : ℕ → ℕ → ℕ → ℕ → ℕ
chosen field this value old = pick (eqb field this) value old

-- `offset`, `size` and `count` are the fields of this part
abbrev pub part_edited : Part → ℕ → ℕ → ℕ → ℕ → ℕ → Part
part_edited p offset size count field value =
    record {
      offset = chosen field offset value p.offset;
      size = chosen field size value p.size;
      count = chosen field count value p.count;
    }

abbrev pub header_edited : Header → ℕ → ℕ → ℕ → Header
header_edited h field index value =
    record {
      header_size = chosen field 21 value h.header_size;
      header_crc16 = chosen field 22 value h.header_crc16;
      data_size = chosen field 23 value h.data_size;
      data_crc16 = chosen field 24 value h.data_crc16;
      width = chosen field 1 value h.width;
      height = chosen field 2 value h.height;
      levels = chosen field 3 value h.levels;
      faces = chosen field 4 value h.faces;
      format = chosen field 5 value h.format;
      flags = chosen field 25 value h.flags;
      reserved = chosen field 26 value h.reserved;
      userdata0 = chosen field 27 value h.userdata0;
      userdata1 = chosen field 28 value h.userdata1;
      color_endpoints = part_edited h.color_endpoints 31 35 6 field value;
      color_selectors = part_edited h.color_selectors 32 36 7 field value;
      alpha_endpoints = part_edited h.alpha_endpoints 33 37 8 field value;
      alpha_selectors = part_edited h.alpha_selectors 34 38 9 field value;
      tables_size = chosen field 29 value h.tables_size;
      tables_offset = chosen field 30 value h.tables_offset;
      level_offsets = pick (eqb field 10) (set h.level_offsets index value) h.level_offsets;
    }

-- `count` and `length` are the fields of this table; a length is a byte
abbrev pub table_edited : Table → ℕ → ℕ → ℕ → ℕ → ℕ → Table
table_edited t count length field index value =
    record {
      count = chosen field count value t.count;
      lengths = pick (eqb field length) (set t.lengths index (value % 256)) t.lengths;
    }

abbrev pub tables_edited : Tables → ℕ → ℕ → ℕ → Tables
tables_edited t field index value =
    record {
      chunk_encoding = table_edited t.chunk_encoding 11 16 field index value;
      color_endpoint_delta = table_edited t.color_endpoint_delta 12 17 field index value;
      color_selector_delta = table_edited t.color_selector_delta 13 18 field index value;
      alpha_endpoint_delta = table_edited t.alpha_endpoint_delta 14 19 field index value;
      alpha_selector_delta = table_edited t.alpha_selector_delta 15 20 field index value;
    }

abbrev pub record_edited : Record → ℕ → ℕ → ℕ → Record
record_edited r field index value =
    record { header = header_edited r.header field index value; tables = tables_edited r.tables field index value }
