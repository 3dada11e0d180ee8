-- A record by its parts, as a function's parameters bring them.
use Rattle.std.specs.Prelude.{ℕ, ◌≤◌, List, length}
use Rattle.crn_format.specs.Limits.{max_symbols}
use Rattle.crn_format.specs.declared.Table.{Table}
use Rattle.crn_format.specs.declared.Tables.{Tables}
use Rattle.crn_format.specs.declared.Header.{Header}
use Rattle.crn_format.specs.declared.Record.{Record}
use Rattle.crn_formats.specs.declared.records.Counts.{Counts}
use Rattle.crn_formats.specs.declared.records.CodeTables.{CodeTables}
use Rattle.crn_formats.specs.declared.records.TableSlices.{TableSlices}

abbrev pub table_by : ℕ → List ℕ → Table
table_by count lengths = record { count = count; lengths = lengths }

abbrev pub tables_by : Counts → List ℕ → List ℕ → List ℕ → List ℕ → List ℕ → Tables
tables_by c chunk color_ends color_sels alpha_ends alpha_sels =
    record {
      chunk_encoding = table_by c.chunk chunk;
      color_endpoint_delta = table_by c.color_ends color_ends;
      color_selector_delta = table_by c.color_sels color_sels;
      alpha_endpoint_delta = table_by c.alpha_ends alpha_ends;
      alpha_selector_delta = table_by c.alpha_sels alpha_sels;
    }

abbrev pub record_by : Header → Counts → List ℕ → List ℕ → List ℕ → List ℕ → List ℕ → Record
record_by h c chunk color_ends color_sels alpha_ends alpha_sels = record { header = h; tables = tables_by c chunk color_ends color_sels alpha_ends alpha_sels }

abbrev pub counts_of : Tables → Counts
counts_of t =
    record {
      chunk = t.chunk_encoding.count;
      color_ends = t.color_endpoint_delta.count;
      color_sels = t.color_selector_delta.count;
      alpha_ends = t.alpha_endpoint_delta.count;
      alpha_sels = t.alpha_selector_delta.count;
    }

-- each table is as long as a record's type says
pub record Long (t : Tables) : Type 0 where
  pub chunk : max_symbols ≤ length t.chunk_encoding.lengths
  pub color_ends : max_symbols ≤ length t.color_endpoint_delta.lengths
  pub color_sels : max_symbols ≤ length t.color_selector_delta.lengths
  pub alpha_ends : max_symbols ≤ length t.alpha_endpoint_delta.lengths
  pub alpha_sels : max_symbols ≤ length t.alpha_selector_delta.lengths

-- the tables that a struct lends, and a record with them
abbrev pub tables_lent : CodeTables → Tables
tables_lent t = tables_by t.counts t.chunk.now t.color_ends.now t.color_sels.now t.alpha_ends.now t.alpha_sels.now

abbrev pub record_lent : Header → CodeTables → Record
record_lent h t = record { header = h; tables = tables_lent t }

-- those that a struct lends as slices, and a record with them
abbrev pub tables_sliced : TableSlices → Tables
tables_sliced t = tables_by t.counts t.chunk.now t.color_ends.now t.color_sels.now t.alpha_ends.now t.alpha_sels.now

abbrev pub record_sliced : Header → TableSlices → Record
record_sliced h t = record { header = h; tables = tables_sliced t }
