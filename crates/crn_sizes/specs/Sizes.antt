-- The blocks, the bytes and the full symbol allowance of a level.
use Rattle.std.specs.Prelude.{ℕ, ◌*◌, ltb}
use Rattle.crn_format.specs.Choice.{pick}
use Rattle.crn_format.specs.Header.{kind_of, within_limits}
use Rattle.crn_format.specs.Grid.{chunk_count}
use Rattle.crn_format.specs.Unpacking.{grid_of, plane_count, allowance}
use Rattle.crn_format.specs.declared.Header.{Header}
use Rattle.crn_format.specs.declared.Grid.{Grid}
use Rattle.crn_sizes.specs.declared.LevelSizes.{LevelSizes}

-- a grid whose rows and faces stand close together
abbrev pub close : ℕ → ℕ → ℕ → ℕ → Grid
close faces columns rows bytes =
    record { faces = faces; columns = columns; rows = rows; bytes = bytes; pitch = columns * bytes; distance = rows * (columns * bytes) }

-- with so many planes
abbrev pub sizes_of : ℕ → Grid → LevelSizes
sizes_of planes g =
    record {
      refusal = 0;
      columns = g.columns;
      rows = g.rows;
      block_bytes = g.bytes;
      pitch = g.pitch;
      distance = g.distance;
      bytes = g.faces * g.distance;
      symbols = allowance (chunk_count g) planes;
    }

abbrev pub no_sizes : ℕ → LevelSizes
no_sizes refusal =
    record { refusal = refusal; columns = 0; rows = 0; block_bytes = 0; pitch = 0; distance = 0; bytes = 0; symbols = 0 }

abbrev pub close_grid : Header → ℕ → Grid
close_grid h n = close g.faces g.columns g.rows g.bytes
  where
    g : Grid
    g = grid_of h n 0 0

abbrev pub close_sizes : Header → ℕ → LevelSizes
close_sizes h n = sizes_of (plane_count (kind_of h.format)) (close_grid h n)

-- of a header within the limits (2) and a level that it has (10)
unfoldable pub level_sizes : Header → ℕ → LevelSizes
level_sizes h n = pick (within_limits h) (pick (ltb n h.levels) (close_sizes h n) (no_sizes 10)) (no_sizes 2)
