-- The tiles of an encoding's four positions in one byte: two bits each, the first lowest.
use Rattle.std.specs.Prelude.{ℕ, ◌*◌, ◌/◌, ◌%◌, ◌^◌, ◌<◌, ◌≡◌}
use Rattle.crn_format.specs.Level.{tile_at}

-- the tile at a position
abbrev pub tile_in : ℕ → ℕ → ℕ
tile_in byte position = byte / 2 ^ (2 * position) % 4

pub record Tiles (encoding byte : ℕ) : Type 0 where
  pub each : (q : ℕ) → q < 4 → tile_in byte q ≡ tile_at encoding q
  pub small : byte < 256
