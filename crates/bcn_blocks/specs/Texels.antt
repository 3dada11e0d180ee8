-- What half a block says, and the sixteen texels of a block.
use Rattle.std.specs.Prelude.{ℕ, ◌+◌, ◌<◌, ◌≡◌, List, map, get_or}
use Rattle.crn_format.specs.Grid.{little}
use Rattle.crn_format.specs.declared.Kind.{Kind}
use Rattle.crn_utils.specs.Little.{little_at}
use Rattle.bcn_format.specs.Channels.{byte}
use Rattle.bcn_format.specs.Blocks.{texel}
use Rattle.bcn_rows.specs.Rows.{texel_at}
use Rattle.bcn_rows.specs.declared.Sixteen.{Sixteen}
use Rattle.bcn_blocks.specs.declared.halves.Half.{Half}

-- two colour words, then the selectors
pub record ColorsAt (bs : List ℕ) (at : ℕ) (r : Half) : Type 0 where
  pub first : r.first ≡ little_at bs at 2
  pub second : r.second ≡ little_at bs (at + 2) 2
  pub selectors : r.selectors ≡ little_at bs (at + 4) 4

-- two ends, then the selectors
pub record LevelsAt (bs : List ℕ) (at : ℕ) (r : Half) : Type 0 where
  pub first : r.first ≡ get_or bs at 0
  pub second : r.second ≡ get_or bs (at + 1) 0
  pub selectors : r.selectors ≡ little_at bs (at + 2) 6
  pub first_small : r.first < 256
  pub second-small : r.second < 256

-- each number has the four bytes of its texel
pub record Texels (bs : List ℕ) (kind : Kind) (at : ℕ) (r : Sixteen) : Type 0 where
  pub each : (t : ℕ) → t < 16 → little 4 (texel_at r t) ≡ map byte (texel bs kind at t)
