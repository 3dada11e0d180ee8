-- The eight levels of a block of 8-bit ends, each in its place in a texel.
use Rattle.std.specs.Prelude.{ℕ, ◌+◌, ◌*◌, ◌<◌, ◌≡◌, List, get_or}
use Rattle.bcn_format.specs.Channels.{Channel, byte}
use Rattle.bcn_format.specs.Blocks.{level}

-- each of eight numbers is its selector's channel, so many times, and more
pub record Each (channel : ℕ → Channel) (scale more : ℕ) (r : List ℕ) : Type 0 where
  pub each : (i : ℕ) → i < 8 → get_or r i 0 ≡ byte (channel i) * scale + more

abbrev pub Levels : ℕ → ℕ → ℕ → ℕ → List ℕ → Type 0
Levels a b scale more r = Each (level a b) scale more r
