-- A texel in one number of 32 bits.
use Rattle.std.specs.Prelude.{ℕ, ◌+◌, ◌*◌}

-- red lowest, alpha highest: written the lowest byte first, they are red, green, blue, alpha
abbrev pub packed : ℕ → ℕ → ℕ → ℕ → ℕ
packed r g b a = r + 256 * g + 65536 * b + 16777216 * a
