-- Little-endian numbers: those of blocks, of the programs that read cases, and of bytes that are only held against 0.
use Rattle.std.specs.Prelude.{ℕ, zero, suc, ◌+◌, ◌*◌, List, get_or}

-- the number that n bytes from `at` on spell, the first the lowest; a byte past the end counts as 0
unfoldable pub little_at : List ℕ → ℕ → ℕ → ℕ
little_at s at zero = 0
little_at s at (suc n) = get_or s at 0 + 256 * little_at s (at + 1) n
