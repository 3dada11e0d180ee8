-- A block's texels by rows, each texel a number of 32 bits, red lowest, two of them in a number of 64 bits.
use Rattle.std.specs.Prelude.{ℕ, zero, suc, ◌+◌, ◌*◌, ◌/◌, ◌%◌, ◌<◌, ◌≡◌, List, ◌++◌, get_or, take}
use Rattle.crn_format.specs.Grid.{little}
use Rattle.bcn_format.specs.Blocks.{selector}
use Rattle.bcn_rows.specs.declared.Row.{Row}
use Rattle.bcn_rows.specs.declared.Sixteen.{Sixteen}

-- the texel in column i
unfoldable pub texel_of : Row → ℕ → ℕ
texel_of r zero = r.left % 4294967296
texel_of r (suc zero) = r.left / 4294967296
texel_of r (suc (suc zero)) = r.right % 4294967296
texel_of r (suc (suc (suc i))) = r.right / 4294967296

-- the bytes of the first n texels
abbrev pub row_bytes : Row → ℕ → List ℕ
row_bytes r n = take (4 * n) (little 8 r.left ++ little 8 r.right)

-- ---- the sixteen texels of a block

unfoldable pub row_of : Sixteen → ℕ → Row
row_of r zero = r.a
row_of r (suc zero) = r.b
row_of r (suc (suc zero)) = r.c
row_of r (suc (suc (suc j))) = r.d

abbrev pub texel_at : Sixteen → ℕ → ℕ
texel_at r t = texel_of (row_of r (t / 4)) (t % 4)

-- chosen from a table by selectors of so many bits, the first lowest
abbrev pub chosen : ℕ → List ℕ → ℕ → ℕ → ℕ
chosen bits table s t = get_or table (selector bits s t) 0

-- column i of a row is f i, and texel t of a block is f t
pub record Holds (f : ℕ → ℕ) (r : Row) : Type 0 where
  pub each : (i : ℕ) → i < 4 → texel_of r i ≡ f i

pub record Filled (f : ℕ → ℕ) (r : Sixteen) : Type 0 where
  pub each : (t : ℕ) → t < 16 → texel_at r t ≡ f t

-- two blocks' texels can be added, and are
pub record Addable (v w : Sixteen) : Type 0 where
  pub each : (t : ℕ) → t < 16 → texel_at v t + texel_at w t < 4294967296

abbrev pub Added : Sixteen → Sixteen → Sixteen → Type 0
Added v w r = Filled (λ t. texel_at v t + texel_at w t) r
