-- Chunk rows of a face that are to be gone over.
use Rattle.std.specs.Prelude.{ℕ, ◌+◌, ◌%◌, ◌≤◌, ◌<◌, ◌≡◌}
use Rattle.crn_format.specs.Grid.{chunk_rows}
use Rattle.crn_format.specs.declared.Grid.{Grid}

-- `left` rows from cy on; even ones go left to right, odd ones right to left
pub record Rows (g : Grid) (f cy left parity : ℕ) : Type 0 where
  pub face : f < g.faces
  pub some : cy + left ≤ chunk_rows g
  pub way : cy % 2 ≡ parity
