-- What a table has at an index, 0 past its end.
use Rattle.std.specs.Prelude.{ℕ, ◌+◌, ◌*◌, ◌≡◌, List, get_or}
use Rattle.crn_consts.specs.declared.Deltas.{Deltas}

pub record Entry (table : List ℕ) (at r : ℕ) : Type 0 where
  pub value : r ≡ get_or table at 0

-- of a table of pairs, one after another
pub record Pair (table : List ℕ) (at : ℕ) (r : Deltas) : Type 0 where
  pub value : r ≡ record { first = get_or table (2 * at) 0; second = get_or table (2 * at + 1) 0 }
