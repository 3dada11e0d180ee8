-- What the parts of a draw promise each other: they go by the decoder table alone, whatever its code is.
use Rattle.std.specs.Prelude.{ℕ, ◌≡◌, List}
use Rattle.crn_format.specs.Codes.{Drawn, symbol_at, failed}
use Rattle.crn_symbol_codec.specs.Cursors.{place}
use Rattle.crn_symbol_codec.specs.Taking.{On, Near}
use Rattle.crn_symbol_codec.specs.Decoders.{longest_in, counts_in, walk}
use Rattle.crn_symbol_codec.specs.declared.Cursor.{Cursor}
use Rattle.crn_symbol_codec.specs.Taking.{Taken}
use Rattle.std.specs.Prelude.{Ok, Err}
use Rattle.crn_format.specs.Refusals.{number_of}

-- an answer, as crn_format says what a draw finds
abbrev pub drew : Taken → Drawn
drew (Ok (v, d)) = symbol_at v (place d)
drew (Err n) = failed (number_of n)

-- what a draw by the table finds at p
abbrev pub walked : List ℕ → List ℕ → List ℕ → ℕ → Drawn
walked lookup sorted seg p = walk (counts_in lookup) sorted seg p (longest_in lookup) 0 0 0

-- r is what the table finds at the cursor
pub record Draws (lookup sorted seg : List ℕ) (c : Cursor) (r : Taken) : Type 0 where
  pub same : drew r ≡ walked lookup sorted seg (place c)
  pub holds : On seg r
  pub near : Near c r
