-- A container's header as little-endian words of four bytes.
use Rattle.std.specs.Prelude.{ℕ, List, [], ◌∷◌, ◌++◌}
use Rattle.crn_format.specs.Grid.{little}

unfoldable pub words_of : List ℕ → List ℕ
words_of [] = []
words_of (w ∷ ws) = little 4 w ++ words_of ws
