-- How long words are. Assumes nothing.
use Prim.Native.Nat.{ℕ, zero, suc, ◌*◌, ◌/◌}
use mathlib.Core.Path.{◌≡◌, refl, ap}
use mathlib.Core.List.{List, [], ◌∷◌}
use native.Mathlib.Omega.{arith}
use lib.ListN.{length, length-append}
use Rattle.crn_format.specs.Grid.{little}
use Rattle.picture.specs.Words.{words_of}

pub little-long : (n v : ℕ) → length (little n v) ≡ n
unfolding little
little-long zero v = refl
little-long (suc n) v = ap suc (little-long n (v / 256))

pub words_long : (ws : List ℕ) → length (words_of ws) ≡ 4 * length ws
unfolding words_of
words_long [] = refl
words_long (w ∷ ws) = omega (arith, length-append (little 4 w) (words_of ws), little-long 4 w, words_long ws)
