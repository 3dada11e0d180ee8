-- The refusal numbers (document 01, Refusal numbers): which of them opening gives and which a level, before its stream and in it.
use Rattle.std.specs.Prelude.{ℕ, Bool, false, List, [], ◌∷◌, ◌++◌, eqb}
use Rattle.crn_format.specs.Choice.{either}

-- n is one of these
abbrev pub among : ℕ → List ℕ → Bool
among n [] = false
among n (m ∷ ms) = either (eqb n m) (among n ms)

-- "Opening: 1, 2, 3, 4 for every segment it reads, 5, then the stream"
abbrev pub before_streams : List ℕ
before_streams = 1 ∷ 2 ∷ 3 ∷ 4 ∷ 5 ∷ []

-- in the streams: 6 a code table, 7 bits that begin no code, 8 a segment that ended, 9 a selector symbol
abbrev pub in_streams : List ℕ
in_streams = 6 ∷ 7 ∷ 8 ∷ 9 ∷ []

-- from 4 on, which a load has in common with it (document 02, request 2)
abbrev pub after_look_refusals : List ℕ
after_look_refusals = 4 ∷ 5 ∷ in_streams

-- those "by" opening and by both: 1 to 9
abbrev pub opening_refusals : List ℕ
opening_refusals = before_streams ++ in_streams

-- "Level: 2, 6, 10, 4, 5, 11, 12, all before the first draw and with the destination untouched, then the stream"
abbrev pub before_draws : List ℕ
before_draws = 2 ∷ 6 ∷ 10 ∷ 4 ∷ 5 ∷ 11 ∷ 12 ∷ []

-- in its stream: 7 and 8 as above, 13 a chunk symbol, 14 a palette index, 15 a budget already spent
abbrev pub in_draws : List ℕ
in_draws = 7 ∷ 8 ∷ 13 ∷ 14 ∷ 15 ∷ []

-- those "by" a level and by both: 2, 4 to 8 and 10 to 15
abbrev pub level_refusals : List ℕ
level_refusals = before_draws ++ in_draws
