-- What reading a chunk answers, and what the indices then are.
use Rattle.std.specs.Prelude.{Ok, Err, ℕ, ◌<◌, ◌≡◌, Bool, true, List, [], ◌∷◌}
use Rattle.std.specs.declared.result.Result.{Result}
use Rattle.crn_format.specs.Choice.{both}
use Rattle.crn_format.specs.Reading.{Step, got, Spending, run}
use Rattle.crn_format.specs.Level.{Running, Chunk, chunk}
use Rattle.crn_chunks.specs.Meaning.{source, spending, stopped, planes, Coded, running_of, chunk_of, Onward}
use Rattle.crn_chunks.specs.declared.Planes.{Planes}
use Rattle.crn_chunks.specs.declared.Carried.{Carried}
use Rattle.crn_chunks.specs.declared.Stream.{Stream}
use Rattle.crn_chunks.specs.declared.Stop.{Stop}

-- a chunk's answer: its encoding, what is carried on and the stream after it; or the refusal
abbrev pub Answer : Type 0
Answer = Result (ℕ × Carried × Stream) Stop

-- the answer, with the indices, as a step
unfoldable pub chunked : Bool → List ℕ → Answer → Step Spending (Chunk × Running)
unfolding chunk_of running_of
chunked two out (Ok (e, r, s)) = got (chunk_of two e out, running_of two r) (spending s)
chunked two out (Err x) = stopped x

-- which positions of a chunk lie inside: the first always does
abbrev pub inside_of : Bool → Bool → List Bool
inside_of right bottom = true ∷ right ∷ bottom ∷ both right bottom ∷ []

pub record Reads (lookup sorted seg : List ℕ) (ps : Planes) (right bottom : Bool) (r : Carried) (s : Stream) (out : List ℕ)
    (a : Answer) : Type 0 where
  pub same : (cs : ℕ → List ℕ) → Coded cs ps lookup sorted
      → chunked ps.two out a ≡ run (source seg) (chunk (cs 0) (planes cs ps) (inside_of right bottom) (running_of ps.two r)) (spending s)
  pub on : (e : ℕ) (n : Carried) (t : Stream) → a ≡ Ok (e, n, t) → Onward seg n t × (e < 8)
