-- What is carried from chunk to chunk, as a function of how many were read: the form that the loops over rows and faces go by.
use Rattle.std.specs.Prelude.{ℕ, zero, suc, Bool, List, [], ◌∷◌, ◌++◌}
use Rattle.crn_format.specs.Reading.{Step, got, refused, then, Source, run}
use Rattle.crn_format.specs.Level.{Plane, Running, Chunk, chunk}

-- after n chunks from r and w on; flags n says which positions of chunk n lie inside
unfoldable pub state_to : {S : Type 0} → Source S → List ℕ → List Plane → (ℕ → List Bool) → Running → S → ℕ → Step S Running
unfolding then run chunk
state_to src ls ps flags r w zero = got r w
state_to src ls ps flags r w (suc n) =
    then (state_to src ls ps flags r w n) (λ q v. then (run src (chunk ls ps (flags n) q) v) (λ b u. got b.1 u))

-- the chunk that is read after n; the empty one where none is
unfoldable pub chunk_in : {S : Type 0} → Step S (Chunk × Running) → Chunk
chunk_in (got a w) = a.0
chunk_in (refused n w) = record { encoding = 0; tiles = []; positions = [] }

unfoldable pub chunk_after : {S : Type 0} → Source S → List ℕ → List Plane → List Bool → Step S Running → Chunk
unfolding chunk_in run chunk
chunk_after src ls ps inside (got q v) = chunk_in (run src (chunk ls ps inside q) v)
chunk_after src ls ps inside (refused n v) = record { encoding = 0; tiles = []; positions = [] }

abbrev pub chunk_to : {S : Type 0} → Source S → List ℕ → List Plane → (ℕ → List Bool) → Running → S → ℕ → Chunk
chunk_to src ls ps flags r w n = chunk_after src ls ps (flags n) (state_to src ls ps flags r w n)

-- the first n of them
unfoldable pub chunks_to : {S : Type 0} → Source S → List ℕ → List Plane → (ℕ → List Bool) → Running → S → ℕ → List Chunk
unfolding state_to chunk_after
chunks_to src ls ps flags r w zero = []
chunks_to src ls ps flags r w (suc n) = chunks_to src ls ps flags r w n ++ (chunk_to src ls ps flags r w n ∷ [])
