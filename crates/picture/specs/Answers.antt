-- What the functions that write a container answer.
use Rattle.std.specs.Prelude.{ℕ, ◌≡◌, List, Ok, Err}
use Rattle.std.specs.declared.result.Result.{Result}
use Rattle.crn_format.specs.Choice.{pick}
use Rattle.crn_format.specs.Header.{within_limits}
use Rattle.crn_format.specs.Refusals.{number_of}
use Rattle.crn_format.specs.declared.Header.{Header}
use Rattle.crn_format.specs.declared.Refusal.{Refusal}
use Rattle.picture.specs.Kinds.{goes_out}
use Rattle.picture.specs.Writing.{Sums, Stop, Container, Writing, written, refused}
use Rattle.picture.specs.declared.Written.{Written}
use Rattle.picture.specs.declared.Needed.{Needed}

-- written, and refused: no bytes then, and no cut-outs
abbrev pub wrote_by : ℕ → Sums → Written
wrote_by bytes t = record { refusal = 0; level = 0; at = 0; bytes = bytes; symbols = t.symbols; cutouts = t.cutouts }

abbrev pub stopped_by : Stop → Written
stopped_by s =
    record { refusal = s.refusal; level = s.level; at = s.bit; bytes = 0; symbols = s.symbols; cutouts = 0 }

-- the answer and the output are as the definition has them
unfoldable pub Writes : Writing → List ℕ → Written → Type 0
Writes (written n t d) after a = (a ≡ wrote_by n t) × (after ≡ d)
Writes (refused s d) after a = (a ≡ stopped_by s) × (after ≡ d)

-- an answer about the bytes of a file in numbers
abbrev pub needed : Result ℕ Refusal → Needed
needed (Ok n) = record { refusal = 0; bytes = n }
needed (Err e) = record { refusal = number_of e; bytes = 0 }

-- what a host has to lend for a file of a header: 2 or 16, or so many bytes
unfoldable pub needed_for : (Header → Container) → Header → Needed
needed_for of h =
    pick (within_limits h)
    (pick (goes_out h.format) (record { refusal = 0; bytes = (of h).plan.total }) (record { refusal = 16; bytes = 0 }))
    (record { refusal = 2; bytes = 0 })
