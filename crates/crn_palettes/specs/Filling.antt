-- What reading a palette answers, and what its lent buffer then holds: on success "words beyond each count" are left alone, and a refusal
-- leaves "all .. zero" (document 01, Refusal numbers).
use Rattle.std.specs.Prelude.{ℕ, ◌≡◌, List, ⊤, Ok, Err}
use Rattle.std.specs.declared.result.Result.{Result}
use Rattle.crn_format.specs.Refusals.{number_of}
use Rattle.crn_format.specs.declared.Fault.{Fault}
use Rattle.crn_format.specs.Reading.{Reading, Step, got, refused, Place, spot, start, run, from_bits}
use Rattle.crn_format.specs.Opening.{filled, zeros}
use Rattle.crn_symbol_codec.specs.Cursors.{place}
use Rattle.crn_symbol_codec.specs.declared.Cursor.{Cursor}

-- how reading a palette ended: 0 and 0; or the refusal's number and the bit that it names
pub record Ended : Type 0 where
  pub refusal : ℕ
  pub at : ℕ

-- an answer by numbers
abbrev pub ended : Result ⊤ Fault → Ended
ended (Ok x) = record { refusal = 0; at = 0 }
ended (Err e) = record { refusal = number_of e.refusal; at = e.at }

abbrev pub answered : Step Place (List ℕ) → Ended
answered (got ws w) = record { refusal = 0; at = 0 }
answered (refused n w) = record { refusal = n; at = w.blamed }

abbrev pub held : List ℕ → Step Place (List ℕ) → List ℕ
held before (got ws w) = filled ws before
held before (refused n w) = zeros before

-- the answer r and the buffer, from `before` to `after`, are what reading m from the segment's start gives
pub record Fills (seg : List ℕ) (m : Reading (List ℕ)) (before after : List ℕ) (r : Result ⊤ Fault) : Type 0 where
  pub answer : ended r ≡ answered (run (from_bits seg) m start)
  pub holds : after ≡ held before (run (from_bits seg) m start)

-- the same of every palette m that comes down to reading `rest` from the cursor c
abbrev pub FillsFrom : List ℕ → Cursor → Reading (List ℕ) → List ℕ → List ℕ → Result ⊤ Fault → Type 0
FillsFrom seg c rest before after r =
    (m : Reading (List ℕ)) (b : ℕ) → run (from_bits seg) m start ≡ run (from_bits seg) rest (spot (place c) b) → Fills seg m before after r
