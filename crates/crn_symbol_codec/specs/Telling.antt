-- What reading a part of a segment answers: a value with the cursor after it; or a fault, the refusal and the bit that it names.
use Rattle.std.specs.Prelude.{ℕ, Ok, Err}
use Rattle.std.specs.declared.result.Result.{Result}
use Rattle.crn_format.specs.Reading.{Step, got, refused, Place, spot}
use Rattle.crn_format.specs.Refusals.{number_of}
use Rattle.crn_format.specs.declared.Fault.{Fault}
use Rattle.crn_symbol_codec.specs.Cursors.{place}
use Rattle.crn_symbol_codec.specs.declared.Cursor.{Cursor}

-- a fault, as a step
abbrev pub fault : {A : Type 0} → Fault → Step Place A
fault e = refused (number_of e.refusal) (spot e.at e.at)

-- the answer as a step over the segment's bits, of which f makes the step's; where it is no fault, b is blamed
abbrev pub told : {X A : Type 0} → (X → A) → ℕ → Result (X × Cursor) Fault → Step Place A
told f b (Ok (x, d)) = got (f x) (spot (place d) b)
told f b (Err e) = fault e

-- what holds of the value and the cursor, where there is no fault
abbrev pub OnPart : {X : Type 0} → (X → Cursor → Type 0) → Result (X × Cursor) Fault → Type 0
OnPart holds (Ok (x, d)) = holds x d
OnPart holds (Err e) = Unit {0}
