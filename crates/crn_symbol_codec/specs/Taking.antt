-- What taking a symbol or a number from a cursor answers.
use Rattle.std.specs.Prelude.{ℕ, ◌+◌, ◌≤◌, ◌≡◌, List}
use Rattle.crn_format.specs.Reading.{Want, Step, got, refused, Place, spot, served}
use Rattle.crn_symbol_codec.specs.Cursors.{place, Holds}
use Rattle.crn_symbol_codec.specs.declared.Cursor.{Cursor}
use Rattle.crn_format.specs.declared.Refusal.{Refusal}
use Rattle.crn_format.specs.declared.Refusal.TheVariants.{Ended}
use Rattle.crn_format.specs.Refusals.{number_of}
use Rattle.std.specs.Prelude.{Ok, Err}
use Rattle.std.specs.declared.result.Result.{Result}

-- the answer to a want: a symbol or a number with the cursor after it, or the refusal
abbrev pub Taken : Type 0
Taken = Result (ℕ × Cursor) Refusal

-- the refusal of an answer; 8 where there is a value
abbrev pub refusal_of : Taken → Refusal
refusal_of (Ok x) = Ended
refusal_of (Err n) = n

-- the answer to a want at the place p, where b is blamed, as a step over the segment's bits
abbrev pub took : ℕ → ℕ → Taken → Step Place ℕ
took p b (Ok (v, d)) = got v (spot (place d) b)
took p b (Err n) = refused (number_of n) (spot p p)

-- the next cursor, where there is one, holds
abbrev pub On : List ℕ → Taken → Type 0
On seg (Ok (v, d)) = Holds seg d
On seg (Err n) = Unit {0}

-- the answer is what the segment's bits serve at the cursor's place
pub record Takes (seg : List ℕ) (x : Want) (c : Cursor) (r : Taken) : Type 0 where
  pub same : (b : ℕ) → took (place c) b r ≡ served seg x (spot (place c) b)
  pub holds : On seg r

-- the same with no refill on the way: the next cursor has the same bytes behind it, and at most 16 bits less
abbrev pub Near : Cursor → Taken → Type 0
Near c (Ok (v, d)) = (d.next ≡ c.next) × (c.have ≤ d.have + 16)
Near c (Err n) = Unit {0}
