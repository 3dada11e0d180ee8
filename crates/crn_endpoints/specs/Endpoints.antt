-- Endpoints: running sums, a channel each.
use Rattle.std.specs.Prelude.{ℕ, ◌≡◌, ◌%◌, ◌<◌, Bool, List, [], ◌∷◌, replicate, ◌==◌, slice_index, slice_index_or, ◌≤◌, length, Ok, Err, ⊤}
use Rattle.std.specs.Int.Bits.{bit_and}
use Rattle.std.specs.declared.result.Result.{Result}
use Rattle.crn_format.specs.Choice.{pick, either}
use Rattle.crn_format.specs.Reading.{Reading}
use Rattle.crn_format.specs.Opening.{zeros}
use Rattle.crn_format.specs.Palettes.{entries, Sum, summed, color_sums, color_word, alpha_sums, alpha_word}
use Rattle.crn_format.specs.declared.Fault.{Fault}
use Rattle.crn_symbol_codec.specs.Decoders.{Decodes}
use Rattle.crn_symbol_codec.specs.Taking.{Taken}
use Rattle.crn_symbol_codec.specs.declared.Cursor.{Cursor}
use Rattle.crn_endpoints.specs.declared.Sum.{Sum as Running}

-- the entries of a palette, whose codes are known
abbrev pub alpha_entries : List ℕ → ℕ → Reading (List ℕ)
alpha_entries t n = entries (summed (alpha_sums t) 0) alpha_word n (replicate 2 0) []

abbrev pub color_entries : List ℕ → List ℕ → ℕ → Reading (List ℕ)
color_entries five six n = entries (summed (color_sums five six) 0) color_word n (replicate 6 0) []

-- the channels b and e are of six bits, and have a table of their own
abbrev pub six_bits : ℕ → Bool
six_bits i = either (i == 1) (i == 4)

abbrev pub modulus_of : Bool → ℕ
modulus_of six = pick six 64 32

-- each running sum is below its modulus
abbrev pub Small : List ℕ → Type 0
Small vs = (i : ℕ) → slice_index vs i < modulus_of (six_bits i)

-- an answer without the place that a fault names
abbrev pub taken_of : Result (ℕ × Cursor) Fault → Taken
taken_of (Ok x) = Ok x
taken_of (Err e) = Err e.refusal

-- the sum x adds as m says: its decoder table is that of m's code, and its low bits are what is left modulo m's
pub record AddsAs (x : Running) (m : Sum) : Type 0 where
  pub decodes : Decodes m.deltas x.deltas.lookup.now x.deltas.sorted.now
  pub keeps : (n : ℕ) → bit_and (n % 256) x.mask ≡ n % m.modulus

abbrev pub Adds : List Running → List Sum → Type 0
Adds [] [] = Unit {0}
Adds [] (m ∷ ms) = ⊥
Adds (x ∷ xs) [] = ⊥
Adds (x ∷ xs) (m ∷ ms) = AddsAs x m × Adds xs ms

pub record SomeSums (xs : List Running) : Type 0 where
  pub sums : List Sum
  pub adds : Adds xs sums

-- each value has no more than its sum's low bits
abbrev pub Kept : List Running → List ℕ → Type 0
Kept xs vs = (i : ℕ) (x : Running) → i < length xs → slice_index vs i ≤ (slice_index_or xs i x).mask

-- what the lent buffer holds once a refusal has cleared it
abbrev pub cleared : Result ⊤ Fault → List ℕ → List ℕ
cleared (Ok x) out = out
cleared (Err e) out = zeros out
