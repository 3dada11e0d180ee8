-- Selectors: sixteen running values. The colour and the alpha palette differ in how far a value goes and how it is written.
use Rattle.std.specs.Prelude.{ℕ, ◌+◌, ◌*◌, ◌/◌, ◌%◌, ◌^◌, ◌<◌, ◌≤◌, ◌≡◌, Bool, true, false, Ok, Err, ⊤}
use Rattle.std.specs.Prelude.{List, [], ◌∷◌, length, get_or, replicate}
use Rattle.std.specs.declared.result.Result.{Result}
use Rattle.crn_format.specs.Choice.{pick}
use Rattle.crn_format.specs.Reading.{Reading}
use Rattle.crn_format.specs.Opening.{zeros}
use Rattle.crn_format.specs.Palettes.{entries, changed, packed, delta_count, raised, from_linear}
use Rattle.crn_format.specs.Palettes.{color_selector_words, alpha_selector_words}
use Rattle.crn_format.specs.declared.Fault.{Fault}
use Rattle.crn_consts.specs.declared.Deltas.{Deltas}
use Rattle.crn_consts.specs.AlphaDeltas.{AllDeltas}
use Rattle.crn_symbol_codec.specs.Decoders.{Decodes}
use Rattle.crn_symbol_codec.specs.Telling.{OnPart}
use Rattle.crn_symbol_codec.specs.declared.Cursor.{Cursor}
use Rattle.crn_symbol_codec.specs.declared.Decoder.{Decoder}
use Rattle.crn_palettes.specs.Filling.{FillsFrom}
use Rattle.crn_palettes.specs.Reaching.{Reached, Reaches}

-- the greatest value
abbrev pub top_of : Bool → ℕ
top_of alpha = pick alpha 7 3

-- how many symbols have a meaning: a pair of deltas each
abbrev pub pairs_of : Bool → ℕ
pairs_of alpha = delta_count (top_of alpha) * delta_count (top_of alpha)

-- how many bits a value takes as it is written
abbrev pub bits_of : Bool → ℕ
bits_of alpha = pick alpha 3 2

-- what is kept for the symbols: for alpha the constant table of all pairs; colour's deltas are computed
abbrev pub Kept : Bool → List ℕ → Type 0
Kept true pairs = AllDeltas pairs
Kept false pairs = Unit {0}

-- what symbol s adds to two values, each raised so that it is not negative
pub record DeltasOf (alpha : Bool) (s : ℕ) (r : Deltas) : Type 0 where
  pub first : r.first ≡ raised (top_of alpha) (s % delta_count (top_of alpha))
  pub second : r.second ≡ raised (top_of alpha) (s / delta_count (top_of alpha))
  pub low : r.first < 16
  pub high : r.second < 16

-- a pair in a byte: its first value is the low half, its second the high one, and each is at most the greatest
pub record Halves (alpha : Bool) (pair : ℕ) : Type 0 where
  pub first : pair % 16 ≤ top_of alpha
  pub second : pair / 16 ≤ top_of alpha

-- the values of pairs
unfoldable pub values_of : List ℕ → List ℕ
values_of [] = []
values_of (pair ∷ pairs) = pair % 16 ∷ pair / 16 ∷ values_of pairs

-- the eight pairs of an entry
pub record Pairs (alpha : Bool) (pairs : List ℕ) : Type 0 where
  pub long : length pairs ≡ 8
  pub halves : (j : ℕ) → Halves alpha (get_or pairs j 0)

-- what symbol s adds to a pair: the same, each modulo how many values there are
pub record PairDelta (alpha : Bool) (s r : ℕ) : Type 0 where
  pub first : r % 16 ≡ raised (top_of alpha) (s % delta_count (top_of alpha)) % (top_of alpha + 1)
  pub second : r / 16 ≡ raised (top_of alpha) (s / delta_count (top_of alpha)) % (top_of alpha + 1)

-- a pair changed by a delta
pub record PairMoved (alpha : Bool) (pair delta r : ℕ) : Type 0 where
  pub first : r % 16 ≡ (pair % 16 + delta % 16) % (top_of alpha + 1)
  pub second : r / 16 ≡ (pair / 16 + delta / 16) % (top_of alpha + 1)

-- a pair as a block writes it, the first value lowest
abbrev pub written_pair : Bool → ℕ → ℕ
written_pair alpha pair = from_linear (top_of alpha) (pair % 16) + 2 ^ bits_of alpha * from_linear (top_of alpha) (pair / 16)

-- the tables of both, by symbol and by pair
abbrev pub DeltaTable : Bool → List ℕ → Type 0
DeltaTable alpha table = (s : ℕ) → s < pairs_of alpha → PairDelta alpha s (get_or table s 0)

abbrev pub WordTable : Bool → List ℕ → Type 0
WordTable alpha table = (pair : ℕ) → pair < 128 → get_or table pair 0 ≡ written_pair alpha pair

-- an entry's word, and the pairs that it is made of
pub record Entry (alpha : Bool) (pairs : List ℕ) (word : ℕ) : Type 0 where
  pub eight : Pairs alpha pairs
  pub same : word ≡ packed (top_of alpha) (bits_of alpha) (values_of pairs) 16
  pub small : word < 2 ^ (bits_of alpha * 16)

-- an entry's answer, without the word
abbrev pub cursor_of : Result (ℕ × Cursor) Fault → Reached
cursor_of (Ok (word, d)) = Ok d
cursor_of (Err e) = Err e

-- r is the entry at the cursor c, whose pairs are made of those `before`
pub record NextWord (alpha : Bool) (lookup sorted seg : List ℕ) (c : Cursor) (before after : List ℕ) (r : Result (ℕ × Cursor) Fault)
    : Type 0 where
  pub reads : (t : List ℕ) → Decodes t lookup sorted → (b : ℕ)
      → Reaches seg (changed (top_of alpha) t 8 0 (values_of before)) c b (values_of after) (cursor_of r)
  pub entry : OnPart (λ word _. Entry alpha after word) r

-- the entries of a palette whose code is known
abbrev pub selector_entries : Bool → (List ℕ → List ℕ) → List ℕ → ℕ → Reading (List ℕ)
selector_entries alpha words t n = entries (changed (top_of alpha) t 8 0) words n (replicate 16 0) []

abbrev pub color_entries : List ℕ → ℕ → Reading (List ℕ)
color_entries = selector_entries false color_selector_words

abbrev pub alpha_entries : List ℕ → ℕ → Reading (List ℕ)
alpha_entries = selector_entries true alpha_selector_words

-- what the lent buffer holds once a refusal has cleared it
abbrev pub cleared : Result ⊤ Fault → List ℕ → List ℕ
cleared (Ok x) out = out
cleared (Err e) out = zeros out

-- the answer r and the buffer, once a refusal has cleared it, are what the entries at the cursor c give of any code that is decoded
abbrev pub FillsBy : (List ℕ → ℕ → Reading (List ℕ)) → Decoder → List ℕ → Cursor → ℕ → List ℕ → List ℕ → Result ⊤ Fault → Type 0
FillsBy entries code seg c count before after r =
    (t : List ℕ) → Decodes t code.lookup.now code.sorted.now → FillsFrom seg c (entries t count) before (cleared r after) r
