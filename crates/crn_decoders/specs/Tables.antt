-- The tables of a record as slices, and the decoder tables of a level: of which codes they are, and where they stand.
use Rattle.std.specs.Prelude.{ℕ, ◌+◌, ◌*◌, ◌^◌, ◌<◌, ◌≤◌, ◌≡◌, Bool, true, ◌&&◌, ◌||◌, List, [], ◌∷◌, length, take, eqb, leb, ltb}
use Rattle.crn_format.specs.Choice.{pick, both}
use Rattle.crn_format.specs.Limits.{max_symbols}
use Rattle.crn_format.specs.Codes.{all_fit}
use Rattle.crn_format.specs.Grid.{nth_list}
use Rattle.crn_format.specs.declared.Tables.{Tables}
pub use Rattle.crn_formats.specs.Records.{table_by, tables_by, record_by, counts_of, Long}
use Rattle.crn_formats.specs.declared.records.Counts.{Counts}
use Rattle.crn_symbol_codec.specs.Decoders.{Decodes}
use Rattle.crn_chunks.specs.Meaning.{part}
use Rattle.crn_decoders.specs.declared.decoders.Sizes.{Sizes}

-- ---- a record's tables

-- none is for more than n symbols
pub record Few (c : Counts) (n : ℕ) : Type 0 where
  pub chunk : c.chunk ≤ n
  pub color_ends : c.color_ends ≤ n
  pub color_sels : c.color_sels ≤ n
  pub alpha_ends : c.alpha_ends ≤ n
  pub alpha_sels : c.alpha_sels ≤ n

-- ---- what a decoder table is made of

-- of the first `count` lengths a decoder table can be made, with room for so many sorted symbols
pub record Fair (lengths : List ℕ) (count room : ℕ) : Type 0 where
  pub inside : count ≤ length lengths
  pub few : count ≤ max_symbols
  pub short : all_fit (take count lengths) (length (take count lengths)) ≡ true
  pub fits : count ≤ room

pub record AllFair (t : Tables) (room : ℕ) : Type 0 where
  pub first : Fair t.chunk_encoding.lengths t.chunk_encoding.count room
  pub color_e : Fair t.color_endpoint_delta.lengths t.color_endpoint_delta.count room
  pub color_s : Fair t.color_selector_delta.lengths t.color_selector_delta.count room
  pub alpha_e : Fair t.alpha_endpoint_delta.lengths t.alpha_endpoint_delta.count room
  pub alpha_s : Fair t.alpha_selector_delta.lengths t.alpha_selector_delta.count room

-- none is for more than 1,024 symbols, as the code tests it
abbrev pub all_few : Counts → Bool
all_few c = (((leb c.chunk 1024 && leb c.color_ends 1024) && leb c.color_sels 1024) && leb c.alpha_ends 1024) && leb c.alpha_sels 1024

-- the tables of one plane alone are there, and the level is large
abbrev pub wide_for : Counts → ℕ → ℕ → Bool
wide_for c columns rows = (eqb c.color_ends 0 || eqb c.alpha_ends 0) && (ltb 64 columns || ltb 64 rows)

-- the sizes for a level of so many columns and rows of blocks: a small level has small lookups, since large ones would take longer than its draws,
-- and a large one of many symbols has large ones, unless they are too many
unfoldable pub sizes_for : Counts → ℕ → ℕ → Sizes
sizes_for c columns rows =
    pick (all_few c)
    (pick (leb columns 16 && leb rows 16)
    (sizes (pick (leb columns 4 && leb rows 4) 5 8) 288 1024)
    (sizes 11 2080 1024))
    (pick (wide_for c columns rows) (sizes 12 4128 8192) (sizes 11 2080 8192))
  where
    sizes : ℕ → ℕ → ℕ → Sizes
    sizes most words symbols = record { most = most; lookup_step = words; sorted_step = symbols }

-- five tables of these sizes have room in so many words and so many symbols
pub record Able (s : Sizes) (words symbols : ℕ) : Type 0 where
  pub some : 0 < s.most
  pub few : s.most ≤ 13
  pub entries : 32 + 2 ^ s.most ≤ s.lookup_step
  pub lookups : 5 * s.lookup_step ≤ words
  pub sorteds : 5 * s.sorted_step ≤ symbols

-- ---- where they stand

-- the decoder tables of numbers below n are there, and cs k is the code of number k
pub record CodedTo (cs : ℕ → List ℕ) (n : ℕ) (s : Sizes) (lookup sorted : List ℕ) : Type 0 where
  pub each : (k : ℕ) → k < n → Decodes (cs k) (part s.lookup_step lookup k) (part s.sorted_step sorted k)

-- the codes by number: the chunk symbols', and then a plane's two after the other's
unfoldable pub codes_by : Bool → Counts → List ℕ → List ℕ → List ℕ → List ℕ → List ℕ → ℕ → List ℕ
unfolding nth_list
codes_by alpha c chunk color_ends color_sels alpha_ends alpha_sels k =
    nth_list (take c.chunk chunk ∷ pick alpha (take c.alpha_ends alpha_ends ∷ take c.alpha_sels alpha_sels ∷ color) color) k
  where
    color : List (List ℕ)
    color = take c.color_ends color_ends ∷ take c.color_sels color_sels ∷ []

-- how many there are
abbrev pub tables_in : Bool → Bool → ℕ
tables_in color alpha = pick (both color alpha) 5 3

-- the codes of a record's tables, by the numbers of the decoder tables
abbrev pub codes_of : Bool → Tables → ℕ → List ℕ
codes_of alpha t =
    codes_by alpha (counts_of t) t.chunk_encoding.lengths t.color_endpoint_delta.lengths t.color_selector_delta.lengths
    t.alpha_endpoint_delta.lengths t.alpha_selector_delta.lengths
