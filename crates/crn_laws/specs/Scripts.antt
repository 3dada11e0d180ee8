-- Scripts of a level (document 01, Chunks): which symbols are sent for it, in which order and in which codes, and when they are sent for
-- it. Nothing here says how bits are read.
use Rattle.std.specs.Prelude.{ℕ, ◌/◌, ◌%◌, ◌<◌, ◌≡◌, Bool, true, List, [], ◌∷◌, ◌++◌, length, get_or, drop}
use Rattle.crn_format.specs.Limits.{chunk_symbols}
use Rattle.crn_format.specs.Codes.{code_of}
use Rattle.crn_format.specs.Script.{bits_of, Starts}
use Rattle.crn_format.specs.Level.{Plane, stepped, tile_counts, Running, Chunk, lasts, last_row, fresh}

-- ---- symbols in their codes

-- a symbol, and the lengths of the code that it is sent in
pub record Sent : Type 0 where
  pub code : List ℕ
  pub symbol : ℕ

abbrev pub sent : List ℕ → ℕ → Sent
sent ls y = record { code = ls; symbol = y }

unfoldable pub symbols : List Sent → List ℕ
symbols [] = []
symbols (s ∷ more) = s.symbol ∷ symbols more

-- their codes, end to end
unfoldable pub bits : List Sent → List ℕ
unfolding bits_of
bits [] = []
bits (s ∷ more) = bits_of (get_or s.code s.symbol 0) (code_of s.code s.symbol) ++ bits more

-- the symbol has a code
pub record HasCode (s : Sent) : Type 0 where
  pub known : s.symbol < length s.code
  pub coded : 0 < get_or s.code s.symbol 0

unfoldable pub AllCoded : List Sent → Type 0
AllCoded [] = Unit {0}
AllCoded (s ∷ more) = HasCode s × AllCoded more

-- ---- the fixed order

-- what is sent for a chunk: the chunk symbol, where one is sent; for each plane a delta for each tile; for each of the four positions a
-- delta for each plane
pub record Draws : Type 0 where
  pub symbols : List ℕ
  pub endpoints : List (List ℕ)
  pub selectors : List (List ℕ)

unfoldable pub in_code : List ℕ → List ℕ → List Sent
in_code ls [] = []
in_code ls (y ∷ ys) = sent ls y ∷ in_code ls ys

-- "endpoint deltas for all tiles, plane by plane"
unfoldable pub endpoints_sent : List Plane → List (List ℕ) → List Sent
unfolding in_code
endpoints_sent [] yss = []
endpoints_sent (p ∷ ps) [] = []
endpoints_sent (p ∷ ps) (ys ∷ yss) = in_code p.endpoint_deltas ys ++ endpoints_sent ps yss

-- "then at each of the four positions one selector delta per plane, same plane order"
unfoldable pub position_sent : List Plane → List ℕ → List Sent
position_sent [] ys = []
position_sent (p ∷ ps) [] = []
position_sent (p ∷ ps) (y ∷ ys) = sent p.selector_deltas y ∷ position_sent ps ys

unfoldable pub selectors_sent : List Plane → List (List ℕ) → List Sent
unfolding position_sent
selectors_sent ps [] = []
selectors_sent ps (ys ∷ yss) = position_sent ps ys ++ selectors_sent ps yss

unfoldable pub chunk_sent : List ℕ → List Plane → Draws → List Sent
unfolding in_code endpoints_sent selectors_sent
chunk_sent table ps d = in_code table d.symbols ++ (endpoints_sent ps d.endpoints ++ selectors_sent ps d.selectors)

unfoldable pub level_sent : List ℕ → List Plane → List Draws → List Sent
unfolding chunk_sent
level_sent table ps [] = []
level_sent table ps (d ∷ ds) = chunk_sent table ps d ++ level_sent table ps ds

-- ---- encodings and running indices

-- the encodings of this chunk and of those after it: those pending, or the three of the chunk symbol, "lowest three bits first"
unfoldable pub encodings : List ℕ → List ℕ → List ℕ
encodings (e ∷ pending) ys = e ∷ pending
encodings [] [] = []
encodings [] (y ∷ ys) = y % 8 ∷ y / 8 % 8 ∷ y / 64 % 8 ∷ []

-- the running index of a palette of n, from i on, after each delta
unfoldable pub indices : ℕ → ℕ → List ℕ → List ℕ
indices n i [] = []
indices n i (y ∷ ys) = stepped n i y ∷ indices n (stepped n i y) ys

-- each plane's endpoint indices
unfoldable pub endpoints_of : List Plane → List ℕ → List (List ℕ) → List (List ℕ)
unfolding indices
endpoints_of [] is yss = []
endpoints_of (p ∷ ps) [] yss = []
endpoints_of (p ∷ ps) (i ∷ is) [] = []
endpoints_of (p ∷ ps) (i ∷ is) (ys ∷ yss) = indices p.endpoints i ys ∷ endpoints_of ps is yss

-- the planes' selector indices at a position, and at each position
unfoldable pub selectors_at : List Plane → List ℕ → List ℕ → List ℕ
selectors_at [] is ys = []
selectors_at (p ∷ ps) [] ys = []
selectors_at (p ∷ ps) (i ∷ is) [] = []
selectors_at (p ∷ ps) (i ∷ is) (y ∷ ys) = stepped p.selectors i y ∷ selectors_at ps is ys

unfoldable pub selectors_of : List Plane → List ℕ → List (List ℕ) → List (List ℕ)
unfolding selectors_at
selectors_of ps is [] = []
selectors_of ps is (ys ∷ yss) = selectors_at ps is ys ∷ selectors_of ps (selectors_at ps is ys) yss

-- the chunk, and what is carried on from it
unfoldable pub chunk_by : List Plane → Running → Draws → Chunk
unfolding encodings endpoints_of selectors_of
chunk_by ps r d =
    record {
      encoding = get_or (encodings r.pending d.symbols) 0 0;
      tiles = endpoints_of ps r.endpoint d.endpoints;
      positions = selectors_of ps r.selector d.selectors;
    }

unfoldable pub after : List Plane → Running → Draws → Running
unfolding encodings endpoints_of selectors_of lasts last_row
after ps r d =
    record {
      pending = drop 1 (encodings r.pending d.symbols);
      endpoint = lasts r.endpoint (endpoints_of ps r.endpoint d.endpoints);
      selector = last_row r.selector (selectors_of ps r.selector d.selectors);
    }

unfoldable pub chunks_by : List Plane → Running → List Draws → List Chunk
unfolding chunk_by after
chunks_by ps r [] = []
chunks_by ps r (d ∷ ds) = chunk_by ps r d ∷ chunks_by ps (after ps r d) ds

-- ---- when they fit a level

-- a chunk symbol, below 1,024, exactly where no encoding is pending
unfoldable pub SymbolFits : List ℕ → List ℕ → Type 0
SymbolFits [] ys = (length ys ≡ 1) × (get_or ys 0 0 < chunk_symbols)
SymbolFits (e ∷ pending) ys = length ys ≡ 0

unfoldable pub AllBelow : ℕ → List ℕ → Type 0
AllBelow n [] = Unit {0}
AllBelow n (i ∷ is) = (i < n) × AllBelow n is

-- for each plane a delta for each of n tiles, and each index in range; `is` has a running index for each plane
unfoldable pub EndpointsFit : List Plane → ℕ → List ℕ → List (List ℕ) → Type 0
unfolding indices AllBelow
EndpointsFit [] n is yss = length yss ≡ 0
EndpointsFit (p ∷ ps) n [] yss = length yss ≡ 0
EndpointsFit (p ∷ ps) n (i ∷ is) [] = ⊥
EndpointsFit (p ∷ ps) n (i ∷ is) (ys ∷ yss) =
    (length ys ≡ n) × (AllBelow p.endpoints (indices p.endpoints i ys) × EndpointsFit ps n is yss)

-- at a position a delta for each plane, and each index in range where the position lies inside the grid
unfoldable pub PositionFits : List Plane → Bool → List ℕ → List ℕ → Type 0
PositionFits [] inside is ys = length ys ≡ 0
PositionFits (p ∷ ps) inside [] ys = length ys ≡ 0
PositionFits (p ∷ ps) inside (i ∷ is) [] = ⊥
PositionFits (p ∷ ps) inside (i ∷ is) (y ∷ ys) =
    (inside ≡ true → stepped p.selectors i y < p.selectors) × PositionFits ps inside is ys

-- the same at each position, given which of them lie inside the grid
unfoldable pub SelectorsFit : List Plane → List Bool → List ℕ → List (List ℕ) → Type 0
unfolding PositionFits selectors_at
SelectorsFit ps [] is yss = length yss ≡ 0
SelectorsFit ps (inside ∷ more) is [] = ⊥
SelectorsFit ps (inside ∷ more) is (ys ∷ yss) = PositionFits ps inside is ys × SelectorsFit ps more (selectors_at ps is ys) yss

pub record ChunkFits (ps : List Plane) (inside : List Bool) (r : Running) (d : Draws) : Type 0 where
  pub symbol : SymbolFits r.pending d.symbols
  pub endpoints : EndpointsFit ps (get_or tile_counts (chunk_by ps r d).encoding 0) r.endpoint d.endpoints
  pub selectors : SelectorsFit ps inside r.selector d.selectors

-- as many as there are chunks, and each fits after those before it
unfoldable pub Fits : List Plane → List (List Bool) → Running → List Draws → Type 0
unfolding after
Fits ps [] r ds = length ds ≡ 0
Fits ps (inside ∷ more) r [] = ⊥
Fits ps (inside ∷ more) r (d ∷ ds) = ChunkFits ps inside r d × Fits ps more (after ps r d) ds

-- ds are a script of the level: they fit its chunks, each symbol has a code, and the codes laid end to end begin the segment
pub record Script (table : List ℕ) (ps : List Plane) (insides : List (List Bool)) (seg : List ℕ) (ds : List Draws) : Type 0 where
  pub fits : Fits ps insides (fresh ps) ds
  pub coded : AllCoded (level_sent table ps ds)
  pub laid : Starts seg 0 (bits (level_sent table ps ds))
