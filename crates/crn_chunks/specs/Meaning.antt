-- What the records of the code mean, in the definitions' terms. A level has one plane or two: every list over the planes is a `row`.
use Rattle.std.specs.Prelude.{ℕ, ◌+◌, ◌*◌, ◌/◌, ◌%◌, ◌<◌, ◌≤◌, Bool, List, [], ◌∷◌, length, get_or, take, drop, ltb}
use Rattle.crn_format.specs.Choice.{pick}
use Rattle.crn_format.specs.Limits.{max_entries}
use Rattle.crn_format.specs.Reading.{Step, refused, Source, Spending, spot, from_bits, budgeted}
use Rattle.crn_format.specs.Level.{Plane, Running, Chunk, tile_counts}
use Rattle.crn_format.specs.Refusals.{number_of}
use Rattle.crn_symbol_codec.specs.Cursors.{place, Holds}
use Rattle.crn_symbol_codec.specs.Decoders.{Decodes}
use Rattle.crn_chunks.specs.declared.Side.{Side}
use Rattle.crn_chunks.specs.declared.Planes.{Planes}
use Rattle.crn_chunks.specs.declared.Carried.{Carried}
use Rattle.crn_chunks.specs.declared.Stream.{Stream}
use Rattle.crn_chunks.specs.declared.Stop.{Stop}

-- ---- the source

abbrev pub source : List ℕ → Source Spending
source seg = budgeted (from_bits seg)

-- where a stream stands
abbrev pub spending : Stream → Spending
spending s = record { place = spot (place s.cursor) s.blamed; left = s.left }

-- a refusal, as a step
abbrev pub stopped : {A : Type 0} → Stop → Step Spending A
stopped x = refused (number_of x.refusal) (record { place = spot x.at x.at; left = x.left })

-- ---- the planes

abbrev pub row : {A : Type 0} → Bool → A → A → List A
row two a b = a ∷ pick two (b ∷ []) []

-- cs k is the code of table number k
unfoldable pub plane_of : (ℕ → List ℕ) → Side → Plane
plane_of cs p =
    record {
      endpoint_deltas = cs p.ends;
      selector_deltas = cs p.sels;
      endpoints = p.endpoints;
      selectors = p.selectors;
    }

abbrev pub planes : (ℕ → List ℕ) → Planes → List Plane
planes cs ps = row ps.two (plane_of cs ps.first) (plane_of cs ps.second)

-- number k of the parts of a list, each n long
abbrev pub part : ℕ → List ℕ → ℕ → List ℕ
part n xs k = take n (drop (k * n) xs)

-- the decoder table of number k
abbrev pub lookup_of : Planes → List ℕ → ℕ → List ℕ
lookup_of ps lookup k = part ps.lookup_step lookup k

abbrev pub sorted_of : Planes → List ℕ → ℕ → List ℕ
sorted_of ps sorted k = part ps.sorted_step sorted k

-- they decode the codes cs
abbrev pub Coded : (ℕ → List ℕ) → Planes → List ℕ → List ℕ → Type 0
Coded cs ps lookup sorted = (k : ℕ) → k < ps.tables → Decodes (cs k) (lookup_of ps lookup k) (sorted_of ps sorted k)

-- the tables that a plane names are there
pub record Named (ps : Planes) (p : Side) : Type 0 where
  pub ends : p.ends < ps.tables
  pub sels : p.sels < ps.tables

-- a plane's palettes are no larger than a header allows, so that no running index overflows
pub record Small (p : Side) : Type 0 where
  pub endpoints : p.endpoints ≤ max_entries
  pub selectors : p.selectors ≤ max_entries

-- there is room for the tables, and they decode some codes
pub record Served (ps : Planes) (lookup sorted : List ℕ) : Type 0 where
  pub some : 0 < ps.tables
  pub first : Named ps ps.first
  pub second : Named ps ps.second
  pub small : Small ps.first × Small ps.second
  pub lookups : ps.tables * ps.lookup_step ≤ length lookup
  pub sorteds : ps.tables * ps.sorted_step ≤ length sorted
  pub codes : ℕ → List ℕ
  pub coded : Coded codes ps lookup sorted

-- ---- what is carried on

-- the encodings that are pending
unfoldable pub pending_of : ℕ → List ℕ
pending_of v = pick (ltb v 8) [] (v % 8 ∷ pick (ltb v 64) [] (v / 8 % 8 ∷ []))

unfoldable pub running_of : Bool → Carried → Running
unfolding pending_of
running_of two r =
    record { pending = pending_of r.pending; endpoint = row two r.e0 r.e1; selector = row two r.s0 r.s1 }

-- a running selector index is not checked outside the grid, so it can grow, but not far: the first position of a chunk is inside
abbrev pub most : ℕ
most = 1099511627776

-- the next chunk can be read
pub record Onward (seg : List ℕ) (r : Carried) (s : Stream) : Type 0 where
  pub holds : Holds seg s.cursor
  pub ends : (r.e0 < most) × (r.e1 < most)
  pub first : r.s0 < most
  pub second : r.s1 < most

-- ---- a chunk as read, of its encoding and its indices

unfoldable pub chunk_of : Bool → ℕ → List ℕ → Chunk
unfolding tile_counts
chunk_of two e out =
    record {
      encoding = e;
      tiles = row two (take n out) (take n (drop 4 out));
      positions = at 0 ∷ at 1 ∷ at 2 ∷ at 3 ∷ [];
    }
  where
    n : ℕ
    n = get_or tile_counts e 0

    at : ℕ → List ℕ
    at q = row two (get_or out (8 + q) 0) (get_or out (12 + q) 0)
