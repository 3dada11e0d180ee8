-- What the quick way to read a chunk found. Where it was not lost, its numbers are what the slow way answers, from a stream at the cursor
-- with any bit blamed and a budget of l, of which m are left: nothing looks at either on the way. Whether a position lies inside does not
-- matter to it either.
use Rattle.std.specs.Prelude.{ℕ, ◌+◌, ◌-◌, ◌≤◌, ◌≡◌, Bool, List, Option, Ok, IfSome, length}
use Rattle.crn_format.specs.Choice.{pick}
use Rattle.crn_symbol_codec.specs.Cursors.{place, Holds}
use Rattle.crn_symbol_codec.specs.declared.Cursor.{Cursor}
use Rattle.crn_chunks.specs.Meaning.{Served}
use Rattle.crn_format.specs.Reading.{symbol}
use Rattle.crn_chunks.specs.Parts.{Draws, index_of, reach, farthest, Tiled, AllTiled, Picks, AllPicked, Encodes}
use Rattle.crn_chunks.specs.Reads.{Reads, inside_of}
use Rattle.crn_chunks.specs.declared.Side.{Side}
use Rattle.crn_chunks.specs.declared.Planes.{Planes}
use Rattle.crn_chunks.specs.declared.Carried.{Carried}
use Rattle.crn_chunks.specs.declared.Stream.{Stream}

abbrev pub stream_at : Cursor → ℕ → ℕ → Stream
stream_at c b l = record { cursor = c; blamed = b; left = l }

-- n for each plane
abbrev pub each : Bool → ℕ → ℕ
each two n = pick two (n + n) n

-- the quick way can be gone from a cursor
pub record Able (lookup sorted seg : List ℕ) (ps : Planes) (c : Cursor) : Type 0 where
  pub served : Served ps lookup sorted
  pub holds : Holds seg c

-- ---- a symbol, and an index

-- a symbol v, whose code of `len` bits leads from c to d
pub record Found (lookup sorted seg : List ℕ) (ps : Planes) (which : ℕ) (c d : Cursor) (v len : ℕ) : Type 0 where
  pub drawn : (b l m : ℕ) → l ≡ m + 1
      → Draws lookup sorted seg ps (λ cs. symbol (cs which)) (stream_at c b l) farthest (Ok (v, stream_at d (place c) m))
  pub passed : place d ≡ place c + len

abbrev pub QuickFound : List ℕ → List ℕ → List ℕ → Planes → ℕ → Cursor → Option (Cursor × ℕ × ℕ) → Type 0
QuickFound lookup sorted seg ps which c a = IfSome a λ (d, v, len). Found lookup sorted seg ps which c d v len

-- an index j
pub record Stepped (lookup sorted seg : List ℕ) (ps : Planes) (which size : ℕ) (inside : Bool) (i : ℕ) (c d : Cursor)
    (j len : ℕ) : Type 0 where
  pub drawn : (b l m : ℕ) → l ≡ m + 1
      → Draws lookup sorted seg ps (λ cs. index_of (cs which) size inside i) (stream_at c b l) (reach inside i)
      (Ok (j, stream_at d (place c) m))
  pub passed : place d ≡ place c + len

abbrev pub QuickStepped : List ℕ → List ℕ → List ℕ → Planes → ℕ → ℕ → ℕ → Cursor → Option (Cursor × ℕ × ℕ) → Type 0
QuickStepped lookup sorted seg ps which size i c a =
    IfSome a λ (d, j, len). (inside : Bool) → Stepped lookup sorted seg ps which size inside i c d j len

-- ---- the tiles

-- the indices of a plane's tiles, the last of them j
pub record Tiles (lookup sorted seg : List ℕ) (ps : Planes) (p : Side) (base n i : ℕ) (s : Stream) (m : ℕ) (before after : List ℕ)
    (d : Cursor) (j : ℕ) : Type 0 where
  pub blamed : ℕ
  pub tiled : Tiled lookup sorted seg ps p base n i s before after (Ok (j, stream_at d blamed m))

abbrev pub PlaneTiles : List ℕ → List ℕ → List ℕ → Planes → Side → ℕ → ℕ → ℕ → Cursor → List ℕ → List ℕ → Cursor → ℕ → Type 0
PlaneTiles lookup sorted seg ps p base n i c before after d j =
    (b l m : ℕ) → l ≡ m + n → Tiles lookup sorted seg ps p base n i (stream_at c b l) m before after d j

abbrev pub QuickTiled : List ℕ → List ℕ → List ℕ → Planes → Side → ℕ → ℕ → ℕ → Cursor → List ℕ → List ℕ → Option (Cursor × ℕ) → Type 0
QuickTiled lookup sorted seg ps p base n i c before after a =
    IfSome a λ (d, j). PlaneTiles lookup sorted seg ps p base n i c before after d j

-- those of each plane
pub record AllTiles (lookup sorted seg : List ℕ) (ps : Planes) (n e0 e1 : ℕ) (s : Stream) (m : ℕ) (after : List ℕ)
    (d : Cursor) (i j : ℕ) : Type 0 where
  pub blamed : ℕ
  pub tiled : AllTiled lookup sorted seg ps n e0 e1 s after (Ok (i, j, stream_at d blamed m))

abbrev pub PlanesTiles : List ℕ → List ℕ → List ℕ → Planes → ℕ → ℕ → ℕ → Cursor → List ℕ → Cursor → ℕ → ℕ → Type 0
PlanesTiles lookup sorted seg ps n e0 e1 c after d i j =
    (b l m : ℕ) → l ≡ m + each ps.two n → AllTiles lookup sorted seg ps n e0 e1 (stream_at c b l) m after d i j

abbrev pub QuickAllTiled : List ℕ → List ℕ → List ℕ → Planes → ℕ → ℕ → ℕ → Cursor → List ℕ → Option (Cursor × ℕ × ℕ) → Type 0
QuickAllTiled lookup sorted seg ps n e0 e1 c after a = IfSome a λ (d, i, j). PlanesTiles lookup sorted seg ps n e0 e1 c after d i j

-- ---- the positions

-- the indices at a position; the place before the last of them is blamed
pub record Picked (lookup sorted seg : List ℕ) (ps : Planes) (inside : Bool) (s0 s1 : ℕ) (c d : Cursor) (i j len : ℕ) : Type 0 where
  pub picked : (b l m : ℕ) → l ≡ m + each ps.two 1
      → Picks lookup sorted seg ps inside s0 s1 (stream_at c b l) (Ok (i, j, stream_at d (place d - len) m))
  pub passed : len ≤ place d

abbrev pub QuickPicks : List ℕ → List ℕ → List ℕ → Planes → ℕ → ℕ → Cursor → Option (Cursor × ℕ × ℕ × ℕ) → Type 0
QuickPicks lookup sorted seg ps s0 s1 c a =
    IfSome a λ (d, i, j, len). (inside : Bool) → Picked lookup sorted seg ps inside s0 s1 c d i j len

-- those at all positions
pub record PickedAll (lookup sorted seg : List ℕ) (ps : Planes) (inside : List Bool) (s0 s1 : ℕ) (c : Cursor) (before after : List ℕ)
    (d : Cursor) (i j len : ℕ) : Type 0 where
  pub picked : (b l m : ℕ) → l ≡ m + each ps.two 4
      → AllPicked lookup sorted seg ps inside s0 s1 (stream_at c b l) before after (Ok (i, j, stream_at d (place d - len) m))
  pub passed : len ≤ place d

abbrev pub QuickAllPicked : List ℕ → List ℕ → List ℕ → Planes → ℕ → ℕ → Cursor → List ℕ → List ℕ → Option (Cursor × ℕ × ℕ × ℕ) → Type 0
QuickAllPicked lookup sorted seg ps s0 s1 c before after a =
    IfSome a λ (d, i, j, len).
    (right bottom : Bool) → PickedAll lookup sorted seg ps (inside_of right bottom) s0 s1 c before after d i j len

-- ---- a chunk

-- the tiles and the positions of a chunk, with what lies between them
pub record Both (lookup sorted seg : List ℕ) (ps : Planes) (n : ℕ) (right bottom : Bool) (r : Carried) (s : Stream) (out : List ℕ)
    (e0 e1 s0 s1 : ℕ) (t : Stream) : Type 0 where
  pub mid : List ℕ
  pub between : Stream
  pub long : length out ≡ length mid
  pub tiled : AllTiled lookup sorted seg ps n r.e0 r.e1 s mid (Ok (e0, e1, between))
  pub picked : AllPicked lookup sorted seg ps (inside_of right bottom) r.s0 r.s1 between mid out (Ok (s0, s1, t))

abbrev pub QuickRead : List ℕ → List ℕ → List ℕ → Planes → ℕ → Carried → Stream → List ℕ → Option (ℕ × ℕ × ℕ × ℕ × Stream) → Type 0
QuickRead lookup sorted seg ps n r s out a =
    IfSome a λ (e0, e1, s0, s1, t). (right bottom : Bool) → Both lookup sorted seg ps n right bottom r s out e0 e1 s0 s1 t

-- an encoding takes one symbol at most
pub record Encoding (lookup sorted seg : List ℕ) (ps : Planes) (v : ℕ) (s : Stream) (e w : ℕ) (t : Stream) : Type 0 where
  pub same : Encodes lookup sorted seg ps v s (Ok (e, w, t))
  pub few : s.left ≤ t.left + 1

abbrev pub QuickEncodes : List ℕ → List ℕ → List ℕ → Planes → ℕ → Stream → Option (ℕ × ℕ × Stream) → Type 0
QuickEncodes lookup sorted seg ps v s a = IfSome a λ (e, w, t). Encoding lookup sorted seg ps v s e w t

-- a chunk
abbrev pub QuickReads : List ℕ → List ℕ → List ℕ → Planes → Carried → Stream → List ℕ → Option (ℕ × Carried × Stream) → Type 0
QuickReads lookup sorted seg ps r s out a =
    IfSome a λ (e, n, t). (right bottom : Bool) → Reads lookup sorted seg ps right bottom r s out (Ok (e, n, t))
