-- What the parts of a chunk answer: a symbol, an index, the indices of tiles and of positions, and an encoding.
use Rattle.std.specs.Prelude.{Ok, Err, ℕ, zero, suc, ◌+◌, ◌-◌, ◌<◌, ◌≡◌, Bool, List, [], ◌∷◌, ◌++◌, length, get_or, take, drop, ltb}
use Rattle.std.specs.declared.result.Result.{Result}
use Rattle.crn_format.specs.Refusals.{number_of}
use Rattle.crn_format.specs.declared.Refusal.{Refusal}
use Rattle.crn_format.specs.Choice.{pick, not, either}
use Rattle.crn_format.specs.Limits.{too_long}
use Rattle.crn_format.specs.Reading.{Reading, answer, refuse, symbol, next, Step, got, refused, Spending, spot, run}
use Rattle.crn_format.specs.Level.{stepped, endpoint_indices, plane_endpoints, plane_selectors, position_selectors, encoding}
use Rattle.crn_format.specs.Level.{last_or, lasts, last_row}
use Rattle.crn_symbol_codec.specs.Cursors.{place, Holds}
use Rattle.crn_symbol_codec.specs.Taking.{Taken}
use Rattle.crn_symbol_codec.specs.declared.Cursor.{Cursor}
use Rattle.crn_chunks.specs.Meaning.{source, spending, stopped, row, plane_of, planes, Coded, Served, pending_of, most}
use Rattle.crn_chunks.specs.declared.Side.{Side}
use Rattle.crn_chunks.specs.declared.Planes.{Planes}
use Rattle.crn_chunks.specs.declared.Stream.{Stream}
use Rattle.crn_chunks.specs.declared.Stop.{Stop}

-- a part can be read
pub record Ready (lookup sorted seg : List ℕ) (ps : Planes) (s : Stream) : Type 0 where
  pub short : length seg < too_long
  pub served : Served ps lookup sorted
  pub holds : Holds seg s.cursor

-- ---- the answers: a number, a pair, or an encoding with what is then pending, and the stream after it; or the refusal

abbrev pub Drew : Type 0
Drew = Result (ℕ × Stream) Stop

abbrev pub Paired : Type 0
Paired = Result (ℕ × ℕ × Stream) Stop

-- the refusal of a symbol that was drawn
abbrev pub blamed : Refusal → Stream → Stop
blamed n s = record { refusal = n; at = s.blamed; left = s.left }

-- ---- the answers as steps, where the number, or the pair, stands for the answer that f makes of it

abbrev pub drew : {A : Type 0} → (ℕ → A) → Drew → Step Spending A
drew f (Ok (v, t)) = got (f v) (spending t)
drew f (Err x) = stopped x

abbrev pub paired : {A : Type 0} → (ℕ → ℕ → A) → Paired → Step Spending A
paired f (Ok (a, b, t)) = got (f a b) (spending t)
paired f (Err x) = stopped x

abbrev pub encoded : Paired → Step Spending (ℕ × List ℕ)
encoded (Ok (e, v, t)) = got (e, pending_of v) (spending t)
encoded (Err x) = stopped x

-- ---- what holds of an answer that is no refusal

abbrev pub WhenTaken : (ℕ → Cursor → Type 0) → Taken → Type 0
WhenTaken P (Ok (v, d)) = P v d
WhenTaken P (Err n) = Unit {0}

abbrev pub WhenDrew : (ℕ → Stream → Type 0) → Drew → Type 0
WhenDrew P (Ok (v, t)) = P v t
WhenDrew P (Err x) = Unit {0}

abbrev pub WhenPaired : (ℕ → ℕ → Stream → Type 0) → Paired → Type 0
WhenPaired P (Ok (a, b, t)) = P a b t
WhenPaired P (Err x) = Unit {0}

abbrev pub WhenEncoded : (ℕ → Stream → Type 0) → Paired → Type 0
WhenEncoded P (Ok (e, v, t)) = P e t
WhenEncoded P (Err x) = Unit {0}

-- ---- a symbol, and an index

-- the answer to a draw at s, as a step: a symbol is taken off the budget
abbrev pub charging : Stream → Taken → Step Spending ℕ
charging s (Ok (v, d)) = got v (record { place = spot (place d) (place s.cursor); left = s.left - 1 })
charging s (Err n) = refused (number_of n) (record { place = spot (place s.cursor) (place s.cursor); left = s.left })

-- r is what drawing a symbol of table number `which` gives at s, 15 included
pub record Budgeted (lookup sorted seg : List ℕ) (ps : Planes) (which : ℕ) (s : Stream) (r : Taken) : Type 0 where
  pub same : (cs : ℕ → List ℕ) → Coded cs ps lookup sorted → charging s r ≡ run (source seg) (symbol (cs which)) (spending s)
  pub on : WhenTaken (λ v d. Holds seg d × (0 < s.left)) r

-- a is what reading m gives at s, and its number is below the bound
pub record Draws (lookup sorted seg : List ℕ) (ps : Planes) (m : (ℕ → List ℕ) → Reading ℕ) (s : Stream) (bound : ℕ) (a : Drew)
    : Type 0 where
  pub same : (cs : ℕ → List ℕ) → Coded cs ps lookup sorted → drew (λ v. v) a ≡ run (source seg) (m cs) (spending s)
  pub on : WhenDrew (λ v t. Holds seg t.cursor × (v < bound)) a

-- the next index of a palette of n entries, which a delta in the code ls gives: it is looked at where it is used, "inside"
unfoldable pub index_of : List ℕ → ℕ → Bool → ℕ → Reading ℕ
unfolding next
index_of ls n inside i =
    next (symbol ls) λ d. pick (either (ltb (stepped n i d) n) (not inside)) (answer (stepped n i d)) (refuse 14)

-- a delta is below this
abbrev pub farthest : ℕ
farthest = 4294967296

-- how far an index goes
abbrev pub reach : Bool → ℕ → ℕ
reach inside i = pick inside farthest (i + farthest)

-- ---- the tiles

abbrev pub tiles_at : ℕ → ℕ → List ℕ → List ℕ
tiles_at base n out = take n (drop base out)

-- the indices before `base` stay
abbrev pub Kept : ℕ → List ℕ → List ℕ → Type 0
Kept base before after = (q : ℕ) → q < base → get_or after q 0 ≡ get_or before q 0

-- a plane's n endpoint indices from i on stand at `base`, and the answer has the last
pub record Tiled (lookup sorted seg : List ℕ) (ps : Planes) (p : Side) (base n i : ℕ) (s : Stream) (before after : List ℕ)
    (a : Drew) : Type 0 where
  pub same : (cs : ℕ → List ℕ) → Coded cs ps lookup sorted
      → drew (λ _. tiles_at base n after) a ≡ run (source seg) (endpoint_indices (plane_of cs p) n i []) (spending s)
  pub on : WhenDrew (λ j t. Holds seg t.cursor × ((j < most) × (last_or i (tiles_at base n after) ≡ j))) a
  pub kept : Kept base before after

abbrev pub tile_rows : Bool → ℕ → List ℕ → List (List ℕ)
tile_rows two n out = row two (tiles_at 0 n out) (tiles_at 4 n out)

-- the same for each plane
pub record AllTiled (lookup sorted seg : List ℕ) (ps : Planes) (n e0 e1 : ℕ) (s : Stream) (after : List ℕ) (a : Paired) : Type 0 where
  pub same : (cs : ℕ → List ℕ) → Coded cs ps lookup sorted
      → paired (λ _ _. tile_rows ps.two n after) a ≡ run (source seg) (plane_endpoints (planes cs ps) n (row ps.two e0 e1)) (spending s)
  pub on : WhenPaired (λ i j t. Holds seg t.cursor × ((i < most) × ((j < most)
      × (lasts (row ps.two e0 e1) (tile_rows ps.two n after) ≡ row ps.two i j)))) a

-- ---- the positions

-- the selector indices at one position
pub record Picks (lookup sorted seg : List ℕ) (ps : Planes) (inside : Bool) (s0 s1 : ℕ) (s : Stream) (a : Paired) : Type 0 where
  pub same : (cs : ℕ → List ℕ) → Coded cs ps lookup sorted
      → paired (row ps.two) a ≡ run (source seg) (plane_selectors (planes cs ps) inside (row ps.two s0 s1)) (spending s)
  pub on : WhenPaired (λ i j t. Holds seg t.cursor × ((i < reach inside s0) × (j < reach inside s1))) a

-- those of the first k positions
unfoldable pub rows_to : Bool → List ℕ → ℕ → List (List ℕ)
rows_to two out zero = []
rows_to two out (suc k) = rows_to two out k ++ (row two (get_or out (8 + k) 0) (get_or out (12 + k) 0) ∷ [])

-- those of all positions stand from 8 on, and the answer has the last
pub record AllPicked (lookup sorted seg : List ℕ) (ps : Planes) (inside : List Bool) (s0 s1 : ℕ) (s : Stream)
    (before after : List ℕ) (a : Paired) : Type 0 where
  pub same : (cs : ℕ → List ℕ) → Coded cs ps lookup sorted
      → paired (λ _ _. rows_to ps.two after 4) a
      ≡ run (source seg) (position_selectors (planes cs ps) inside (row ps.two s0 s1) []) (spending s)
  pub on : WhenPaired (λ i j t. Holds seg t.cursor × ((i < most) × ((j < most)
      × (last_row (row ps.two s0 s1) (rows_to ps.two after 4) ≡ row ps.two i j)))) a
  pub kept : Kept 8 before after

-- ---- the next encoding, where v is pending

pub record Encodes (lookup sorted seg : List ℕ) (ps : Planes) (v : ℕ) (s : Stream) (a : Paired) : Type 0 where
  pub same : (cs : ℕ → List ℕ) → Coded cs ps lookup sorted
      → encoded a ≡ run (source seg) (encoding (cs 0) (pending_of v)) (spending s)
  pub on : WhenEncoded (λ e t. Holds seg t.cursor × (e < 8)) a
