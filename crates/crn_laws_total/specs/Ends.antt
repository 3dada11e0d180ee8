-- How opening and unpacking end, whatever the file holds and whatever else they are given (demand 1): with an answer, or with a refusal
-- numbered in document 01; what is then left in what was lent; and the symbols, the cut-outs, the bit and the budget that are told.
use Rattle.std.specs.Prelude.{ℕ, zero, suc, ◌+◌, ◌*◌, ◌<◌, Bool, true, false, ◌⊎◌, List, ◌≡◌, length, get_or, take, drop}
use Rattle.crn_format.specs.Reading.{Spending, start, got, refused, run, from_bits, budgeted}
use Rattle.crn_format.specs.Header.{kind_of}
use Rattle.crn_format.specs.Opening.{Palettes, Opening, opened, shut, present}
use Rattle.crn_format.specs.Level.{Chunk}
use Rattle.crn_format.specs.Grid.{block_at}
use Rattle.crn_format.specs.Unpacking.{Unpacking, unpacked, declined, shades_of, cutout_count, level_reading, level_segment, grid_of, unpacking}
use Rattle.crn_format.specs.declared.Header.{Header}
use Rattle.crn_format.specs.declared.Record.{Record}
use Rattle.crn_format.specs.declared.Grid.{Grid}
use Rattle.crn_blocks.specs.Sheet.{In, standing}
use Rattle.crn_sizes.specs.Sizes.{level_sizes}
use Rattle.crn_levels.specs.declared.Several.{Several}
use Rattle.crn_laws_total.specs.Refusals.{among, before_streams, in_streams, opening_refusals, before_draws, in_draws, level_refusals}
use Rattle.crn_laws_total.specs.Leaves.{Zeroed, Beyond, Leaves}

-- ---- opening

pub record AllZeroed (lent after : Palettes) : Type 0 where
  pub color_ends : Zeroed lent.color_ends after.color_ends
  pub color_sels : Zeroed lent.color_sels after.color_sels
  pub alpha_ends : Zeroed lent.alpha_ends after.alpha_ends
  pub alpha_sels : Zeroed lent.alpha_sels after.alpha_sels

-- refused by n at a bit: "Opening refused by 1 to 5 leaves palettes untouched; later, all four lent buffers zero"; before a stream it
-- names no bit
pub record Shut (lent after : Palettes) (n bit : ℕ) : Type 0 where
  pub number : among n opening_refusals ≡ true
  pub untouched : among n before_streams ≡ true → (after ≡ lent) × (bit ≡ 0)
  pub zeroed : among n in_streams ≡ true → AllZeroed lent after

-- a plane's two buffers, of which n₁ and n₂ words are filled where it is read
pub record Plane (read : Bool) (n₁ n₂ : ℕ) (b₁ b₂ a₁ a₂ : List ℕ) : Type 0 where
  pub first : read ≡ true → Beyond n₁ b₁ a₁
  pub second : read ≡ true → Beyond n₂ b₂ a₂
  pub unread : read ≡ false → (a₁ ≡ b₁) × (a₂ ≡ b₂)

-- "Opening that succeeds leaves words beyond each count, and an unread plane's, alone"; an alpha selector is three words
pub record Open (h : Header) (lent after : Palettes) : Type 0 where
  pub color : Plane (present h.color_endpoints) h.color_endpoints.count h.color_selectors.count
      lent.color_ends lent.color_sels after.color_ends after.color_sels
  pub alpha : Plane (present h.alpha_endpoints) h.alpha_endpoints.count (3 * h.alpha_selectors.count)
      lent.alpha_ends lent.alpha_sels after.alpha_ends after.alpha_sels

abbrev pub OpeningEnds : Palettes → Opening → Type 0
OpeningEnds lent (opened r after) = Open r.header lent after
OpeningEnds lent (shut n bit after) = Shut lent after n bit

-- ---- a level

-- refused by n in its stream: reading its chunks comes to this refusal, at this bit, with so many symbols drawn whole; "whose refusals
-- zero the grid's blocks and touch nothing else"
pub record Stopped (r : Record) (seg : List ℕ) (g : Grid) (budget n symbols bit : ℕ) (b a : List ℕ) : Type 0 where
  pub last : Spending
  pub read : run (budgeted (from_bits seg)) (level_reading r g) (record { place = start; left = budget }) ≡ refused n last
  pub drawn : last.left + symbols ≡ budget
  pub named : bit ≡ last.place.blamed
  pub wiped : Leaves g (λ f x y k. 0) b a

-- refused by n: "2, 6, 10, 4, 5, 11, 12, all before the first draw and with the destination untouched", no symbol drawn and no bit named,
-- "then the stream"
pub record Declined (r : Record) (seg : List ℕ) (g : Grid) (budget n symbols bit : ℕ) (b a : List ℕ) : Type 0 where
  pub number : among n level_refusals ≡ true
  pub untouched : among n before_draws ≡ true → (a ≡ b) × ((symbols ≡ 0) × (bit ≡ 0))
  pub stopped : among n in_draws ≡ true → Stopped r seg g budget n symbols bit b a

-- accepted: the blocks of the chunks that are read stand in their places; "so does a level [leave alone what lies] beyond its grid". The
-- symbols are those taken off the budget, the cut-outs "counted over the bytes left"
pub record Accepted (r : Record) (seg : List ℕ) (p : Palettes) (g : Grid) (budget symbols cutouts : ℕ) (b a : List ℕ) : Type 0 where
  pub chunks : List Chunk
  pub left : Spending
  pub read : run (budgeted (from_bits seg)) (level_reading r g) (record { place = start; left = budget }) ≡ got chunks left
  pub sized : (f x y : ℕ) → In g f x y → length (block_at g (shades_of (kind_of r.header.format) p) chunks f x y) ≡ g.bytes
  pub leaves : Leaves g (λ f x y k. get_or (block_at g (shades_of (kind_of r.header.format) p) chunks f x y) k 0) b a
  pub drawn : left.left + symbols ≡ budget
  pub counted : cutouts ≡ cutout_count (kind_of r.header.format) g (standing g a)

abbrev pub LevelEnds : Record → List ℕ → Palettes → ℕ → ℕ → ℕ → ℕ → List ℕ → Unpacking → Type 0
LevelEnds r file p n pitch distance budget dst (unpacked symbols cutouts after) =
    Accepted r (level_segment file r.header n) p (grid_of r.header n pitch distance) budget symbols cutouts dst after
LevelEnds r file p n pitch distance budget dst (declined number symbols bit after) =
    Declined r (level_segment file r.header n) (grid_of r.header n pitch distance) budget number symbols bit dst after

-- ---- several levels, each with its rows and faces close together, and its bytes behind those of the level before

abbrev pub grid_at : Header → ℕ → Grid
grid_at h n = grid_of h n (level_sizes h n).pitch (level_sizes h n).distance

-- level n unpacked so, by a call of its own
abbrev pub closely : Record → List ℕ → Palettes → ℕ → ℕ → List ℕ → Unpacking
closely r file p n budget d = unpacking r file p n (level_sizes r.header n).pitch (level_sizes r.header n).distance budget d

-- the bytes of k levels from n on
abbrev pub bytes_of : Header → ℕ → ℕ → ℕ
bytes_of h n zero = 0
bytes_of h n (suc k) = (level_sizes h n).bytes + bytes_of h (n + 1) k

-- what lies behind them
abbrev pub behind : Header → ℕ → ℕ → List ℕ → List ℕ
behind h n k b = drop (bytes_of h n k) b

-- the bytes of the level that comes after k levels from n on
abbrev pub own_of : Header → ℕ → ℕ → List ℕ → List ℕ
own_of h n k b = take (level_sizes h (n + k)).bytes (behind h n k b)

-- the sum of the first k
abbrev pub sum_of : ℕ → (ℕ → ℕ) → ℕ
sum_of zero f = 0
sum_of (suc k) f = f 0 + sum_of k (λ i. f (suc i))

-- Of the levels from n on so many are accepted, and then the file has no more (0), or the next is refused. Those before it stand: each
-- is what a call of its own answers and leaves in its own bytes, with the budget that those before it have left. Of all that lies behind
-- them the refused level's end tells. The symbols and the budget left are those of all, the cut-outs those of the levels that stand.
pub record SeveralEnds (r : Record) (file : List ℕ) (p : Palettes) (n budget left : ℕ) (b a : List ℕ) (s : Several) : Type 0 where
  pub number : (s.refusal ≡ 0) ⊎ (among s.refusal level_refusals ≡ true)
  pub long : length a ≡ length b
  pub budgets : ℕ → ℕ
  pub symbols : ℕ → ℕ
  pub cutouts : ℕ → ℕ
  pub given : budgets 0 ≡ budget
  pub spent : (k : ℕ) → k < s.levels → budgets (suc k) + symbols k ≡ budgets k
  pub calls : (k : ℕ) → k < s.levels
      → closely r file p (n + k) (budgets k) (own_of r.header n k b) ≡ unpacked (symbols k) (cutouts k) (own_of r.header n k a)
  pub stand : (k : ℕ) → k < s.levels
      → Accepted r (level_segment file r.header (n + k)) p (grid_at r.header (n + k)) (budgets k) (symbols k) (cutouts k)
      (own_of r.header n k b) (own_of r.header n k a)
  pub tried : ℕ
  pub last : left + tried ≡ budgets s.levels
  pub drawn : left + s.symbols ≡ budget
  pub counted : s.cutouts ≡ sum_of s.levels cutouts
  pub accepted : s.refusal ≡ 0
      → (n + s.levels ≡ r.header.levels) × ((behind r.header n s.levels a ≡ behind r.header n s.levels b)
      × ((s.at ≡ 0) × (tried ≡ 0)))
  pub refusing : (s.refusal ≡ 0 → ⊥)
      → closely r file p (n + s.levels) (budgets s.levels) (behind r.header n s.levels b)
      ≡ declined s.refusal tried s.at (behind r.header n s.levels a)
  pub refused : (s.refusal ≡ 0 → ⊥)
      → Declined r (level_segment file r.header (n + s.levels)) (grid_at r.header (n + s.levels)) (budgets s.levels) s.refusal
      tried s.at
      (behind r.header n s.levels b) (behind r.header n s.levels a)
