-- Decoder tables: what a draw goes by. Of a code with the lengths ls there are
--   `lookup`, words: [0] how many first bits are looked up, w; [1] the longest code's length; [2] and [3] the first code of more than w bits,
--     less its last bits, and where its symbol stands in `sorted`; [8 + l] how many codes have l bits; and from 32 on, for each number of w bits,
--     64 times the symbol whose code begins it plus the code's length, or 0 where no code of at most w bits does (64, since a processor's
--     shift takes the six lowest bits of a number: the bits are shifted by the entry as it is);
--   `sorted`: the symbols that have a code, by length and then by symbol.
use Rattle.std.specs.Prelude.{ℕ, zero, suc, ◌+◌, ◌-◌, ◌*◌, ◌/◌, ◌^◌, ◌<◌, ◌≤◌, ◌≡◌, List, length, get_or, drop, leb, ltb}
use Rattle.crn_format.specs.Choice.{pick}
use Rattle.crn_format.specs.Bits.{bit_count, spelled}
use Rattle.crn_format.specs.Codes.{Drawn, symbol_at, failed, below, used, longest}

-- ---- the parts of `lookup`

abbrev pub width_in : List ℕ → ℕ
width_in lookup = get_or lookup 0 0

abbrev pub longest_in : List ℕ → ℕ
longest_in lookup = get_or lookup 1 0

abbrev pub first_in : List ℕ → ℕ
first_in lookup = get_or lookup 2 0

abbrev pub offset_in : List ℕ → ℕ
offset_in lookup = get_or lookup 3 0

abbrev pub counts_in : List ℕ → List ℕ
counts_in lookup = drop 8 lookup

abbrev pub entries_in : List ℕ → List ℕ
entries_in lookup = drop 32 lookup

-- ---- a draw by the counts of the lengths, cs, and the sorted symbols, ss

-- n lengths from k + 1 on; f is the first code of k + 1 bits and o the place of its symbol
unfoldable pub walk : List ℕ → List ℕ → List ℕ → ℕ → ℕ → ℕ → ℕ → ℕ → Drawn
walk cs ss s p zero k f o = failed 7
walk cs ss s p (suc n) k f o =
    pick (leb (p + (k + 1)) (bit_count s))
    (pick (ltb (spelled s p (k + 1)) (f + get_or cs (k + 1) 0))
    (symbol_at (get_or ss (o + (spelled s p (k + 1) - f)) 0) (p + (k + 1)))
    (walk cs ss s p n (k + 1) (2 * (f + get_or cs (k + 1) 0)) (o + get_or cs (k + 1) 0)))
    (failed 8)

-- the same by the bits alone, of which g l are the first l: 64 times the symbol plus the length, or 0
unfoldable pub find : List ℕ → List ℕ → (ℕ → ℕ) → ℕ → ℕ → ℕ → ℕ → ℕ
find cs ss g zero k f o = 0
find cs ss g (suc n) k f o =
    pick (ltb (g (k + 1)) (f + get_or cs (k + 1) 0))
    (64 * get_or ss (o + (g (k + 1) - f)) 0 + (k + 1))
    (find cs ss g n (k + 1) (2 * (f + get_or cs (k + 1) 0)) (o + get_or cs (k + 1) 0))

-- the first l of the w bits of i
abbrev pub front : ℕ → ℕ → ℕ → ℕ
front w i l = i / 2 ^ (w - l)

-- the first code of k + 1 bits, and the place of its symbol
unfoldable pub first_by : List ℕ → ℕ → ℕ
first_by cs zero = 0
first_by cs (suc k) = 2 * (first_by cs k + get_or cs (k + 1) 0)

unfoldable pub off_by : List ℕ → ℕ → ℕ
off_by cs zero = 0
off_by cs (suc k) = off_by cs k + get_or cs (k + 1) 0

-- what the 64 bits `bits` begin with, by the table: 64 times a symbol plus its code's length, or 0
abbrev pub found_in : List ℕ → List ℕ → ℕ → ℕ
found_in lookup sorted bits = find (counts_in lookup) sorted (front 64 bits) (longest_in lookup) 0 0 0

-- the same by the codes that are short enough to be looked up
abbrev pub short_in : List ℕ → List ℕ → ℕ → ℕ
short_in lookup sorted bits = find (counts_in lookup) sorted (front 64 bits) (width_in lookup) 0 0 0

-- ---- what a lookup holds

pub record Entries (cs ss : List ℕ) (w : ℕ) (lut : List ℕ) : Type 0 where
  pub long : 2 ^ w ≤ length lut
  pub each : (i : ℕ) → i < 2 ^ w → get_or lut i 0 ≡ find cs ss (front w i) w 0 0 0

-- the parts agree with each other, whatever the code is
pub record Usable (lookup sorted : List ℕ) : Type 0 where
  pub long : 32 ≤ length lookup
  pub some : 0 < width_in lookup
  pub few : width_in lookup ≤ 13
  pub most : longest_in lookup ≤ 16
  pub under : 0 < longest_in lookup → width_in lookup ≤ longest_in lookup
  pub none : longest_in lookup ≡ 0 → (l : ℕ) → l < 17 → get_or (counts_in lookup) l 0 ≡ 0
  pub counts : (l : ℕ) → l < 17 → get_or (counts_in lookup) l 0 ≤ 65535
  pub entries : Entries (counts_in lookup) sorted (width_in lookup) (entries_in lookup)
  pub first : first_in lookup ≡ first_by (counts_in lookup) (width_in lookup)
  pub offset : offset_in lookup ≡ off_by (counts_in lookup) (width_in lookup)

-- ---- and of which code

-- how many symbols have a code of fewer than l bits
unfoldable pub offset_of : List ℕ → ℕ → ℕ
offset_of ls zero = 0
offset_of ls (suc l) = offset_of ls l + used ls l

-- where the symbol y stands among the sorted ones
abbrev pub rank_of : List ℕ → ℕ → ℕ
rank_of ls y = offset_of ls (get_or ls y 0) + below ls y (get_or ls y 0)

-- cs has the count of each length
abbrev pub Counts : List ℕ → List ℕ → Type 0
Counts ls cs = (l : ℕ) → l < 17 → get_or cs l 0 ≡ used ls l

-- each of the symbols below n that has a code stands in its place
abbrev pub Sorted : List ℕ → List ℕ → ℕ → Type 0
Sorted ls ss n = (y : ℕ) → y < n → 0 < get_or ls y 0 → get_or ss (rank_of ls y) 0 ≡ y

-- a decoder table of the code with the lengths ls
pub record Decodes (ls lookup sorted : List ℕ) : Type 0 where
  pub usable : Usable lookup sorted
  pub counts : Counts ls (counts_in lookup)
  pub ranks : Sorted ls sorted (length ls)
  pub last : longest_in lookup ≡ longest ls

-- a decoder table of some code
pub record SomeCode (lookup sorted : List ℕ) : Type 0 where
  pub code : List ℕ
  pub decodes : Decodes code lookup sorted
