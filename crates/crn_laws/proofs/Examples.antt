-- A small level with its script: one chunk of one plane, of which the right positions lie beyond the grid.
use Prim.Native.Nat.{ℕ, zero, suc, ◌+◌, ◌<◌}
use mathlib.Core.Path.{◌≡◌, refl}
use mathlib.Core.Bool.{Bool, true, false, false≢true}
use mathlib.Core.List.{List, [], ◌∷◌}
use native.Mathlib.Omega.{arith}
use lib.ListN.{get_or}
use Rattle.crn_format.specs.Bits.{bit_at}
use Rattle.crn_format.specs.Codes.{below, used, first_code}
use Rattle.crn_format.specs.Script.{Starts}
use Rattle.crn_format.specs.Level.{Plane, tile_counts, tile_map, fresh}
use Rattle.crn_format.specs.Grid.{nth_list}
use Rattle.crn_laws.specs.Scripts.{Draws, symbols, bits, AllCoded, level_sent, chunk_by, after, selectors_of, AllBelow, SymbolFits, EndpointsFit, PositionFits, SelectorsFit, Fits, Script}
use Rattle.crn_laws.specs.Blocks.{draws_at, column, total, sum_up_to, plane_at, endpoint_by, selector_by}

-- codes 10, 0, none and 11, for chunk symbols and for deltas; palettes of two entries
pub codes : List ℕ
codes = 2 ∷ 1 ∷ 0 ∷ 2 ∷ []

pub plane : Plane
plane = record { endpoint_deltas = codes; selector_deltas = codes; endpoints = 2; selectors = 2 }

-- chunk symbol 1 has encodings 1, 0, 0: two tiles, of the upper positions and the lower
pub draws : Draws
draws = record { symbols = 1 ∷ []; endpoints = (1 ∷ 1 ∷ []) ∷ []; selectors = (1 ∷ []) ∷ (3 ∷ []) ∷ (1 ∷ []) ∷ (3 ∷ []) ∷ [] }

pub insides : List (List Bool)
insides = (true ∷ false ∷ true ∷ false ∷ []) ∷ []

sent-symbols : symbols (level_sent codes (plane ∷ []) (draws ∷ [])) ≡ 1 ∷ 1 ∷ 1 ∷ 1 ∷ 3 ∷ 1 ∷ 3 ∷ []
unfolding symbols level_sent plane draws
sent-symbols = refl

sent-bits : bits (level_sent codes (plane ∷ []) (draws ∷ [])) ≡ 0 ∷ 0 ∷ 0 ∷ 0 ∷ 1 ∷ 1 ∷ 0 ∷ 1 ∷ 1 ∷ []
unfolding bits level_sent plane draws codes first_code used below
sent-bits = refl

-- the selector indices: 1, then 4 less 2, which is skipped, then 3 less 2, and 4 less 2, skipped again
indices_are : selectors_of (plane ∷ []) (0 ∷ []) draws.selectors ≡ (1 ∷ []) ∷ (2 ∷ []) ∷ (1 ∷ []) ∷ (2 ∷ []) ∷ []
unfolding selectors_of plane draws
indices_are = refl

-- at the left of the lower positions, by the sums: endpoint 2 modulo 2 and selector 5 modulo 2
entries_are : endpoint_by (plane ∷ []) (draws ∷ []) 0 2 0 ∷ selector_by (plane ∷ []) (draws ∷ []) 0 2 0 ∷ [] ≡ 0 ∷ 1 ∷ []
unfolding plane draws draws_at column total sum_up_to plane_at nth_list tile_map
entries_are = refl

-- the bits stand in two bytes
begun : Starts (13 ∷ 128 ∷ []) 0 (0 ∷ 0 ∷ 0 ∷ 0 ∷ 1 ∷ 1 ∷ 0 ∷ 1 ∷ 1 ∷ [])
begun = record { fits = omega arith; same = same }
  where
    same : (i : ℕ) → i < 9 → bit_at (13 ∷ 128 ∷ []) (0 + i) ≡ get_or (0 ∷ 0 ∷ 0 ∷ 0 ∷ 1 ∷ 1 ∷ 0 ∷ 1 ∷ 1 ∷ []) i 0
    same zero h = refl
    same (suc zero) h = refl
    same (suc (suc zero)) h = refl
    same (suc (suc (suc zero))) h = refl
    same (suc (suc (suc (suc zero)))) h = refl
    same (suc (suc (suc (suc (suc zero))))) h = refl
    same (suc (suc (suc (suc (suc (suc zero)))))) h = refl
    same (suc (suc (suc (suc (suc (suc (suc zero))))))) h = refl
    same (suc (suc (suc (suc (suc (suc (suc (suc zero)))))))) h = refl
    same (suc (suc (suc (suc (suc (suc (suc (suc (suc i))))))))) h = absurd (omega arith)

fits : Fits (plane ∷ []) insides (fresh (plane ∷ [])) (draws ∷ [])
unfolding Fits insides plane draws SymbolFits EndpointsFit PositionFits SelectorsFit AllBelow chunk_by after tile_counts
fits = (
  record {
    symbol = (refl, omega arith);
    endpoints = (refl, ((omega arith, (omega arith, tt)), refl));
    selectors = (
      ((λ e. omega arith), refl),
      (
        ((λ e. absurd (false≢true e)), refl),
        (((λ e. omega arith), refl), (((λ e. absurd (false≢true e)), refl), refl)),
      ),
    );
  },
  refl,
)

coded : AllCoded (level_sent codes (plane ∷ []) (draws ∷ []))
unfolding AllCoded level_sent plane draws codes
coded = omega arith

-- they are a script of it
pub small : Script codes (plane ∷ []) insides (13 ∷ 128 ∷ []) (draws ∷ [])
small = record { fits = fits; coded = coded; laid = rw sent-bits begun }
