-- The order in which a block writes selectors. The published header has a list for colour and one for alpha; the rule (`Palettes`
-- `from_linear`) gives both, and each selector palette that is read by the rule is the one that is read by the list.
use Prim.Native.Nat.{ℕ, zero, suc, ◌+◌, ◌*◌, ◌/◌, ◌%◌, ◌^◌, ◌≤◌, ◌<◌}
use mathlib.Core.Path.{◌≡◌, refl, sym, ap, ap₂, ◌∙◌}
use mathlib.Core.List.{List, [], ◌∷◌, ◌++◌}
use native.Mathlib.Omega.{arith}
use native.Mathlib.Decide.{dec_lt}
use native.Mathlib.Nat.{mod-lt}
use lib.ListN.{get_or, set, replicate}
use lib.Dec.{ltb}
use borrow.Author.Tests.{ne_eqb, lt-ltb, le-ltb}
use Rattle.crn_format.specs.Reading.{Source, run}
use Rattle.crn_format.specs.Tables.{table}
use Rattle.crn_format.specs.Palettes.{entries, delta_count, raised, moved, pair_moved, changed, from_linear, packed}
use Rattle.crn_format.specs.Palettes.{color_selector_words, three_words, alpha_selector_words, selectors, color_selectors, alpha_selectors}
use Rattle.crn_format.proofs.Zeros.{zeros-at}
use Rattle.crn_format.proofs.Steps.{run_cong}
use Rattle.crn_format.proofs.Answers.{All, all-pick, all_then}

-- ---- the two lists

-- what the rule gives for n values, v the first
abbrev pub written : ℕ → ℕ → ℕ → List ℕ
written top v zero = []
written top v (suc n) = from_linear top v ∷ written top (suc v) n

abbrev pub color_list : List ℕ
color_list = 0 ∷ 2 ∷ 3 ∷ 1 ∷ []

abbrev pub alpha_list : List ℕ
alpha_list = 0 ∷ 2 ∷ 3 ∷ 4 ∷ 5 ∷ 6 ∷ 7 ∷ 1 ∷ []

pub color_order : written 3 0 4 ≡ color_list
unfolding from_linear
color_order = refl

pub alpha_order : written 7 0 8 ≡ alpha_list
unfolding from_linear
alpha_order = refl

-- no value is written above the top, whatever it is
pub written-within : (top v : ℕ) → 1 ≤ top → from_linear top v ≤ top
unfolding from_linear
written-within top zero h = omega arith
written-within top (suc v) h = go (dec_lt (suc v) top)
  where
    go : Dec (suc v < top) → from_linear top (suc v) ≤ top
    go (yes l) = rw (ne_eqb (suc v) 0 (λ e. omega arith), lt-ltb (suc v) top l) (omega arith)
    go (no l) = rw (ne_eqb (suc v) 0 (λ e. omega arith), le-ltb (suc v) top (omega arith)) h

-- ---- an entry

-- running values from 0 to top
abbrev pub Within : ℕ → List ℕ → Type 0
Within top vs = (i : ℕ) → get_or vs i 0 ≤ top

-- the first n values as the list has them, so many bits each, the first lowest
unfoldable pub listed : List ℕ → ℕ → List ℕ → ℕ → ℕ
listed list bits vs zero = 0
listed list bits vs (suc n) = listed list bits vs n + 2 ^ (bits * n) * get_or list (get_or vs n 0) 0

written_at : (top v n i k : ℕ) → k ≡ v + i → i < n → get_or (written top v n) i 0 ≡ from_linear top k
written_at top v zero i k e h = absurd (omega arith)
written_at top v (suc n) zero k e h = ap (from_linear top) (omega (arith, e))
written_at top v (suc n) (suc i) k e h = written_at top (suc v) n i k (omega (arith, e)) (omega arith)

pub packed_listed : {top : ℕ} {list : List ℕ} → written top 0 (suc top) ≡ list → (bits : ℕ) (vs : List ℕ) → Within top vs → (n : ℕ)
    → packed top bits vs n ≡ listed list bits vs n
unfolding packed listed
packed_listed e bits vs h zero = refl
packed_listed {top} {list} e bits vs h (suc n) = ap₂ (λ (x y : ℕ). x + 2 ^ (bits * n) * y) (packed_listed e bits vs h n) same
  where
    v : ℕ
    v = get_or vs n 0

    same : from_linear top v ≡ get_or list v 0
    same = sym (written_at top 0 (suc top) v v (omega arith) (omega (arith, h n))) ∙ ap (λ (l : List ℕ). get_or l v 0) e

-- ---- a palette

set-within : (top : ℕ) (vs : List ℕ) (k x : ℕ) → Within top vs → x ≤ top → Within top (set vs k x)
set-within top [] k x h m i = h i
set-within top (v ∷ vs) zero x h m zero = m
set-within top (v ∷ vs) zero x h m (suc i) = h (suc i)
set-within top (v ∷ vs) (suc k) x h m zero = h 0
set-within top (v ∷ vs) (suc k) x h m (suc i) = set-within top vs k x (λ j. h (suc j)) m i

moved-within : (top v d : ℕ) → moved top v d ≤ top
moved-within top v d = let small : moved top v d < top + 1 = mod-lt (v + raised top d) (omega arith) in omega (arith, small)

pair-within : (top j s : ℕ) (vs : List ℕ) → Within top vs → Within top (pair_moved top j s vs)
pair-within top j s vs h = set-within top (set vs (2 * j) first) (2 * j + 1) second one (moved-within top _ (s / delta_count top))
  where
    first : ℕ
    first = moved top (get_or vs (2 * j) 0) (s % delta_count top)

    second : ℕ
    second = moved top (get_or vs (2 * j + 1) 0) (s / delta_count top)

    one : Within top (set vs (2 * j) first)
    one = set-within top vs (2 * j) first h (moved-within top _ (s % delta_count top))

-- so a turn leaves values from 0 to top
turn-within : (top : ℕ) (t : List ℕ) (n j : ℕ) (vs : List ℕ) → Within top vs → All (Within top) (changed top t n j vs)
unfolding All changed
turn-within top t zero j vs h = h
turn-within top t (suc n) j vs h =
    λ s. all-pick (Within top) (ltb s (delta_count top * delta_count top)) _ _
    (λ _. turn-within top t n (j + 1) (pair_moved top j s vs) (pair-within top j s vs h)) (λ _. tt)

-- entries whose words are the same for such values
entries-same : {S : Type 0} (src : Source S) (top : ℕ) (t : List ℕ) (f g : List ℕ → List ℕ) → ((vs : List ℕ) → Within top vs → f vs ≡ g vs)
    → (n : ℕ) (vs out : List ℕ) (w : S) → Within top vs
    → run src (entries (changed top t 8 0) f n vs out) w ≡ run src (entries (changed top t 8 0) g n vs out) w
unfolding entries
entries-same src top t f g same zero vs out w h = refl
entries-same src top t f g same (suc n) vs out w h =
    all_then src (Within top) (changed top t 8 0 vs) _ _ (turn-within top t 8 0 vs h)
    (λ now m v.
    entries-same src top t f g same n now (out ++ f now) v m
    ∙ ap (λ (x : List ℕ). run src (entries (changed top t 8 0) g n now (out ++ x)) v) (same now m))
    w

selectors-same : {S : Type 0} (src : Source S) (top : ℕ) (f g : List ℕ → List ℕ) → ((vs : List ℕ) → Within top vs → f vs ≡ g vs)
    → (n : ℕ) (w : S) → run src (selectors top f n) w ≡ run src (selectors top g n) w
selectors-same src top f g same n w =
    run_cong src table _ _ w (λ t v. entries-same src top t f g same n (replicate 16 0) [] v (λ i. rw (zeros-at 16 i) (omega arith)))

-- from any source: the same words, and the same refusal at the same place
pub color-selectors_listed : {S : Type 0} (src : Source S) (n : ℕ) (w : S)
    → run src (color_selectors n) w ≡ run src (selectors 3 (λ vs. listed color_list 2 vs 16 ∷ []) n) w
unfolding color_selectors color_selector_words
color-selectors_listed src n w =
    selectors-same src 3 color_selector_words _ (λ vs h. ap (λ (p : ℕ). p ∷ []) (packed_listed color_order 2 vs h 16)) n w

pub alpha-selectors_listed : {S : Type 0} (src : Source S) (n : ℕ) (w : S)
    → run src (alpha_selectors n) w ≡ run src (selectors 7 (λ vs. three_words (listed alpha_list 3 vs 16)) n) w
unfolding alpha_selectors alpha_selector_words
alpha-selectors_listed src n w =
    selectors-same src 7 alpha_selector_words _ (λ vs h. ap three_words (packed_listed alpha_order 3 vs h 16)) n w
