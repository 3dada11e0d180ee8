-- The rule of the 225 delta pairs, shown once over the whole table. Assumes nothing.
use mathlib.Core.Path.{◌≡◌, ◌∙◌}
use mathlib.Core.Bool.{Bool}
use mathlib.Core.List.{List}
use Prim.Native.Nat.{ℕ, ◌+◌, ◌*◌, ◌/◌, ◌%◌, ◌<◌}
use native.Mathlib.Omega.{arith}
use native.Mathlib.Decide.{dec_lt}
use native.Mathlib.Nat.{zero-add}
use borrow.Author.Tests.{lt-ltb, le-ltb}
use lib.Dec.{T, eqb, eqb→eq}
use lib.ListN.{length, get_or, get_or-eq_default}
use Rattle.crn_format.specs.Choice.{both}
use Rattle.crn_format.specs.Palettes.{raised}
use Rattle.crn_consts.specs.declared.Deltas.{Deltas}
use Rattle.crn_consts.specs.Entries.{Pair}
use Rattle.crn_consts.specs.AlphaDeltas.{alpha_deltas, AlphaDeltas}
use Rattle.crn_consts.proofs.Table.{both_left, both_right, every_pair, each-pair}

-- document 01's own words: the deltas are (s mod 15) - 7 and (s div 15) - 7; here each has 8 added
pub deltas_are : (s : ℕ) → s < 225 → ((alpha_deltas s).first + 7 ≡ s % 15 + 8) × ((alpha_deltas s).second + 7 ≡ s / 15 + 8)
deltas_are s h = rw (lt-ltb s 225 h) (omega arith, omega arith)

-- the pair of symbol s is that of the rule
abbrev pub right : ℕ → ℕ → ℕ → Bool
right s a b = both (eqb a (raised 7 (s % 15))) (eqb b (raised 7 (s / 15)))

both_are : (s a b : ℕ) → T (right s a b) → (a ≡ raised 7 (s % 15)) × (b ≡ raised 7 (s / 15))
both_are s a b t = (eqb→eq a x (both_left (eqb a x) (eqb b y) t), eqb→eq b y (both_right (eqb a x) (eqb b y) t))
  where
    x : ℕ
    x = raised 7 (s % 15)

    y : ℕ
    y = raised 7 (s / 15)

-- so where a table of 225 pairs passes the test at each, a pair of it is the rule's, also past the end
pub ruled : {table : List ℕ} {s : ℕ} {r : Deltas} → Pair table s r → length table ≡ 450 → T (every_pair right 0 table) → r ≡ alpha_deltas s
ruled {table} {s} p l t = p.value ∙ by (dec_lt s 225)
  where
    one : ℕ
    one = get_or table (2 * s) 0

    two : ℕ
    two = get_or table (2 * s + 1) 0

    by : Dec (s < 225) → record { first = one; second = two } ≡ alpha_deltas s
    by (yes h) = let e = both_are s one two (rw zero-add at (each-pair right table 0 s t (omega arith))) in simp (lt-ltb s 225 h, e.0, e.1)
    by (no h) =
        simp (
          le-ltb s 225 (omega arith),
          get_or-eq_default table 0 {n = 2 * s} (omega arith),
          get_or-eq_default table 0 {n = 2 * s + 1} (omega arith),
        )

pub bounded : {s : ℕ} {r : Deltas} → r ≡ alpha_deltas s → AlphaDeltas s r
bounded {s} {r} e = record { rule = e; first = rw e (within (dec_lt s 225)).0; second = rw e (within (dec_lt s 225)).1 }
  where
    within : Dec (s < 225) → ((alpha_deltas s).first < 16) × ((alpha_deltas s).second < 16)
    within (yes h) = let d = deltas_are s h in (omega arith, omega arith)
    within (no h) = simp (le-ltb s 225 (omega arith)) (omega arith, omega arith)
