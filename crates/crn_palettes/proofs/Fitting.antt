-- The lengths of a table that is accepted: none is above 16, and there are 8,192 at most.
use Prim.Native.Nat.{ℕ, zero, suc, ◌+◌, ◌-◌, ◌≤◌}
use mathlib.Core.Bool.{true}
use mathlib.Core.List.{List, [], ◌++◌}
use mathlib.Core.Path.{◌≡◌, refl, ap, ◌∙◌}
use native.Mathlib.Omega.{arith}
use native.Mathlib.Decide.{dec_le}
use lib.ListN.{length, replicate, length-append, length-replicate}
use lib.Seq.{take_all}
use lib.Dec.{leb, eqb, ltb}
use borrow.Author.Tests.{ltb-false}
use Rattle.crn_format.specs.Choice.{either}
use Rattle.crn_format.specs.Limits.{max_symbols}
use Rattle.crn_format.specs.Codes.{is_code, all_fit}
use Rattle.crn_format.specs.Reading.{got, Source, run}
use Rattle.crn_format.specs.Tables.{length_order, sent_lengths, run_of, lengths_from, checked, coded, counted, table}
use Rattle.crn_format.specs.Opening.{table_of}
use Rattle.crn_format.specs.Unpacking.{lengths_of}
use Rattle.crn_format.specs.declared.Table.{Table}
use Rattle.crn_format.proofs.Answers.{All, run-all, all-next, Any, all_any, all-pick}
use Rattle.crn_format.proofs.Kraft.{code_fits}

Within : ℕ → List ℕ → Type 0
Within count ls = length ls ≤ count

-- no run goes past the count
lengths-within : (cl : List ℕ) (count turns last : ℕ) (ls : List ℕ) → length ls ≤ count → All (Within count)
    (lengths_from cl count turns last ls)
unfolding All lengths_from Within
lengths-within cl count zero last ls h = h
lengths-within cl count (suc turns) last ls h =
    all-pick (Within count) (leb count (length ls)) _ _ (λ _. h)
    (λ _ s. all-next Any (Within count) (run_of last s) _ (all_any (run_of last s))
    (λ r _. all-pick (Within count) (ltb count (length ls + r.0)) _ _ (λ _. tt)
    (λ e. lengths-within cl count turns r.1 (ls ++ replicate r.0 r.1)
    (omega (arith, ltb-false count (length ls + r.0) e, length-append ls (replicate r.0 r.1), length-replicate r.0 r.1)))))

-- what holds of the lengths
pub record Fit (ls : List ℕ) : Type 0 where
  pub short : all_fit ls (length ls) ≡ true
  pub few : length ls ≤ max_symbols

checked_fit : (ls : List ℕ) → length ls ≤ max_symbols → All Fit (checked ls)
unfolding All checked
checked_fit ls h = all-pick Fit (is_code ls) _ _ (λ e. record { short = code_fits ls e; few = h }) (λ _. tt)

coded_fit : (count n : ℕ) → count ≤ max_symbols → All Fit (coded count n)
unfolding coded Within
coded_fit count n h =
    all-next Any Fit (sent_lengths n length_order (replicate 21 0)) _ (all_any _)
    (λ cl _. all-next Any Fit (checked cl) _ (all_any _)
    (λ _ _. all-next (Within count) Fit (lengths_from cl count count 0 []) checked (lengths-within cl count count 0 [] (omega arith))
    (λ ls k. checked_fit ls (omega arith))))

counted_fit : (count : ℕ) → count ≤ max_symbols → All Fit (counted count)
unfolding All counted
counted_fit count h = λ n. all-pick Fit (either (eqb n 0) (ltb 21 n)) _ _ (λ _. tt) (λ _. coded_fit count n h)

table_fit : All Fit table
unfolding All table all_fit
table_fit =
    λ count. all-pick Fit (eqb count 0) _ _ (λ _. record { short = refl; few = omega arith })
    (λ _. all-pick Fit (ltb max_symbols count) _ _ (λ _. tt) (λ e. counted_fit count (ltb-false _ _ e)))

pub table_fits : {S : Type 0} (src : Source S) (w : S) {w₁ : S} {ls : List ℕ} → run src table w ≡ got ls w₁ → Fit ls
table_fits src w e = run-all src Fit table table_fit w e

-- ---- and there are as many as are counted

pub count_fits : (t : Table) → t ≡ table_of (lengths_of t) → t.count ≤ length t.lengths
count_fits t e = go (dec_le t.count (length t.lengths)) (ap (λ (x : Table). x.count) e)
  where
    go : Dec (t.count ≤ length t.lengths) → t.count ≡ length (lengths_of t) → t.count ≤ length t.lengths
    go (yes h) f = h
    go (no h) f = omega (arith, f, ap length (take_all t.count t.lengths (omega arith)))

-- a whole table has all its lengths
pub whole_long : {t : Table} → t ≡ table_of (lengths_of t) → length (lengths_of t) ≤ max_symbols → length t.lengths ≡ max_symbols
whole_long {t} e f =
    ap (λ (x : Table). length x.lengths) e ∙ length-append (lengths_of t) (replicate (max_symbols - length (lengths_of t)) 0)
    ∙ ap (λ (n : ℕ). length (lengths_of t) + n) (length-replicate {A = ℕ} (max_symbols - length (lengths_of t)) 0) ∙ omega arith
