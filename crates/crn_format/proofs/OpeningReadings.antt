-- The readings of an opening refuse by 6, of a code table, and by 9, of a selector symbol.
use Prim.Native.Nat.{ℕ, zero, suc, ◌+◌, ◌*◌}
use mathlib.Core.Bool.{Bool, true}
use mathlib.Core.List.{List, [], ◌∷◌, ◌++◌}
use mathlib.Core.Path.{◌≡◌}
use lib.ListN.{length, replicate, set}
use lib.Dec.{eqb, ltb, leb}
use Rattle.crn_format.specs.Choice.{either}
use Rattle.crn_format.specs.Limits.{max_length, max_symbols}
use Rattle.crn_format.specs.Codes.{is_code}
use Rattle.crn_format.specs.Reading.{Reading, next}
use Rattle.crn_format.specs.Tables.{length_order, sent_lengths, again, run_of, lengths_from, checked, coded, counted, table}
use Rattle.crn_format.specs.Palettes.{entries, Sum, summed, color_sums, color_word, color_endpoints, alpha_sums, alpha_word, alpha_endpoints, delta_count, pair_moved, changed, color_selector_words, alpha_selector_words, color_selectors, alpha_selectors}
use Rattle.crn_format.specs.Opening.{present, plane_tables, sent_tables}
use Rattle.crn_format.specs.declared.Header.{Header}
use Rattle.crn_format.proofs.Refusing.{Refuses, answers, by_test, one_then}

module _ (ok : ℕ → Bool) (six : ok 6 ≡ true) where
  -- ---- a code table

  sent : (n : ℕ) (to ls : List ℕ) → Refuses ok (sent_lengths n to ls)
  unfolding sent_lengths Refuses
  sent zero to ls = tt
  sent (suc n) [] ls = tt
  sent (suc n) (s ∷ to) ls = λ l. sent n to (set ls s l)

  repeat : (last n : ℕ) → Refuses ok (again last n)
  unfolding again Refuses
  repeat last n = by_test ok (eqb last 0) _ _ six tt

  a_run : (last s : ℕ) → Refuses ok (run_of last s)
  unfolding run_of Refuses
  a_run last s =
      by_test ok (leb s max_length) _ _ tt
      (by_test ok (eqb s 17) _ _ (λ x. tt)
      (by_test ok (eqb s 18) _ _ (λ x. tt)
      (by_test ok (eqb s 19) _ _ (λ x. repeat last (3 + x)) (λ x. repeat last (7 + x)))))

  lengths : (cl : List ℕ) (count turns last : ℕ) (ls : List ℕ) → Refuses ok (lengths_from cl count turns last ls)
  unfolding lengths_from Refuses
  lengths cl count zero last ls = tt
  lengths cl count (suc turns) last ls =
      by_test ok (leb count (length ls)) _ _ tt
      (λ s. one_then ok (run_of last s) _ (a_run last s)
      (λ r. by_test ok (ltb count (length ls + r.0)) _ _ six (lengths cl count turns r.1 (ls ++ replicate r.0 r.1))))

  check : (ls : List ℕ) → Refuses ok (checked ls)
  unfolding checked Refuses
  check ls = by_test ok (is_code ls) _ _ tt six

  from-lengths : (count n : ℕ) → Refuses ok (coded count n)
  unfolding coded
  from-lengths count n =
      one_then ok (sent_lengths n length_order (replicate 21 0)) _ (sent n length_order (replicate 21 0))
      (λ cl. one_then ok (checked cl) _ (check cl) (λ _. one_then ok (lengths_from cl count count 0 []) checked
      (lengths cl count count 0 []) check))

  from_count : (count : ℕ) → Refuses ok (counted count)
  unfolding counted Refuses
  from_count count = λ n. by_test ok (either (eqb n 0) (ltb 21 n)) _ _ six (from-lengths count n)

  pub a_table : Refuses ok table
  unfolding table Refuses
  a_table = λ count. by_test ok (eqb count 0) _ _ tt (by_test ok (ltb max_symbols count) _ _ six (from_count count))

  table-then : {B : Type 0} (k : List ℕ → Reading B) → ((t : List ℕ) → Refuses ok (k t)) → Refuses ok (next table k)
  table-then k h = one_then ok table k a_table h

  -- ---- the tables segment

  plane_tables_lem : (there : Bool) → Refuses ok (plane_tables there)
  unfolding plane_tables
  plane_tables_lem there = by_test ok there _ _ (table-then _ (λ e. table-then _ (λ s. answers ok _))) (answers ok _)

  pub tables-refuse : (h : Header) → Refuses ok (sent_tables h)
  unfolding sent_tables
  tables-refuse h =
      table-then _ (λ chunk. one_then ok _ _ (plane_tables_lem (present h.color_endpoints))
      (λ color. one_then ok _ _ (plane_tables_lem (present h.alpha_endpoints)) (λ alpha. answers ok _)))

  -- ---- the palettes

  all-entries : (turn : List ℕ → Reading (List ℕ)) (words : List ℕ → List ℕ) → ((vs : List ℕ) → Refuses ok (turn vs)) → (n : ℕ)
      (vs out : List ℕ)
      → Refuses ok (entries turn words n vs out)
  unfolding entries Refuses
  all-entries turn words h zero vs out = tt
  all-entries turn words h (suc n) vs out = one_then ok (turn vs) _ (h vs) (λ now. all-entries turn words h n now (out ++ words now))

  sums : (ms : List Sum) (i : ℕ) (vs : List ℕ) → Refuses ok (summed ms i vs)
  unfolding summed Refuses
  sums [] i vs = tt
  sums (m ∷ ms) i vs = λ s. sums ms (i + 1) _

  module _ (n : ℕ) where
    pub color-endpoints : Refuses ok (color_endpoints n)
    unfolding color_endpoints
    color-endpoints = table-then _ (λ five. table-then _ (λ six. all-entries _ color_word (sums (color_sums five six) 0) n _ []))

    pub alpha-endpoints : Refuses ok (alpha_endpoints n)
    unfolding alpha_endpoints
    alpha-endpoints = table-then _ (λ t. all-entries _ alpha_word (sums (alpha_sums t) 0) n _ [])

    module _ (nine : ok 9 ≡ true) where
      changes : (top : ℕ) (t : List ℕ) (m j : ℕ) (vs : List ℕ) → Refuses ok (changed top t m j vs)
      unfolding changed Refuses
      changes top t zero j vs = tt
      changes top t (suc m) j vs =
          λ s. by_test ok (ltb s (delta_count top * delta_count top)) _ _ (changes top t m (j + 1) (pair_moved top j s vs)) nine

      pub color-selectors : Refuses ok (color_selectors n)
      unfolding color_selectors
      color-selectors = table-then _ (λ t. all-entries _ color_selector_words (changes 3 t 8 0) n _ [])

      pub alpha-selectors : Refuses ok (alpha_selectors n)
      unfolding alpha_selectors
      alpha-selectors = table-then _ (λ t. all-entries _ alpha_selector_words (changes 7 t 8 0) n _ [])
