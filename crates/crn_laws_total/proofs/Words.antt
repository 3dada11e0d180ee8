-- How many words the palettes' readings answer with: one for each entry, three for each alpha selector.
use Prim.Native.Nat.{ℕ, zero, suc, ◌+◌, ◌*◌}
use mathlib.Core.List.{List, [], ◌++◌}
use mathlib.Core.Path.{◌≡◌, refl}
use native.Mathlib.Nat.{suc-mul, zero-mul}
use native.Mathlib.Omega.{arith}
use lib.ListN.{length, replicate, length-append}
use Rattle.crn_format.specs.Reading.{Reading, next}
use Rattle.crn_format.specs.Tables.{table}
use Rattle.crn_format.specs.Palettes.{entries, summed, color_sums, color_word, color_endpoints, alpha_sums, alpha_word, alpha_endpoints, changed, color_selector_words, alpha_selector_words, color_selectors, alpha_selectors}
use Rattle.crn_format.proofs.Answers.{All, all-next, Any, all_any, all-answer}

-- n words
abbrev pub Long : ℕ → List ℕ → Type 0
Long n ws = length ws ≡ n

module _ (turn : List ℕ → Reading (List ℕ)) (words : List ℕ → List ℕ) (k : ℕ) (each : (vs : List ℕ) → length (words vs) ≡ k) where
  after-some : (n m : ℕ) (vs out : List ℕ) (all : ℕ) → length out ≡ m → all ≡ m + n * k → All (Long all) (entries turn words n vs out)
  unfolding entries
  after-some zero m vs out all h e = all-answer (Long all) (omega (arith, zero-mul k))
  after-some (suc n) m vs out all h e =
      all-next Any (Long all) (turn vs) _ (all_any (turn vs))
      (λ now _. after-some n (m + k) now (out ++ words now) all (omega (arith, length-append out (words now), each now))
      (omega (arith, suc-mul n k)))

  entries-long : (n : ℕ) (vs : List ℕ) (all : ℕ) → all ≡ n * k → All (Long all) (entries turn words n vs [])
  entries-long n vs all e = after-some n 0 vs [] all refl (omega arith)

table-then : (n : ℕ) (k : List ℕ → Reading (List ℕ)) → ((t : List ℕ) → All (Long n) (k t)) → All (Long n) (next table k)
table-then n k h = all-next Any (Long n) table k (all_any table) (λ t _. h t)

module _ (n : ℕ) where
  pub color-endpoints-long : All (Long n) (color_endpoints n)
  unfolding color_endpoints color_word
  color-endpoints-long =
      table-then n _ (λ five. table-then n _ (λ six. entries-long (summed (color_sums five six) 0) color_word 1 (λ vs. refl) n
      (replicate 6 0) n (omega arith)))

  pub color-selectors-long : All (Long n) (color_selectors n)
  unfolding color_selectors color_selector_words
  color-selectors-long = table-then n _ (λ t. entries-long (changed 3 t 8 0) color_selector_words 1 (λ vs. refl) n (replicate 16 0) n
      (omega arith))

  pub alpha-endpoints-long : All (Long n) (alpha_endpoints n)
  unfolding alpha_endpoints alpha_word
  alpha-endpoints-long = table-then n _ (λ t. entries-long (summed (alpha_sums t) 0) alpha_word 1 (λ vs. refl) n (replicate 2 0) n
      (omega arith))

  pub alpha-selectors-long : All (Long (3 * n)) (alpha_selectors n)
  unfolding alpha_selectors alpha_selector_words
  alpha-selectors-long =
      table-then (3 * n) _ (λ t. entries-long (changed 7 t 8 0) alpha_selector_words 3 (λ vs. refl) n (replicate 16 0) (3 * n)
      (omega arith))
