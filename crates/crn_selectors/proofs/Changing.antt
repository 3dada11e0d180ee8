-- A turn of `changed`: a symbol changes the j-th of eight pairs of values.
use Rattle.std.specs.Prelude.{Ok, Err}
use Prim.Native.Nat.{ℕ, suc, ◌+◌, ◌-◌, ◌*◌, ◌<◌, ◌≤◌}
use mathlib.Core.List.{List}
use mathlib.Core.Path.{◌≡◌, refl, sym, ap, ◌∙◌}
use native.Mathlib.Omega.{arith}
use borrow.Author.Tests.{lt-ltb, le-ltb}
use lib.Dec.{ltb}
use Rattle.crn_format.specs.Choice.{pick}
use Rattle.crn_format.specs.Reading.{a_symbol, Reading, answer, refuse, mark, draw, Step, refused, Place, spot, run, from_bits}
use Rattle.crn_format.specs.Palettes.{changed, delta_count, pair_moved}
use Rattle.crn_format.proofs.Steps.{at-refuse}
use Rattle.crn_symbol_codec.specs.Cursors.{place}
use Rattle.crn_format.specs.Refusals.{number_of}
use Rattle.crn_format.specs.declared.Refusal.{Refusal}
use Rattle.crn_format.specs.declared.Refusal.TheVariants.{NoSelector}
use Rattle.crn_symbol_codec.specs.Telling.{fault}
use Rattle.crn_symbol_codec.specs.Taking.{Taken, Takes}
use Rattle.crn_symbol_codec.specs.declared.Cursor.{Cursor}
use Rattle.crn_symbol_codec.proofs.Serving.{taken-value}
use Rattle.crn_palettes.proofs.Leaving.{Left, left_is, left-mark, left-drawn, left-failed, at_noted}

-- at the cursor `at`, after j of the eight pairs; the values are vs now
pub record Changed (seg : List ℕ) (top : ℕ) (t : List ℕ) (j : ℕ) (vs : List ℕ) (at : Cursor) (whole : Step Place (List ℕ)) : Type 0 where
  pub left : Left seg (changed top t (8 - j) j vs) at whole

pub pairs-none : (seg : List ℕ) (top : ℕ) (t vs : List ℕ) (c : Cursor) (b : ℕ) → Changed seg top t 0 vs c
    (run (from_bits seg) (changed top t 8 0 vs) (spot (place c) b))
pairs-none seg top t vs c b = record { left = record { blamed = b; same = refl } }

module _ {seg : List ℕ} {top : ℕ} {t : List ℕ} {j : ℕ} {vs : List ℕ} {at : Cursor} {whole : Step Place (List ℕ)}
    (x : Changed seg top t j vs at whole) where
  -- by what the next symbol means
  meant : ℕ → Reading (List ℕ)
  meant s = pick (ltb s (delta_count top * delta_count top)) (changed top t (8 - (j + 1)) (j + 1) (pair_moved top j s vs)) (refuse 9)

  module _ (h : j < 8) {r : Taken} (k : Takes seg (a_symbol t) at r) where
    -- the next symbol is drawn first, and its place noted
    pair-first : Left seg (mark (draw t meant)) at whole
    unfolding changed meant
    pair-first =
        let m : 8 - j ≡ suc (8 - (j + 1)) = omega arith in
        left_is (ap (λ (n : ℕ). changed top t n j vs) m) x.left

    pub pair-failed : {n : Refusal} {p : ℕ} → r ≡ Err n → p ≡ place at → whole ≡ fault (record { refusal = n; at = p })
    pair-failed {n} e q = left-failed (left-mark pair-first) k e ∙ ap (λ (p : ℕ). refused (number_of n) (spot p p)) (sym q)

    module _ {s : ℕ} {d : Cursor} (e : r ≡ Ok (s, d)) where
      pub pair-more : {n : ℕ} {ws : List ℕ} → n ≡ delta_count top * delta_count top → s < n → ws ≡ pair_moved top j s vs → Changed seg top t
          (j + 1) ws d whole
      unfolding meant
      pair-more m l f =
          record {
            left = rw f
                (left_is (ap (λ b. pick b (changed top t (8 - (j + 1)) (j + 1) (pair_moved top j s vs)) (refuse 9))
                (lt-ltb _ _ (rw m at l)))
                (left-drawn (left-mark pair-first) k e));
          }

      -- a symbol with no meaning: its first bit is named
      pub pair_bad : {n p : ℕ} → n ≡ delta_count top * delta_count top → n ≤ s → p ≡ place at → whole ≡ fault
          (record { refusal = NoSelector; at = p })
      unfolding meant
      pair_bad m l q =
          sym (at_noted pair-first)
          ∙ taken-value k meant (place at) e
          ∙ ap (λ b. run (from_bits seg) (pick b (changed top t (8 - (j + 1)) (j + 1) (pair_moved top j s vs)) (refuse 9))
          (spot (place d) (place at))) (le-ltb _ _ (rw m at l))
          ∙ at-refuse seg 9 (place d) (place at)
          ∙ ap (λ (p : ℕ). refused 9 (spot p p)) (sym q)

  pub pairs_done : 8 ≤ j → Left seg (answer vs) at whole
  unfolding changed
  pairs_done h =
      let m : 8 - j ≡ 0 = omega arith in
      left_is (ap (λ (n : ℕ). changed top t n j vs) m) x.left
