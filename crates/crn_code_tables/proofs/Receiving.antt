-- How the reading of a table goes on or ends, part by part.
use Prim.Native.Nat.{ℕ, ◌<◌, ◌≤◌}
use mathlib.Core.Bool.{Bool, true, false}
use mathlib.Core.List.{List, []}
use mathlib.Core.Path.{◌≡◌, ap, ◌∙◌}
use lib.ListN.{replicate}
use borrow.Author.Tests.{eq-eqb, ne_eqb, lt-ltb, le-ltb}
use Rattle.crn_format.specs.Choice.{pick}
use Rattle.crn_format.specs.Limits.{max_symbols}
use Rattle.crn_format.specs.Codes.{is_code}
use Rattle.crn_format.specs.Reading.{a_number, answer, refuse, got, refused, run, from_bits, Place, spot}
use Rattle.crn_format.specs.Tables.{length_order, sent_lengths, checked, coded, counted, table}
use Rattle.crn_format.proofs.Steps.{answered, at_mark, at-refuse, go_on, stop}
use Rattle.crn_symbol_codec.specs.Cursors.{place}
use Rattle.std.specs.Prelude.{Ok, Err}
use Rattle.crn_format.specs.declared.Fault.{Fault}
use Rattle.crn_symbol_codec.specs.Telling.{fault}
use Rattle.crn_symbol_codec.specs.declared.Cursor.{Cursor}
use Rattle.crn_code_tables.specs.Parts.{all_runs}
use Rattle.crn_code_tables.proofs.Telling.{Serves, served_on, served-fault}

-- ---- whether lengths make a code

module _ (seg ls : List ℕ) (p b : ℕ) where
  checked_by : {t : Bool} → is_code ls ≡ t → run (from_bits seg) (checked ls) (spot p b) ≡ run (from_bits seg)
      (pick t (answer ls) (refuse 6)) (spot p p)
  unfolding checked
  checked_by e = at_mark seg _ p b ∙ ap (λ (t : Bool). run (from_bits seg) (pick t (answer ls) (refuse 6)) (spot p p)) e

  pub checked_good : is_code ls ≡ true → run (from_bits seg) (checked ls) (spot p b) ≡ got ls (spot p p)
  checked_good e = checked_by e ∙ answered _ _ _

  pub checked_bad : is_code ls ≡ false → run (from_bits seg) (checked ls) (spot p b) ≡ refused 6 (spot p p)
  checked_bad e = checked_by e ∙ at-refuse seg 6 p p

-- ---- from the code of lengths on

module _ (seg : List ℕ) (count n : ℕ) (w : Place) where
  pub coded-refused : {k : ℕ} {u : Place} → run (from_bits seg) (sent_lengths n length_order (replicate 21 0)) w ≡ refused k u
      → run (from_bits seg) (coded count n) w ≡ refused k u
  unfolding coded
  coded-refused e = stop (from_bits seg) _ _ w e

  module _ {cl : List ℕ} {p b : ℕ} (e : run (from_bits seg) (sent_lengths n length_order (replicate 21 0)) w ≡ got cl (spot p b)) where
    pub coded_bad : is_code cl ≡ false → run (from_bits seg) (coded count n) w ≡ refused 6 (spot p p)
    unfolding coded
    coded_bad f = go_on (from_bits seg) _ _ w e ∙ stop (from_bits seg) (checked cl) _ _ (checked_bad seg cl p b f)

    pub coded_good : is_code cl ≡ true → run (from_bits seg) (coded count n) w ≡ run (from_bits seg) (all_runs cl count) (spot p p)
    unfolding coded
    coded_good f = go_on (from_bits seg) _ _ w e ∙ go_on (from_bits seg) (checked cl) _ _ (checked_good seg cl p b f)

-- ---- from the number of lengths of the code of lengths on

module _ {seg : List ℕ} (count b : ℕ) {c : Cursor} where
  pub counted-failed : {e : Fault} → Serves seg (a_number 5) c (Err e) → run (from_bits seg) (counted count) (spot (place c) b) ≡ fault e
  unfolding counted
  counted-failed t = at_mark seg _ (place c) b ∙ served-fault _ _ t

  module _ {n : ℕ} {d : Cursor} (t : Serves seg (a_number 5) c (Ok (n, d))) where
    pub counted_none : n ≡ 0 → run (from_bits seg) (counted count) (spot (place c) b) ≡ refused 6 (spot (place c) (place c))
    unfolding counted
    counted_none h = at_mark seg _ (place c) b ∙ served_on _ _ t ∙ simp (eq-eqb _ _ h) (at-refuse seg 6 (place d) (place c))

    pub counted-many : (n ≡ 0 → ⊥) → 21 < n → run (from_bits seg) (counted count) (spot (place c) b) ≡ refused 6 (spot (place c) (place c))
    unfolding counted
    counted-many h g = at_mark seg _ (place c) b ∙ served_on _ _ t ∙ simp (ne_eqb _ _ h, lt-ltb _ _ g)
        (at-refuse seg 6 (place d) (place c))

    pub counted-some : (n ≡ 0 → ⊥) → n ≤ 21
        → run (from_bits seg) (counted count) (spot (place c) b) ≡ run (from_bits seg) (coded count n) (spot (place d) (place c))
    unfolding counted
    counted-some h g = at_mark seg _ (place c) b ∙ served_on _ _ t ∙ simp (ne_eqb _ _ h, le-ltb _ _ g)

-- ---- the whole table

module _ {seg : List ℕ} (b : ℕ) {c : Cursor} where
  pub table-failed : {e : Fault} → Serves seg (a_number 14) c (Err e) → run (from_bits seg) table (spot (place c) b) ≡ fault e
  unfolding table
  table-failed t = at_mark seg _ (place c) b ∙ served-fault _ _ t

  module _ {count : ℕ} {d : Cursor} (t : Serves seg (a_number 14) c (Ok (count, d))) where
    pub reads_none : count ≡ 0 → run (from_bits seg) table (spot (place c) b) ≡ got [] (spot (place d) (place c))
    unfolding table
    reads_none h = at_mark seg _ (place c) b ∙ served_on _ _ t ∙ simp (eq-eqb _ _ h) (answered _ _ _)

    pub table-many : (count ≡ 0 → ⊥) → max_symbols < count → run (from_bits seg) table (spot (place c) b) ≡ refused 6
        (spot (place c) (place c))
    unfolding table
    table-many h g = at_mark seg _ (place c) b ∙ served_on _ _ t ∙ simp (ne_eqb _ _ h, lt-ltb _ _ g)
        (at-refuse seg 6 (place d) (place c))

    pub table-some : (count ≡ 0 → ⊥) → count ≤ max_symbols
        → run (from_bits seg) table (spot (place c) b) ≡ run (from_bits seg) (counted count) (spot (place d) (place c))
    unfolding table
    table-some h g = at_mark seg _ (place c) b ∙ served_on _ _ t ∙ simp (ne_eqb _ _ h, le-ltb _ _ g)
