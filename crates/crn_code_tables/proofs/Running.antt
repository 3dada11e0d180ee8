-- A run of lengths, and a turn of `lengths_from`.
use Prim.Native.Nat.{ℕ, zero, suc, ◌+◌, ◌-◌, ◌<◌, ◌≤◌}
use mathlib.Core.Bool.{Bool, false}
use mathlib.Core.List.{List, ◌++◌}
use mathlib.Core.Path.{◌≡◌, refl, sym, ap, ◌∙◌}
use native.Mathlib.Decide.{ℕ_discrete}
use native.Mathlib.Omega.{arith}
use lib.ListN.{length, replicate}
use lib.Dec.{leb, ltb}
use borrow.Author.Tests.{eq-eqb, ne_eqb, lt-leb, le-leb, lt-ltb, le-ltb}
use Rattle.crn_format.specs.Choice.{pick}
use Rattle.crn_format.specs.Reading.{a_symbol, a_number, Reading, answer, refuse, number, next, got, refused, run, from_bits, Place, spot}
use Rattle.crn_format.specs.Tables.{again, run_of, lengths_from}
use Rattle.crn_format.proofs.Steps.{answered, at_mark, at-refuse, go_on, stop}
use Rattle.crn_symbol_codec.specs.Cursors.{place}
use Rattle.std.specs.Prelude.{Ok, Err}
use Rattle.crn_format.specs.declared.Fault.{Fault}
use Rattle.crn_symbol_codec.specs.Telling.{fault}
use Rattle.crn_symbol_codec.specs.declared.Cursor.{Cursor}
use Rattle.crn_code_tables.specs.Parts.{extra_of, least_of, drawn_run}
use Rattle.crn_code_tables.proofs.Telling.{Serves, served_on, served-fault}

-- ---- a run

-- of a length symbol above 16, x more than at least: zeros, or the last length again
longer_by : Bool → ℕ → ℕ → ℕ → Reading (ℕ × ℕ)
longer_by zeros least last x = pick zeros (answer (least + x, 0)) (again last (least + x))

abbrev longer : ℕ → ℕ → (ℕ → Reading (ℕ × ℕ))
longer last s = longer_by (leb s 18) (least_of s) last

long-run : (last s : ℕ) → 16 < s → run_of last s ≡ number (extra_of s) (longer last s)
unfolding run_of longer_by
long-run last s h = go (ℕ_discrete s 17) (ℕ_discrete s 18) (ℕ_discrete s 19)
  where
    above : leb s 16 ≡ false
    above = lt-leb s 16 h

    go : Dec (s ≡ 17) → Dec (s ≡ 18) → Dec (s ≡ 19) → run_of last s ≡ number (extra_of s) (longer last s)
    go (yes a) _ _ = rw a refl
    go (no a) (yes b) _ = rw b refl
    go (no a) (no b) (yes c) = rw c refl
    go (no a) (no b) (no c) = simp (above, ne_eqb s 17 a, ne_eqb s 18 b, ne_eqb s 19 c, lt-leb s 18 (omega arith))

module _ {seg cl : List ℕ} (last : ℕ) {c : Cursor} (b : ℕ) where
  pub symbol-failed : {e : Fault} → Serves seg (a_symbol cl) c (Err e)
      → run (from_bits seg) (drawn_run cl last) (spot (place c) b) ≡ fault e
  symbol-failed t = served-fault _ b t

  module _ {s : ℕ} {d : Cursor} (t : Serves seg (a_symbol cl) c (Ok (s, d))) where
    pub one-run : s ≤ 16 → run (from_bits seg) (drawn_run cl last) (spot (place c) b) ≡ got (1, s) (spot (place d) b)
    unfolding run_of
    one-run h = served_on _ b t ∙ simp (le-leb _ _ h) (answered _ _ _)

    module _ (h : 16 < s) {n : ℕ} (is : n ≡ extra_of s) where
      its_number : run (from_bits seg) (drawn_run cl last) (spot (place c) b) ≡ run (from_bits seg) (number n (longer last s))
          (spot (place d) b)
      its_number =
          served_on _ b t
          ∙ ap (λ (m : Reading (ℕ × ℕ)). run (from_bits seg) m (spot (place d) b))
          (long-run last s h ∙ ap (λ (k : ℕ). number k (longer last s)) (sym is))

      pub number-failed : {e : Fault} → Serves seg (a_number n) d (Err e)
          → run (from_bits seg) (drawn_run cl last) (spot (place c) b) ≡ fault e
      number-failed u = its_number ∙ served-fault _ b u

      module _ {x : ℕ} {g : Cursor} (u : Serves seg (a_number n) d (Ok (x, g))) {least : ℕ} (at_least : least ≡ least_of s) where
        pub zeros-run : s ≤ 18 → run (from_bits seg) (drawn_run cl last) (spot (place c) b) ≡ got (least + x, 0) (spot (place g) b)
        unfolding longer_by
        zeros-run l = its_number ∙ served_on _ b u ∙ rw at_least (simp (le-leb s 18 l) (answered _ _ _))

        pub again-none : 18 < s → last ≡ 0 → run (from_bits seg) (drawn_run cl last) (spot (place c) b) ≡ refused 6 (spot b b)
        unfolding again longer_by
        again-none l z = its_number ∙ served_on _ b u ∙ simp (lt-leb s 18 l, eq-eqb last 0 z) (at-refuse seg 6 (place g) b)

        pub again-run : 18 < s → (last ≡ 0 → ⊥) → run (from_bits seg) (drawn_run cl last) (spot (place c) b) ≡ got (least + x, last)
            (spot (place g) b)
        unfolding again longer_by
        again-run l z = its_number ∙ served_on _ b u ∙ rw at_least (simp (lt-leb s 18 l, ne_eqb last 0 z) (answered _ _ _))

-- ---- a turn

-- what follows a run
abbrev onward : List ℕ → ℕ → ℕ → List ℕ → ℕ × ℕ → Reading (List ℕ)
onward cl count turns ls r = pick (ltb count (length ls + r.0)) (refuse 6) (lengths_from cl count turns r.1 (ls ++ replicate r.0 r.1))

pub turn_done : (seg cl : List ℕ) (count turns last : ℕ) (ls : List ℕ) (w : Place) → count ≤ length ls
    → run (from_bits seg) (lengths_from cl count turns last ls) w ≡ got ls w
unfolding lengths_from
turn_done seg cl count zero last ls w h = answered _ _ _
turn_done seg cl count (suc turns) last ls w h = simp (le-leb _ _ h) (answered _ _ _)

module _ (seg cl : List ℕ) (last p count turns : ℕ) (ls : List ℕ) (b : ℕ) (h : length ls < count) (enough : count ≤ length ls + turns) where
  turn_at : (m : ℕ) → run (from_bits seg) (lengths_from cl count (suc m) last ls) (spot p b)
      ≡ run (from_bits seg) (next (drawn_run cl last) (onward cl count m ls)) (spot p p)
  unfolding lengths_from next
  turn_at m = simp (lt-leb _ _ h) (at_mark seg _ p b)

  turn : run (from_bits seg) (lengths_from cl count turns last ls) (spot p b)
      ≡ run (from_bits seg) (next (drawn_run cl last) (onward cl count (turns - 1) ls)) (spot p p)
  turn =
      let e : turns ≡ suc (turns - 1) = omega arith in
      ap (λ (m : ℕ). run (from_bits seg) (lengths_from cl count m last ls) (spot p b)) e ∙ turn_at (turns - 1)

  pub turn-refused : {k : ℕ} {w : Place} → run (from_bits seg) (drawn_run cl last) (spot p p) ≡ refused k w
      → run (from_bits seg) (lengths_from cl count turns last ls) (spot p b) ≡ refused k w
  turn-refused f = turn ∙ stop (from_bits seg) (drawn_run cl last) _ _ f

  module _ {n v q : ℕ} (f : run (from_bits seg) (drawn_run cl last) (spot p p) ≡ got (n, v) (spot q p)) where
    along : run (from_bits seg) (lengths_from cl count turns last ls) (spot p b) ≡ run (from_bits seg)
        (onward cl count (turns - 1) ls (n, v)) (spot q p)
    along = turn ∙ go_on (from_bits seg) (drawn_run cl last) _ _ f

    pub turn-long : count < length ls + n → run (from_bits seg) (lengths_from cl count turns last ls) (spot p b) ≡ refused 6 (spot p p)
    turn-long l = along ∙ simp (lt-ltb _ _ l) (at-refuse seg 6 q p)

    pub turn_more : length ls + n ≤ count → run (from_bits seg) (lengths_from cl count turns last ls) (spot p b)
        ≡ run (from_bits seg) (lengths_from cl count (turns - 1) v (ls ++ replicate n v)) (spot q p)
    turn_more l = along ∙ simp (le-ltb _ _ l)
