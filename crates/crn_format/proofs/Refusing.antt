-- A reading whose own refusals pass a test, run over a source whose refusals do, refuses by a number that passes it.
use Prim.Native.Nat.{ℕ, ◌+◌, ◌-◌}
use mathlib.Core.Bool.{Bool, true, false}
use mathlib.Core.List.{List}
use mathlib.Core.Path.{◌≡◌, refl}
use lib.Dec.{eqb, ltb, leb}
use Rattle.crn_format.specs.Choice.{pick}
use Rattle.crn_format.specs.Bits.{bit_count, spelled}
use Rattle.crn_format.specs.Codes.{Drawn, symbol_at, failed, drawn, longest}
use Rattle.crn_format.specs.Reading.{Want, a_symbol, a_number, Reading, answer, refuse, want, mark, symbol, next, Step, got, refused, then, Source, Place, spot, Spending, run, from_bits, budgeted, charged, served, of_drawn}
use Rattle.crn_format.proofs.Drawing.{drawn-none}

module _ (ok : ℕ → Bool) where
  -- every number by which the reading itself refuses
  unfoldable pub Refuses : {A : Type 0} → Reading A → Type 0
  Refuses (answer a) = Unit {0}
  Refuses (refuse n) = ok n ≡ true
  Refuses (want x f) = (s : ℕ) → Refuses (f s)
  Refuses (mark m) = Refuses m

  -- the number of a step that is refused
  abbrev pub Stops : {S A : Type 0} → Step S A → Type 0
  Stops (got a w) = Unit {0}
  Stops (refused n w) = ok n ≡ true

  then-stops : {S A B : Type 0} (x : Step S A) (k : A → S → Step S B) → Stops x → ((a : A) (w : S) → Stops (k a w)) → Stops (then x k)
  unfolding then
  then-stops (got a w) k h g = g a w
  then-stops (refused n w) k h g = h

  pub run-stops : {S A : Type 0} (src : Source S) → ((x : Want) (w : S) → Stops (src.serve x w)) → (m : Reading A) → Refuses m → (w : S) →
      Stops (run src m w)
  unfolding run Refuses
  run-stops src serves (answer a) h w = tt
  run-stops src serves (refuse n) h w = h
  run-stops src serves (want x f) h w =
      then-stops (src.serve x w) (λ s v. run src (f s) v) (serves x w) (λ s v. run-stops src serves (f s) (h s) v)
  run-stops src serves (mark m) h w = run-stops src serves m h (src.marked w)

  -- ---- the bits of a segment refuse by 7 and 8, a budget by 15

  module _ (seven : ok 7 ≡ true) (eight : ok 8 ≡ true) (seg : List ℕ) where
    by_length : (short : Bool) → ok (pick short 8 7) ≡ true
    by_length true = eight
    by_length false = seven

    drawn-stops : (ls : List ℕ) (w : Place) → Stops (of_drawn (drawn ls seg w.at) w)
    unfolding of_drawn
    drawn-stops ls w = by (drawn ls seg w.at) refl
      where
        by : (d : Drawn) → drawn ls seg w.at ≡ d → Stops (of_drawn d w)
        by (symbol_at s p) e = tt
        by (failed n) e = rw (drawn-none ls seg w.at n e).number (by_length (ltb (bit_count seg - w.at) (longest ls)))

    pub serve-stops : (x : Want) (w : Place) → Stops (served seg x w)
    unfolding served
    serve-stops (a_symbol ls) w = drawn-stops ls w
    serve-stops (a_number n) w = by (leb (w.at + n) (bit_count seg))
      where
        by : (fits : Bool) → Stops (pick fits (got (spelled seg w.at n) (spot (w.at + n) w.blamed)) (refused 8 (spot w.at w.at)))
        by true = tt
        by false = eight

    pub bits-stop : {A : Type 0} (m : Reading A) → Refuses m → (w : Place) → Stops (run (from_bits seg) m w)
    unfolding from_bits
    bits-stop m h w = run-stops (from_bits seg) serve-stops m h w

    charge_stops : (left : ℕ) (y : Step Place ℕ) → Stops y → Stops (charged left y)
    unfolding charged
    charge_stops left (got s w) h = tt
    charge_stops left (refused n w) h = h

    pub budget-stops : ok 15 ≡ true → {A : Type 0} (m : Reading A) → Refuses m → (w : Spending) → Stops (run (budgeted (from_bits seg)) m w)
    unfolding from_bits budgeted
    budget-stops fifteen m h w = run-stops (budgeted (from_bits seg)) serves m h w
      where
        by : (spent : Bool) (x : Want) (w : Spending)
            → Stops (pick spent (refused 15 (record { place = spot w.place.at w.place.at; left = w.left }))
            (charged w.left (served seg x w.place)))
        by true x w = fifteen
        by false x w = charge_stops w.left (served seg x w.place) (serve-stops x w.place)

        serves : (x : Want) (w : Spending) → Stops ((budgeted (from_bits seg)).serve x w)
        serves x w = by (eqb w.left 0) x w

  -- ---- readings put together

  pub answers : {A : Type 0} (a : A) → Refuses (answer a)
  unfolding Refuses
  answers a = tt

  pub refusing : (A : Type 0) (n : ℕ) → ok n ≡ true → Refuses {A = A} (refuse n)
  unfolding Refuses
  refusing A n h = h

  pub by_test : {A : Type 0} (b : Bool) (m n : Reading A) → Refuses m → Refuses n → Refuses (pick b m n)
  by_test true m n h k = h
  by_test false m n h k = k

  pub one_then : {A B : Type 0} (m : Reading A) (k : A → Reading B) → Refuses m → ((a : A) → Refuses (k a)) → Refuses (next m k)
  unfolding Refuses next
  one_then (answer a) k h g = g a
  one_then (refuse n) k h g = h
  one_then (want x f) k h g = λ s. one_then (f s) k (h s) g
  one_then (mark m) k h g = one_then m k h g

  -- a symbol, whatever it is
  pub symbol-then : {B : Type 0} (ls : List ℕ) (k : ℕ → Reading B) → ((s : ℕ) → Refuses (k s)) → Refuses (next (symbol ls) k)
  unfolding Refuses next
  symbol-then ls k h = h
