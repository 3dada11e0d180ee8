-- What taking a symbol or a number says of a run that wants it.
use Prim.Native.Nat.{ℕ, ◌+◌, ◌-◌, ◌^◌, ◌<◌}
use mathlib.Core.Bool.{Bool, true, false}
use mathlib.Core.List.{List}
use mathlib.Core.Path.{◌≡◌, refl, sym, ap, ◌∙◌, subst}
use native.Mathlib.Omega.{arith}
use lib.Dec.{leb, ltb}
use Rattle.crn_format.specs.Choice.{pick}
use Rattle.crn_format.specs.Bits.{bit_count, spelled}
use Rattle.crn_format.specs.Codes.{Drawn, symbol_at, failed, drawn, longest}
use Rattle.crn_format.specs.Reading.{Want, a_symbol, a_number, Reading, want, number, Step, got, refused, then, run, from_bits, served, of_drawn, Place, spot}
use Rattle.crn_format.specs.Script.{Stands}
use Rattle.crn_format.proofs.Drawing.{field_lt, drawn-none}
use Rattle.crn_format.proofs.Scripts.{at-got}
use Rattle.crn_symbol_codec.specs.Cursors.{place, Holds}
use Rattle.crn_symbol_codec.specs.Taking.{took, On, Takes}
use Rattle.crn_symbol_codec.specs.declared.Cursor.{Cursor}
use Rattle.crn_symbol_codec.specs.Taking.{Taken}
use Rattle.std.specs.Prelude.{Ok, Err}
use Rattle.crn_format.specs.Refusals.{number_of}
use Rattle.crn_format.specs.declared.Refusal.{Refusal}

module _ {seg : List ℕ} {x : Want} {c : Cursor} {r : Taken} (t : Takes seg x c r) where
  served-value : {v : ℕ} {d : Cursor} → r ≡ Ok (v, d) → (b : ℕ) → served seg x (spot (place c) b) ≡ got v (spot (place d) b)
  served-value e b = sym (t.same b) ∙ ap (took (place c) b) e

  served-failed : {n : Refusal} → r ≡ Err n → (b : ℕ) → served seg x (spot (place c) b) ≡ refused (number_of n) (spot (place c) (place c))
  served-failed e b = sym (t.same b) ∙ ap (took (place c) b) e

  -- the run goes on after what was taken
  pub taken-value : {A : Type 0} (f : ℕ → Reading A) (b : ℕ) {v : ℕ} {d : Cursor} → r ≡ Ok (v, d)
      → run (from_bits seg) (want x f) (spot (place c) b) ≡ run (from_bits seg) (f v) (spot (place d) b)
  unfolding run then from_bits
  taken-value f b e = ap (λ (y : Step Place ℕ). then y (λ s w. run (from_bits seg) (f s) w)) (served-value e b)

  -- or is refused, and what could not be taken is blamed
  pub taken-failed : {A : Type 0} (f : ℕ → Reading A) (b : ℕ) {n : Refusal} → r ≡ Err n
      → run (from_bits seg) (want x f) (spot (place c) b) ≡ refused (number_of n) (spot (place c) (place c))
  unfolding run then from_bits
  taken-failed f b e = ap (λ (y : Step Place ℕ). then y (λ s w. run (from_bits seg) (f s) w)) (served-failed e b)

  -- the next cursor holds
  pub taken-holds : {v : ℕ} {d : Cursor} → r ≡ Ok (v, d) → Holds seg d
  taken-holds e = subst (On seg) e t.holds

-- a number of n bits is below 2^n
pub number_small : {seg : List ℕ} {n v : ℕ} {c d : Cursor} {r : Taken} → Takes seg (a_number n) c r → r ≡ Ok (v, d) → v < 2 ^ n
unfolding Stands
number_small {seg} {n} {v} {c} {d} t e =
    let s = at-got seg (a_number n) (spot (place c) 0) (spot (place d) 0) v (served-value t e 0) in
    rw (← s.0.1) (field_lt seg (place c) n)

-- a number that could not be taken is refusal 8
served_eight : (seg : List ℕ) (n p k : ℕ) (w : Place) → served seg (a_number n) (spot p 0) ≡ refused k w → k ≡ 8
unfolding served
served_eight seg n p k w e = go (leb (p + n) (bit_count seg)) e
  where
    go : (h : Bool) → pick h (got (spelled seg p n) (spot (p + n) 0)) (refused 8 (spot p p)) ≡ refused k w → k ≡ 8
    go true e = let z : ◌≡◌ {A = ℕ} 0 1 = cc in absurd (omega arith)
    go false e = cc

number-failed : {seg : List ℕ} {n : ℕ} {k : Refusal} {c : Cursor} {r : Taken} → Takes seg (a_number n) c r → r ≡ Err k → number_of k ≡ 8
number-failed {seg} {n} {k} {c} t e = served_eight seg n (place c) (number_of k) _ (served-failed t e 0)

pub number-refused : {A : Type 0} {seg : List ℕ} {n : ℕ} {k : Refusal} {c : Cursor} {r : Taken} → Takes seg (a_number n) c r → (f : ℕ → Reading A)
    (b : ℕ) → r ≡ Err k
    → run (from_bits seg) (number n f) (spot (place c) b) ≡ refused 8 (spot (place c) (place c))
number-refused {c = c} t f b e = taken-failed t f b e ∙ ap (λ (k : ℕ). refused k (spot (place c) (place c))) (number-failed t e)

-- no refusal is 0
served-some : (seg : List ℕ) (x : Want) (p k : ℕ) (w : Place) → served seg x (spot p 0) ≡ refused k w → 0 < k
unfolding served of_drawn
served-some seg (a_number n) p k w e = let z = served_eight seg n p k w e in omega arith
served-some seg (a_symbol ls) p k w e = go (drawn ls seg p) refl e
  where
    some : (h : Bool) → k ≡ pick h 8 7 → 0 < k
    some true e = omega arith
    some false e = omega arith

    go : (d : Drawn) → drawn ls seg p ≡ d → of_drawn d (spot p 0) ≡ refused k w → 0 < k
    go (symbol_at s q) f e = let z : ◌≡◌ {A = ℕ} 0 1 = cc in absurd (omega arith)
    go (failed n) f e =
        let z : n ≡ k = cc in
        some (ltb (bit_count seg - p) (longest ls)) (drawn-none ls seg p k (f ∙ ap failed z)).number

pub failed-some : {seg : List ℕ} {x : Want} {k : Refusal} {c : Cursor} {r : Taken} → Takes seg x c r → r ≡ Err k → 0 < number_of k
failed-some {seg} {x} {k} {c} t e = served-some seg x (place c) (number_of k) _ (served-failed t e 0)
