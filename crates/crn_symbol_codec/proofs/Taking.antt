-- What is served at a place, from what a cursor there answers.
use Prim.Native.Nat.{ℕ, ◌+◌, ◌-◌, ◌/◌, ◌^◌, ◌<◌, ◌≤◌}
use mathlib.Core.List.{List}
use mathlib.Core.Path.{◌≡◌, refl, ap, ap₂, ◌∙◌}
use native.Mathlib.Nat.{lt_of_lt_of_le}
use native.Mathlib.Omega.{arith}
use lib.Pow.{pow_mono}
use borrow.Author.Tests.{le-leb, lt-leb}
use Rattle.crn_format.specs.Bits.{bit_count, spelled}
use Rattle.crn_format.specs.Codes.{Drawn}
use Rattle.crn_format.specs.Reading.{Want, a_symbol, a_number, got, spot, of_drawn, served}
use Rattle.crn_format.proofs.Drawing.{field_lt}
use Rattle.crn_symbol_codec.specs.declared.Cursor.{Cursor}
use Rattle.crn_symbol_codec.specs.Taking.{Taken}
use Rattle.std.specs.Prelude.{Ok, Err}
use Rattle.crn_format.specs.declared.Refusal.TheVariants.{Ended}
use Rattle.crn_symbol_codec.specs.Cursors.{place, past, Holds, Enough}
use Rattle.crn_symbol_codec.specs.Taking.{took, Takes}
use Rattle.crn_symbol_codec.specs.Decoders.{Decodes}
use Rattle.crn_symbol_codec.specs.Drawing.{drew, Draws}
use Rattle.crn_symbol_codec.proofs.Holding.{window_twice, place-past, after-drop}
use Rattle.crn_symbol_codec.proofs.Walking.{walked-drawn}

-- two cursors at one place take the same
pub takes_at : {seg : List ℕ} {x : Want} {c d : Cursor} {r : Taken} → place c ≡ place d → Takes seg x c r → Takes seg x d r
takes_at {seg} {x} {c} {d} {r} e t = record { same = λ b. rw e at (t.same b); holds = t.holds }

-- ---- a number of n bits
pub field-small : (s : List ℕ) (p n : ℕ) → n ≤ 16 → spelled s p n < 65536
field-small s p n h = lt_of_lt_of_le (field_lt s p n) (pow_mono h)

module _ {seg : List ℕ} {c : Cursor} {n : ℕ} (h : Holds seg c) (enough : Enough seg c 16) (few : n ≤ 16) where
  pub number_is : c.bits / 2 ^ 32 / 2 ^ (32 - n) ≡ spelled seg (place c) n
  number_is = window_twice 32 (32 - n) n (omega arith) h enough few

  pub takes-number : n ≤ c.have → Takes seg (a_number n) c (Ok ((c.bits / 2 ^ 32 / 2 ^ (32 - n)), (past c n)))
  unfolding served
  takes-number l =
      let k : place c + n ≤ bit_count seg = omega (arith, h.behind, h.within) in
      record {
        same = λ b. simp (le-leb _ _ k) (ap₂ (λ (v q : ℕ). got v (spot q b)) number_is (place-past h l));
        holds = after-drop h l;
      }

  pub number-ended : c.have < n → Takes seg (a_number n) c (Err Ended)
  unfolding served
  number-ended l =
      let z = enough (omega arith) in
      let k : bit_count seg < place c + n = omega (arith, h.behind) in
      record { same = λ b. simp (lt-leb _ _ k); holds = tt }

-- ---- a symbol
took-drew : (p b : ℕ) (r : Taken) → took p b r ≡ of_drawn (drew r) (spot p b)
unfolding of_drawn
took-drew p b (Ok (v, d)) = refl
took-drew p b (Err n) = refl

pub takes-symbol : {ls lookup sorted seg : List ℕ} {c : Cursor} {r : Taken} → Draws lookup sorted seg c r → Decodes ls lookup sorted → Takes
    seg (a_symbol ls) c r
unfolding served
takes-symbol {ls} {lookup} {sorted} {seg} {c} {r} t d =
    record {
      same = λ b.
          took-drew (place c) b r
          ∙ ap (λ (x : Drawn). of_drawn x (spot (place c) b)) (t.same ∙ walked-drawn ls lookup sorted seg (place c) d);
      holds = t.holds;
    }
