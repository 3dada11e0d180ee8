-- What a reader's answers say of the run that wants a number and then a symbol.
use Prim.Native.Nat.{ℕ}
use mathlib.Core.List.{List}
use mathlib.Core.Path.{◌≡◌, refl, sym, ap, ◌∙◌, subst}
use denote.Ref.{Bor}
use Rattle.crn_format.specs.Reading.{Want, a_symbol, a_number, draw, answer, got, spot, start, run, from_bits}
use Rattle.crn_format.proofs.Steps.{answered}
use Rattle.crn_symbol_codec.specs.Cursors.{place as place_of, Holds}
use Rattle.crn_symbol_codec.specs.Taking.{Takes}
use Rattle.crn_symbol_codec.specs.declared.Cursor.{Cursor}
use Rattle.std.specs.Prelude.{Ok, Err}
use Rattle.crn_format.specs.declared.Refusal.{Refusal}
use Rattle.crn_symbol_codec.specs.Taking.{Taken}
use Rattle.crn_symbol_codec.specs.Telling.{fault}
use Rattle.crn_format.specs.declared.Fault.{Fault}
use Rattle.crn_symbol_codec.proofs.Serving.{taken-value, taken-failed, taken-holds}
use Rattle.crn_reader.specs.Moving.{cursor_after, moved_by}
use Rattle.crn_reader.specs.Pairs.{pair, fault_at}
use Rattle.crn_reader.specs.declared.Reader.{Reader}

-- the cursor after an answer holds
after_holds : {seg : List ℕ} {x : Want} (c : Cursor) (t : Taken) → Holds seg c → Takes seg x c t → Holds seg (cursor_after c t)
after_holds c (Ok (v, d)) h took = taken-holds took refl
after_holds c (Err n) h took = h

pub moved_holds : {x : Want} {r q : Reader} {t : Taken} → Holds r.seg.now r.cursor → Takes r.seg.now x r.cursor t → q ≡ moved_by r t
    → Holds q.seg.now q.cursor
moved_holds {r = r} {t = t} h took e = subst (λ (y : Reader). Holds y.seg.now y.cursor) (sym e) (after_holds r.cursor t h took)

-- a reader that was moved keeps its segment
pub moved-seg : {s : Bor (List ℕ)} (r : Reader) (t : Taken) {q : Reader} → r.seg ≡ s → q ≡ moved_by r t → q.seg ≡ s
moved-seg r t same e = ap (λ (y : Reader). y.seg) e ∙ same

-- what the answers come to, from a reader at the first bit that is moved by each
module _
    (n : ℕ) (ls : List ℕ) {s : Bor (List ℕ)} {r : Reader} (made : (r.seg ≡ s) × Holds s.now r.cursor × (place_of r.cursor ≡ 0))
  where
    from_reader : run (from_bits r.seg.now) (pair n ls) (spot (place_of r.cursor) 0) ≡ run (from_bits s.now) (pair n ls) start
    from_reader =
        ap (λ (y : Bor (List ℕ)). run (from_bits y.now) (pair n ls) (spot (place_of r.cursor) 0)) made.0
        ∙ ap (λ (p : ℕ). run (from_bits s.now) (pair n ls) (spot p 0)) made.2

    pub number_stops : {q : Reader} {k : Refusal} {e : Fault} → Takes r.seg.now (a_number n) r.cursor (Err k) → q ≡ moved_by r (Err k)
        → e ≡ fault_at k (place_of q.cursor) → fault {A = ℕ × ℕ} e ≡ run (from_bits s.now) (pair n ls) start
    number_stops t moved e = rw (e, moved) (sym (taken-failed t (λ v. draw ls λ y. answer (v, y)) 0 refl) ∙ from_reader)

    module _ {t : ℕ × Cursor} {q : Reader} (took : Takes r.seg.now (a_number n) r.cursor (Ok t)) (moved : q ≡ moved_by r (Ok t)) where
      its_number : run (from_bits r.seg.now) (draw ls λ y. answer (t.0, y)) (spot (place_of t.1) 0)
          ≡ run (from_bits s.now) (pair n ls) start
      its_number = sym (taken-value took (λ v. draw ls λ y. answer (v, y)) 0 refl) ∙ from_reader

      pub symbol_stops : {q₂ : Reader} {k : Refusal} {e : Fault} → Takes q.seg.now (a_symbol ls) q.cursor (Err k) → q₂ ≡ moved_by q (Err k)
          → e ≡ fault_at k (place_of q₂.cursor) → fault {A = ℕ × ℕ} e ≡ run (from_bits s.now) (pair n ls) start
      symbol_stops drew moved₂ e =
          let drew : Takes r.seg.now (a_symbol ls) t.1 (Err _) = rw moved at drew in
          rw (e, moved₂, moved) (sym (taken-failed drew (λ y. answer (t.0, y)) 0 refl) ∙ its_number)

      pub both_read : {q₂ : Reader} {u : ℕ × Cursor} {m : ℕ} → Takes q.seg.now (a_symbol ls) q.cursor (Ok u) → q₂ ≡ moved_by q (Ok u)
          → m ≡ place_of q₂.cursor → got (t.0, u.0) (spot m 0) ≡ run (from_bits s.now) (pair n ls) start
      both_read {u = u} drew moved₂ e =
          let drew : Takes r.seg.now (a_symbol ls) t.1 (Ok u) = rw moved at drew in
          rw (e, moved₂)
          (sym (taken-value drew (λ y. answer (t.0, y)) 0 refl ∙ answered _ (t.0, u.0) _) ∙ its_number)
