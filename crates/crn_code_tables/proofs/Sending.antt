-- A turn of `sent_lengths`.
use Prim.Native.Nat.{ℕ, suc, ◌+◌, ◌-◌, ◌<◌, ◌≤◌}
use mathlib.Core.List.{List, ◌∷◌}
use mathlib.Core.Path.{◌≡◌, refl}
use native.Mathlib.Omega.{arith}
use native.Mathlib.Numerals.{add-one}
use lib.ListN.{length, get_or, set, drop}
use lib.Seq.{drop-cons}
use Rattle.crn_format.specs.Reading.{a_number, got, run, from_bits, spot}
use Rattle.crn_format.specs.Tables.{length_order, sent_lengths}
use Rattle.crn_format.proofs.Steps.{answered}
use Rattle.crn_symbol_codec.specs.Cursors.{place}
use Rattle.std.specs.Prelude.{Ok, Err}
use Rattle.crn_format.specs.declared.Fault.{Fault}
use Rattle.crn_symbol_codec.specs.Telling.{fault}
use Rattle.crn_symbol_codec.specs.declared.Cursor.{Cursor}
use Rattle.crn_code_tables.proofs.Telling.{Serves, served_on, served-fault}

order_long : length length_order ≡ 21
unfolding length_order
order_long = refl

order_at : (i : ℕ) → i < 21 → drop i length_order ≡ get_or length_order i 0 ∷ drop (i + 1) length_order
order_at i h = rw (add-one i) (drop-cons length_order i 0 (omega (arith, order_long)))

one_less : (n i : ℕ) → i < n → n - i ≡ suc (n - (i + 1))
one_less n i h = omega arith

module _ {seg : List ℕ} (n i : ℕ) (ls : List ℕ) (b : ℕ) {c : Cursor} (h : i < n) (few : n ≤ 21) where
  pub sent-more : {t : ℕ × Cursor} → Serves seg (a_number 3) c (Ok t)
      → run (from_bits seg) (sent_lengths (n - i) (drop i length_order) ls) (spot (place c) b)
      ≡ run (from_bits seg) (sent_lengths (n - (i + 1)) (drop (i + 1) length_order) (set ls (get_or length_order i 0) t.0))
      (spot (place t.1) b)
  unfolding sent_lengths
  sent-more s = rw (one_less n i h, order_at i (omega arith)) (served_on _ b s)

  pub sent-failed : {e : Fault} → Serves seg (a_number 3) c (Err e)
      → run (from_bits seg) (sent_lengths (n - i) (drop i length_order) ls) (spot (place c) b) ≡ fault e
  unfolding sent_lengths
  sent-failed s = rw (one_less n i h, order_at i (omega arith)) (served-fault _ b s)

pub sent_done : (seg : List ℕ) (n i : ℕ) (ls : List ℕ) (p b : ℕ) → n ≤ i
    → run (from_bits seg) (sent_lengths (n - i) (drop i length_order) ls) (spot p b) ≡ got ls (spot p b)
unfolding sent_lengths
sent_done seg n i ls p b h = let e : n - i ≡ 0 = omega arith in rw e (answered _ ls (spot p b))
