-- A turn of `summed`: a symbol is added to the i-th of the running sums.
use Rattle.std.proofs.Common.{◌≡◌, ℕ, zero, suc, ◌+◌, ◌-◌, ◌%◌, ◌^◌, ◌<◌, ◌≤◌, Bool, true, false, List, [], ◌∷◌, length, get_or, drop, set, bit_and, refl, sym, ap, ◌∙◌, arith, drop_of_length-le}
use Rattle.std.specs.Prelude.{Ok, Err}
use Rattle.std.proofs.Math.Nat.{add-mod-mod}
use Rattle.std.proofs.lemmas.Nat.{and_le_r, and_mask}
use Rattle.std.proofs.lemmas.List.{get_or_default, get_or_past}
use Rattle.crn_format.specs.Reading.{a_symbol, answer, draw, Step, refused, Place, spot, run, from_bits}
use Rattle.crn_format.specs.Palettes.{Sum, summed, alpha_sums, color_sums}
use Rattle.crn_format.specs.Refusals.{number_of}
use Rattle.crn_format.specs.declared.Fault.{Fault}
use Rattle.crn_symbol_codec.specs.Cursors.{place}
use Rattle.crn_symbol_codec.specs.Decoders.{Decodes}
use Rattle.crn_symbol_codec.specs.Taking.{Takes}
use Rattle.crn_symbol_codec.specs.Telling.{fault}
use Rattle.crn_symbol_codec.specs.declared.Cursor.{Cursor}
use Rattle.crn_endpoints.specs.Endpoints.{AddsAs, Adds, Kept, six_bits, modulus_of, Small}
use Rattle.crn_endpoints.specs.declared.Sum.{Sum as Running}
use Rattle.crn_symbol_codec.specs.declared.Decoder.{Decoder}
use Rattle.crn_palettes.proofs.Leaving.{Left, left_is, left-drawn, left-failed}

-- ---- the sums of the code beside those of the definition

-- the i-th of them
pub record AddsAt (xs : List Running) (ms : List Sum) (i : ℕ) (x : Running) : Type 0 where
  pub sum : Sum
  pub first : drop i ms ≡ sum ∷ drop (i + 1) ms
  pub adds : AddsAs (get_or xs i x) sum

pub adds_at : {xs : List Running} {ms : List Sum} (i : ℕ) (x : Running) → Adds xs ms → i < length xs → AddsAt xs ms i x
adds_at {xs = []} {ms = []} i x a h = absurd (omega arith)
adds_at {xs = []} {ms = m ∷ ms} i x a h = elim a [ ]
adds_at {xs = x₁ ∷ xs} {ms = []} i x a h = elim a [ ]
adds_at {xs = x₁ ∷ xs} {ms = m ∷ ms} zero x a h = record { sum = m; first = refl; adds = a.0 }
adds_at {xs = x₁ ∷ xs} {ms = m ∷ ms} (suc i) x a h =
    let r = adds_at {xs = xs} {ms = ms} i x a.1 (omega arith) in
    let e : suc (i + 1) ≡ suc i + 1 = omega arith in
    record { sum = r.sum; first = r.first ∙ ap (λ (j : ℕ). r.sum ∷ drop j (m ∷ ms)) e; adds = r.adds }

adds-long : (xs : List Running) (ms : List Sum) → Adds xs ms → length ms ≡ length xs
adds-long [] [] a = refl
adds-long [] (m ∷ ms) a = elim a [ ]
adds-long (x ∷ xs) [] a = elim a [ ]
adds-long (x ∷ xs) (m ∷ ms) a = ap suc (adds-long xs ms a.1)

-- a sum has no more than its low bits
pub low_bits : (xs : List Running) (i n : ℕ) (x d : Running) → i < length xs → bit_and n (get_or xs i d).mask ≤ (get_or xs i x).mask
low_bits xs i n x d h = rw (get_or_default xs i x d h) (and_le_r _ _)

-- ---- the run

-- at the cursor `at`, after i of the sums ms, which are vs now
pub record Summed (seg : List ℕ) (ms : List Sum) (i : ℕ) (vs : List ℕ) (at : Cursor) (whole : Step Place (List ℕ)) : Type 0 where
  pub left : Left seg (summed (drop i ms) i vs) at whole

pub sums_none : (seg : List ℕ) (ms : List Sum) (vs : List ℕ) (c : Cursor) (b : ℕ) → Summed seg ms 0 vs c
    (run (from_bits seg) (summed ms 0 vs) (spot (place c) b))
sums_none seg ms vs c b = record { left = record { blamed = b; same = refl } }

module _ {seg : List ℕ} {ms : List Sum} {i : ℕ} {vs : List ℕ} {at : Cursor} {whole : Step Place (List ℕ)} (x : Summed seg ms i vs at whole)
  where
    module _ {xs : List Running} {y : Running} (a : AddsAt xs ms i y) where
      -- the next sum's symbol is drawn first
      sum_first : Left seg (draw a.sum.deltas λ s. summed (drop (i + 1) ms) (i + 1) (set vs i ((get_or vs i 0 + s) % a.sum.modulus))) at
          whole
      unfolding summed
      sum_first = left_is (ap (λ (l : List Sum). summed l i vs) a.first) x.left

      pub sum_more : {s : ℕ} {d : Cursor} → Takes seg (a_symbol a.sum.deltas) at (Ok (s, d))
          → Summed seg ms (i + 1) (set vs i (bit_and ((get_or vs i 0 + s % 256) % 256) (get_or xs i y).mask)) d whole
      sum_more {s} t =
          let v : bit_and ((get_or vs i 0 + s % 256) % 256) (get_or xs i y).mask ≡ (get_or vs i 0 + s) % a.sum.modulus =
          ap (λ (n : ℕ). bit_and n (get_or xs i y).mask) (add-mod-mod (get_or vs i 0) s 256) ∙ a.adds.keeps (get_or vs i 0 + s) in
          record { left = rw v (left-drawn sum_first t refl) }

      pub sum-failed : {e : Fault} → Takes seg (a_symbol a.sum.deltas) at (Err e.refusal) → e.at ≡ place at → whole ≡ fault e
      sum-failed {e} t n = left-failed sum_first t refl ∙ ap (λ (p : ℕ). refused (number_of e.refusal) (spot p p)) (sym n)

    pub sums_done : (xs : List Running) → Adds xs ms → length xs ≤ i → Left seg (answer vs) at whole
    unfolding summed
    sums_done xs a h =
        let none : drop i ms ≡ [] = drop_of_length-le ms {i = i} (omega (arith, adds-long xs ms a)) in
        left_is (ap (λ (l : List Sum). summed l i vs) none) x.left

-- ---- the sums of the two palettes: of eight, five and six bits

bits_kept : (k n : ℕ) → n % 256 % 2 ^ k ≡ n % 2 ^ k → bit_and (n % 256) (2 ^ k - 1) ≡ n % 2 ^ k
bits_kept k n e = and_mask (n % 256) k ∙ e

pub alpha-adds : (code : Decoder) {t : List ℕ} → Decodes t code.lookup.now code.sorted.now
    → Adds (record { deltas = code; mask = 255 } ∷ record { deltas = code; mask = 255 } ∷ []) (alpha_sums t)
unfolding alpha_sums
alpha-adds code {t} d = (m8, (m8, tt))
  where
    m8 : AddsAs (record { deltas = code; mask = 255 }) (record { deltas = t; modulus = 256 })
    m8 = record { decodes = d; keeps = λ n. bits_kept 8 n (omega arith) }

pub color-adds : (five six : Decoder) {t : List ℕ × List ℕ} → Decodes t.0 five.lookup.now five.sorted.now × Decodes t.1 six.lookup.now
    six.sorted.now
    → Adds
    (record { deltas = five; mask = 31 } ∷ record { deltas = six; mask = 63 } ∷ record { deltas = five; mask = 31 } ∷ record
    { deltas = five; mask = 31 } ∷ record { deltas = six; mask = 63 } ∷ record { deltas = five; mask = 31 } ∷ []) (color_sums t.0 t.1)
unfolding color_sums
color-adds five six {t} d = (m5, (m6, (m5, (m5, (m6, (m5, tt))))))
  where
    m5 : AddsAs (record { deltas = five; mask = 31 }) (record { deltas = t.0; modulus = 32 })
    m5 = record { decodes = d.0; keeps = λ n. bits_kept 5 n (omega arith) }

    m6 : AddsAs (record { deltas = six; mask = 63 }) (record { deltas = t.1; modulus = 64 })
    m6 = record { decodes = d.1; keeps = λ n. bits_kept 6 n (omega arith) }

-- six values that have no more than the low bits of the colour's sums
pub small-six : {five six : Decoder} (vs : List ℕ) → length vs ≡ 6 → Kept
    (record { deltas = five; mask = 31 } ∷ record { deltas = six; mask = 63 } ∷ record { deltas = five; mask = 31 } ∷ record
    { deltas = five; mask = 31 } ∷ record { deltas = six; mask = 63 } ∷ record { deltas = five; mask = 31 } ∷ []) vs
    → Small vs
small-six {five} {six} vs l h = go
  where
    x : Running
    x = record { deltas = five; mask = 0 }

    some : (wide : Bool) → 0 < modulus_of wide
    some true = omega arith
    some false = omega arith

    past : (k : ℕ) → 6 ≤ k → get_or vs k 0 < modulus_of (six_bits k)
    past k f = rw (get_or_past vs k 0 (omega arith)) (some (six_bits k))

    go : Small vs
    go zero = let b = h 0 x (omega arith) in omega arith
    go (suc zero) = let b = h 1 x (omega arith) in omega arith
    go (suc (suc zero)) = let b = h 2 x (omega arith) in omega arith
    go (suc (suc (suc zero))) = let b = h 3 x (omega arith) in omega arith
    go (suc (suc (suc (suc zero)))) = let b = h 4 x (omega arith) in omega arith
    go (suc (suc (suc (suc (suc zero))))) = let b = h 5 x (omega arith) in omega arith
    go (suc (suc (suc (suc (suc (suc i)))))) = past _ (omega arith)
