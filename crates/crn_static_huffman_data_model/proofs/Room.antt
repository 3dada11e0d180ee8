-- The test of a code: its lengths, the room that they take, and the longest of them.
use Prim.Native.Nat.{ℕ, zero, suc, ◌+◌, ◌-◌, ◌^◌, ◌<◌, ◌≤◌}
use mathlib.Core.List.{List}
use mathlib.Core.Bool.{Bool, true, false}
use mathlib.Core.Logic.{◌⊎◌, inl, inr, ⊎_elim}
use mathlib.Core.Path.{◌≡◌, refl, sym, ap, ap₂, ◌∙◌}
use native.Mathlib.Omega.{arith}
use native.Mathlib.Numerals.{add-one}
use native.Mathlib.Decide.{ℕ_discrete, dec_le, dec_lt}
use lib.ListN.{length, get_or, get_or-eq_default}
use lib.Dec.{leb, ltb, eqb}
use lib.Pow.{pow_pos}
use borrow.Author.Tests.{eq-eqb, ne_eqb, le-leb, lt-leb, le-ltb, lt-ltb}
use Rattle.crn_format.specs.Choice.{pick, both}
use Rattle.crn_format.specs.Codes.{below, used, longest_up_to, longest, room, all_fit, is_code}
use Rattle.crn_format.proofs.Drawing.{below_lt, used_pos, last-above}
use Rattle.crn_static_huffman_data_model.specs.Building.{Passed, share_of, share_by, Sums, Short, Counted, Last}
use Rattle.crn_static_huffman_data_model.proofs.Passing.{passing}

never : ◌≡◌ {A = Bool} true false → ⊥
never e = let z : ◌≡◌ {A = ℕ} 0 1 = cc in omega arith

-- ---- no length above 16

pub fit_none : (t : List ℕ) → all_fit t 0 ≡ true
unfolding all_fit
fit_none t = refl

pub fit_more : (t : List ℕ) (n : ℕ) → get_or t n 0 ≤ 16 → all_fit t n ≡ true → all_fit t (n + 1) ≡ true
unfolding all_fit
fit_more t n h e = rw (add-one n) (simp (e, le-leb _ _ h))

both_false : (b : Bool) → both b false ≡ false
both_false true = refl
both_false false = refl

pub fit_false : (t : List ℕ) (n y : ℕ) → y < n → 16 < get_or t y 0 → all_fit t n ≡ false
unfolding all_fit
fit_false t zero y h l = absurd (omega arith)
fit_false t (suc n) y h l = go (fit_false t n y) (ℕ_discrete y n)
  where
    go : (y < n → 16 < get_or t y 0 → all_fit t n ≡ false) → Dec (y ≡ n) → all_fit t (suc n) ≡ false
    go ih (yes q) = simp (lt-leb (get_or t n 0) 16 (rw q at l)) (both_false (all_fit t n))
    go ih (no q) = simp (ih (omega arith) l)

pub fit_short : (t : List ℕ) → all_fit t (length t) ≡ true → Short t
fit_short t e y = go (dec_le (get_or t y 0) 16) (dec_lt y (length t))
  where
    go : Dec (get_or t y 0 ≤ 16) → Dec (y < length t) → get_or t y 0 ≤ 16
    go (yes a) d = a
    go (no a) (yes b) =
        let f = fit_false t (length t) y b (omega arith) in
        let z : ◌≡◌ {A = ℕ} 0 1 = cc in
        absurd (omega arith)
    go (no a) (no b) = omega (arith, get_or-eq_default t 0 {n = y} (omega arith))

-- ---- the longest code

-- the last length that is used is the longest code's
last-is : (t : List ℕ) (m n : ℕ) → m ≤ n → (0 < m → 0 < used t m) → ((l : ℕ) → m < l → l ≤ n → used t l ≡ 0) → longest_up_to t n ≡ m
unfolding longest_up_to
last-is t m zero h s a = omega arith
last-is t m (suc n) h s a = go (λ k. last-is t m n k s (λ l b c. a l b (omega arith))) (ℕ_discrete m (suc n))
  where
    go : (m ≤ n → longest_up_to t n ≡ m) → Dec (m ≡ suc n) → longest_up_to t (suc n) ≡ m
    go ih (yes q) = simp (ne_eqb (used t (suc n)) 0 (λ e. omega (arith, rw q at (s (omega arith))))) (sym q)
    go ih (no q) = simp (eq-eqb _ _ (a (suc n) (omega arith) (omega arith))) (ih (omega arith))

pub longest-is : (t cs : List ℕ) (m : ℕ) → Counted t cs → Last cs m → m ≡ longest t
longest-is t cs m c l =
    sym
    (last-is t m 16 l.most (λ h. omega (arith, l.some h, c.each m (omega (arith, l.most))))
    (λ j a b. omega (arith, l.after j a (omega arith), c.each j (omega arith))))

-- ---- the room

pub room-none : (t : List ℕ) → room t 0 ≡ 0
unfolding room
room-none t = refl

pub room-more : (t : List ℕ) (n : ℕ) → room t (n + 1) ≡ room t n + pick (eqb (get_or t n 0) 0) 0 (2 ^ (16 - get_or t n 0))
unfolding room
room-more t n = ap (room t) (add-one n)

pub room-skip : (t : List ℕ) (n : ℕ) → get_or t n 0 ≡ 0 → room t (n + 1) ≡ room t n
room-skip t n z = room-more t n ∙ simp (eq-eqb _ _ z) (omega arith)

-- none of the symbols below n has a code, and they take no room
record Empty (t : List ℕ) (n : ℕ) : Type 0 where
  none : (l : ℕ) → 0 < l → below t n l ≡ 0
  room-is : room t n ≡ 0

-- one of them has a code, and they take some room
record Some (t : List ℕ) (n : ℕ) : Type 0 where
  symbol : ℕ
  under : symbol < n
  coded : 0 < get_or t symbol 0
  room-is : 0 < room t n

empty_or_some : (t : List ℕ) (n : ℕ) → Empty t n ⊎ Some t n
unfolding below room
empty_or_some t zero = inl (record { none = λ l h. refl; room-is = refl })
empty_or_some t (suc n) = go (empty_or_some t n) (ℕ_discrete (get_or t n 0) 0)
  where
    go : Empty t n ⊎ Some t n → Dec (get_or t n 0 ≡ 0) → Empty t (suc n) ⊎ Some t (suc n)
    go (inl e) (yes q) =
        inl
        (record {
          none = λ l h. simp (ne_eqb (get_or t n 0) l (omega arith)) (omega (arith, e.none l h));
          room-is = simp (eq-eqb _ _ q) (omega (arith, e.room-is));
        })
    go (inr e) (yes q) = inr (record {
      symbol = e.symbol;
      under = omega (arith, e.under);
      coded = e.coded;
      room-is = simp (eq-eqb _ _ q)
          (omega (arith, e.room-is));
    })
    go e (no q) = inr (record {
      symbol = n;
      under = omega arith;
      coded = omega arith;
      room-is = simp (ne_eqb _ _ q)
          (omega (arith, pow_pos (16 - get_or t n 0)));
    })

-- there is a code where the codes take some room
longest_by_room : (t : List ℕ) → Short t → ltb 0 (longest t) ≡ ltb 0 (room t (length t))
longest_by_room t short = ⊎_elim empty some (empty_or_some t (length t))
  where
    empty : Empty t (length t) → ltb 0 (longest t) ≡ ltb 0 (room t (length t))
    empty e = rw (last-is t 0 16 (omega arith) (λ h. omega arith) (λ l a b. used_pos t l a ∙ e.none l a), e.room-is)

    some : Some t (length t) → ltb 0 (longest t) ≡ ltb 0 (room t (length t))
    some e =
        let y = e.symbol in
        let long = last-above t 16 (get_or t y 0) (short y) (omega
        (arith, used_pos t (get_or t y 0) e.coded, below_lt t y (length t) e.under)) in
        lt-ltb 0 (longest t) (omega (arith, long, e.coded)) ∙ sym (lt-ltb _ _ e.room-is)

-- a code by the room alone
pub by_room : (t : List ℕ) → all_fit t (length t) ≡ true → is_code t ≡ both (leb (room t (length t)) 65536) (ltb 0 (room t (length t)))
by_room t e = rw (e, longest_by_room t (fit_short t e))

pub both_true : (b : Bool) → both b true ≡ b
both_true true = refl
both_true false = refl

-- ---- summed one after the other

fit_same : (t : List ℕ) (n : ℕ) → get_or t n 0 ≤ 16 → all_fit t (n + 1) ≡ all_fit t n
unfolding all_fit
fit_same t n h = rw (add-one n) (simp (le-leb _ _ h) (both_true (all_fit t n)))

pub sums_none : (t : List ℕ) → Sums t 0 0
sums_none t = record { fits = λ _. sym (room-none t); long = λ e. absurd (never (sym (fit_none t) ∙ e)); few = omega arith }

pub sums_more : (t : List ℕ) (n s r : ℕ) → Sums t n s → r ≡ share_by (get_or t n 0) → r ≤ 65537 → Sums t (n + 1) (s + r)
sums_more t n s r u e h = go (dec_le (get_or t n 0) 16)
  where
    go : Dec (get_or t n 0 ≤ 16) → Sums t (n + 1) (s + r)
    go (yes a) =
        let is : r ≡ share_of (get_or t n 0) = e ∙ simp (le-ltb _ _ a) in
        record {
          fits = λ f. ap₂ (λ (x y : ℕ). x + y) (u.fits (sym (fit_same t n a) ∙ f)) is ∙ sym (room-more t n);
          long = λ f. omega (arith, u.long (sym (fit_same t n a) ∙ f));
          few = omega (arith, u.few);
        }
    go (no a) =
        let over : 16 < get_or t n 0 = omega arith in
        let is : r ≡ 65537 = e ∙ simp (lt-ltb _ _ over) in
        record {
          fits = λ f. absurd (never (sym f ∙ fit_false t (n + 1) n (omega arith) over));
          long = λ f. omega arith;
          few = omega (arith, u.few);
        }

sums_skip : (t : List ℕ) (s n : ℕ) → get_or t n 0 ≡ 0 → Sums t n s → Sums t (n + 1) s
sums_skip t s n z u =
    let same = fit_same t n (omega arith) in
    record { fits = λ f. u.fits (sym same ∙ f) ∙ sym (room-skip t n z); long = λ f. u.long (sym same ∙ f); few = omega (arith, u.few) }

pub sums_pass : (t : List ℕ) (y z s : ℕ) → Passed t y z → Sums t y s → Sums t z s
sums_pass t y z s n = passing t (λ (k : ℕ). Sums t k s) y z n (sums_skip t s)

pub code_sums : (t : List ℕ) (s : ℕ) → Sums t (length t) s → is_code t ≡ both (leb s 65536) (ltb 0 s)
code_sums t s u = go (all_fit t (length t)) refl
  where
    go : (b : Bool) → all_fit t (length t) ≡ b → is_code t ≡ both (leb s 65536) (ltb 0 s)
    go true e = by_room t e ∙ ap (λ (x : ℕ). both (leb x 65536) (ltb 0 x)) (sym (u.fits e))
    go false e = rw (e, lt-leb s 65536 (u.long e))
