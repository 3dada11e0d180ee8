-- A reading that is served the symbols of a list, each in the code that it wants, and answers at the end of it: what holds of every such
-- reading.
use Prim.Native.Nat.{ℕ, zero, suc, ◌+◌, ◌*◌, ◌-◌, ◌/◌, ◌%◌, ◌≤◌, ◌<◌}
use mathlib.Core.Path.{◌≡◌, refl, sym, ap, subst, ◌∙◌}
use mathlib.Core.List.{List, [], ◌∷◌, ◌++◌}
use native.Mathlib.Omega.{arith}
use native.Mathlib.Nat.{add_assoc}
use lib.ListN.{length, get_or, length-append, get_or-append}
use native.Mathlib.Decide.{dec_lt}
use lib.Seq.{get_or-append-add}
use Rattle.crn_format.specs.Bits.{bit_at, bit_count, spelled}
use Rattle.crn_format.specs.Codes.{code_of, Begins}
use Rattle.crn_format.specs.Reading.{a_symbol, a_number, Reading, answer, refuse, want, mark, next, got, then, run, from_script}
use Rattle.crn_format.specs.Script.{Stands, width, Laid, bits_of, written, laid_out, Writable, AllWritable, Starts}
use Rattle.crn_format.proofs.Drawing.{bit_lt}
use Rattle.crn_format.proofs.Writing.{long}
use Rattle.crn_laws.specs.Scripts.{Sent, symbols, bits, AllCoded}

unfoldable pub Follows : {A : Type 0} → Reading A → List Sent → A → Type 0
Follows (answer b) [] a = b ≡ a
Follows (answer b) (s ∷ ss) a = ⊥
Follows (refuse n) ss a = ⊥
Follows (want (a_symbol ls) f) [] a = ⊥
Follows (want (a_symbol ls) f) (s ∷ ss) a = (s.code ≡ ls) × Follows (f s.symbol) ss a
Follows (want (a_number n) f) ss a = ⊥
Follows (mark m) ss a = Follows m ss a

-- one reading and then another
pub follow_next : {A B : Type 0} (m : Reading A) (k : A → Reading B) (ss ts : List Sent) (a : A) (b : B) → Follows m ss a → Follows (k a) ts
    b
    → Follows (next m k) (ss ++ ts) b
unfolding Follows next
follow_next (answer c) k [] ts a b h g = subst (λ x. Follows (k x) ts b) (sym h) g
follow_next (answer c) k (s ∷ ss) ts a b h g = absurd h
follow_next (refuse n) k ss ts a b h g = absurd h
follow_next (want (a_symbol ls) f) k [] ts a b h g = absurd h
follow_next (want (a_symbol ls) f) k (s ∷ ss) ts a b h g = (h.0, follow_next (f s.symbol) k ss ts a b h.1 g)
follow_next (want (a_number n) f) k ss ts a b h g = absurd h
follow_next (mark m) k ss ts a b h g = follow_next m k ss ts a b h g

-- its symbols are a script that is accepted to its end
pub follow_run : {A : Type 0} (m : Reading A) (ss : List Sent) (a : A) → Follows m ss a → run from_script m (symbols ss) ≡ got a []
unfolding Follows run then from_script symbols
follow_run (answer b) [] a h = ap (λ x. got x []) h
follow_run (answer b) (s ∷ ss) a h = absurd h
follow_run (refuse n) ss a h = absurd h
follow_run (want (a_symbol ls) f) [] a h = absurd h
follow_run (want (a_symbol ls) f) (s ∷ ss) a h = follow_run (f s.symbol) ss a h.1
follow_run (want (a_number n) f) ss a h = absurd h
follow_run (mark m) ss a h = follow_run m ss a h

-- their codes are what is laid out for it
pub follow_bits : {A : Type 0} (m : Reading A) (ss : List Sent) (a : A) → Follows m ss a → laid_out m (symbols ss) ≡ bits ss
unfolding Follows laid_out written symbols bits
follow_bits (answer b) [] a h = refl
follow_bits (answer b) (s ∷ ss) a h = absurd h
follow_bits (refuse n) ss a h = absurd h
follow_bits (want (a_symbol ls) f) [] a h = absurd h
follow_bits (want (a_symbol ls) f) (s ∷ ss) a h =
    ap (λ (x : List ℕ). bits_of (get_or ls s.symbol 0) (code_of ls s.symbol) ++ x) (follow_bits (f s.symbol) ss a h.1)
    ∙ ap (λ (x : List ℕ). bits_of (get_or x s.symbol 0) (code_of x s.symbol) ++ bits ss) (sym h.0)
follow_bits (want (a_number n) f) ss a h = absurd h
follow_bits (mark m) ss a h = follow_bits m ss a h

-- ---- symbols that can be written

unfoldable pub AllIn : List Sent → Type 0
AllIn [] = Unit {0}
AllIn (s ∷ more) = Writable (a_symbol s.code) s.symbol × AllIn more

pub follow_writable : {A : Type 0} (m : Reading A) (ss : List Sent) (a : A) → Follows m ss a → AllIn ss → AllWritable m (symbols ss)
unfolding Follows AllWritable AllIn symbols
follow_writable (answer b) ss a h w = tt
follow_writable (refuse n) ss a h w = absurd h
follow_writable (want (a_symbol ls) f) [] a h w = absurd h
follow_writable (want (a_symbol ls) f) (s ∷ ss) a h w =
    (subst (λ (x : List ℕ). Writable (a_symbol x) s.symbol) h.0 w.0, follow_writable (f s.symbol) ss a h.1 w.1)
follow_writable (want (a_number n) f) ss a h w = absurd h
follow_writable (mark m) ss a h w = follow_writable m ss a h w

-- ---- what stands in the bits begins them

joined : (seg : List ℕ) (p : ℕ) (a b : List ℕ) → Starts seg p a → Starts seg (p + length a) b → Starts seg p (a ++ b)
joined seg p a b h g =
    record { fits = omega (arith, g.fits, length-append a b); same = λ i l. at i l (dec_lt i (length a)) }
  where
    at : (i : ℕ) → i < length (a ++ b) → Dec (i < length a) → bit_at seg (p + i) ≡ get_or (a ++ b) i 0
    at i l (yes t) = h.same i t ∙ sym (get_or-append a b 0 i t)
    at i l (no t) =
        let e : length a + (i - length a) ≡ i = omega arith in
        rw (← e)
        (ap (λ (k : ℕ). bit_at seg k) (sym (add_assoc p (length a) (i - length a)))
        ∙ g.same (i - length a) (omega (arith, length-append a b))
        ∙ sym (get_or-append-add a b (i - length a) 0))

one_bit : (seg : List ℕ) (p q : ℕ) → q ≡ p → p < bit_count seg → Starts seg q (bit_at seg p ∷ [])
one_bit seg p q e h =
    record {
      fits = omega arith;
      same = λ i l. let z : i ≡ 0 = omega arith in let f : q + 0 ≡ p = omega arith in rw z (ap (λ (k : ℕ). bit_at seg k) f);
    }

spelt : (seg : List ℕ) (p n : ℕ) → p + n ≤ bit_count seg → Starts seg p (bits_of n (spelled seg p n))
unfolding spelled bits_of
spelt seg p zero h = record { fits = omega arith; same = λ i l. absurd (omega arith) }
spelt seg p (suc n) h =
    let e : (2 * spelled seg p n + bit_at seg (p + n)) / 2 ≡ spelled seg p n = omega (arith, bit_lt seg (p + n)) in
    let f : (2 * spelled seg p n + bit_at seg (p + n)) % 2 ≡ bit_at seg (p + n) = omega (arith, bit_lt seg (p + n)) in
    rw (e, f) (joined seg p (bits_of n (spelled seg p n)) (bit_at seg (p + n) ∷ []) (spelt seg p n (omega arith))
    (one_bit seg (p + n) (p + length (bits_of n (spelled seg p n))) (omega (arith, long n (spelled seg p n))) (omega arith)))

begun : (seg ls : List ℕ) (p y : ℕ) → Begins ls seg p y → Starts seg p (bits_of (get_or ls y 0) (code_of ls y))
begun seg ls p y h = rw h.same at (spelt seg p (get_or ls y 0) h.fits)

-- what a reading follows, where it stands in the bits from p on: the codes begin the bits there, and each symbol has one
pub follow_starts : {A : Type 0} (seg : List ℕ) (m : Reading A) (ss : List Sent) (a : A) (p : ℕ) → Follows m ss a → Laid seg m (symbols ss)
    p
    → p ≤ bit_count seg → Starts seg p (bits ss) × AllCoded ss
unfolding Follows Laid Stands width symbols bits AllCoded
follow_starts seg (answer b) [] a p h l f = (record { fits = omega arith; same = λ i l. absurd (omega arith) }, tt)
follow_starts seg (answer b) (s ∷ ss) a p h l f = absurd h
follow_starts seg (refuse n) ss a p h l f = absurd h
follow_starts seg (want (a_symbol ls) g) [] a p h l f = absurd h
follow_starts seg (want (a_symbol ls) g) (s ∷ ss) a p h l f =
    let b = subst (λ (x : List ℕ). Begins x seg p s.symbol) (sym h.0) l.0.0 in
    let more = follow_starts seg (g s.symbol) ss a (p + get_or ls s.symbol 0) h.1 l.1 l.0.0.fits in
    let n : length (bits_of (get_or s.code s.symbol 0) (code_of s.code s.symbol)) ≡ get_or ls s.symbol 0
    = long (get_or s.code s.symbol 0) (code_of s.code s.symbol) ∙ ap (λ (x : List ℕ). get_or x s.symbol 0) h.0 in (
      joined seg p (bits_of (get_or s.code s.symbol 0) (code_of s.code s.symbol)) (bits ss) (begun seg s.code p s.symbol b)
          (subst (λ (x : ℕ). Starts seg (p + x) (bits ss)) (sym n) more.0),
      (record { known = b.known; coded = b.coded }, more.1),
    )
follow_starts seg (want (a_number n) g) ss a p h l f = absurd h
follow_starts seg (mark m) ss a p h l f = follow_starts seg m ss a p h l f
