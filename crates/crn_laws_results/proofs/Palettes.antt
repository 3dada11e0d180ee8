-- The palettes: the answer and the lent buffer are fixed; so is the table of the alpha selectors' deltas. Selectors are what the lists of
-- the published header give, though they are written by a rule.
use Prim.Native.Nat.{ℕ, zero, suc, ◌+◌, ◌*◌, ◌/◌, ◌%◌}
use mathlib.Core.Path.{◌≡◌, refl, sym, ap, ◌∙◌}
use mathlib.Core.List.{List, [], ◌∷◌}
use native.Mathlib.Omega.{arith}
use lib.ListN.{length, get_or}
use lib.Seq.{ext_get_or, length-take-le}
use contract.Lifetimes.{Lfts}
use Rattle.std.specs.Prelude.{⊤, Ok, Err}
use Rattle.std.specs.Borrow.{Bor, MutBor}
use Rattle.std.specs.declared.result.Result.{Result}
use Rattle.crn_consts.specs.declared.Deltas.{Deltas}
use Rattle.crn_consts.specs.AlphaDeltas.{AllDeltas, alpha_deltas}
use Rattle.crn_consts.proofs.alpha_delta_pairs.Reads as alpha-delta-pairs
use Rattle.crn_format.specs.Reading.{Step, got, refused, Reading, run, from_bits, start}
use Rattle.crn_format.specs.Palettes.{three_words, selectors}
use Rattle.crn_format.specs.declared.Fault.{Fault}
use Rattle.crn_format.proofs.SelectorOrder.{color_list, alpha_list, listed, color-selectors_listed, alpha-selectors_listed}
use Rattle.crn_symbol_codec.specs.declared.Cursor.{Cursor}
use Rattle.crn_code_tables.specs.Receiving.{Received}
use Rattle.crn_palettes.specs.Filling.{Ended, ended, answered, held, Fills}
use Rattle.crn_palettes.specs.Reaching.{held_in, Lengths}
use Rattle.crn_palettes.proofs.receive_lengths.Reads as receive-lengths
use Rattle.crn_palettes.proofs.few.Reads as few
use Rattle.crn_endpoints.proofs.color_endpoints.Reads as color-endpoints
use Rattle.crn_selectors.proofs.color_selectors.Reads as color-selectors
use Rattle.crn_endpoints.proofs.alpha_endpoints.Reads as alpha-endpoints
use Rattle.crn_selectors.proofs.alpha_selectors.Reads as alpha-selectors
use Rattle.crn_laws_results.specs.Settled.{Settled, SettledIf, the_answer, alike}
use Rattle.crn_laws_results.specs.Seen.{sent_seen}
use Rattle.crn_laws_results.proofs.Steps.{got_tells, refused_tells, got_or_refused}
use Rattle.crn_laws_results.proofs.Numbers.{some_number, fault_tells}

-- an answer by numbers tells the answer
ended_tells : (r s : Result ⊤ Fault) → ended r ≡ ended s → r ≡ s
ended_tells (Ok x) (Ok y) h = refl
ended_tells (Ok x) (Err f) h = absurd (some_number f.refusal (sym (ap (λ (z : Ended). z.refusal) h)))
ended_tells (Err e) (Ok y) h = absurd (some_number e.refusal (ap (λ (z : Ended). z.refusal) h))
ended_tells (Err e) (Err f) h =
    λ i. Err (fault_tells e f (ap (λ (z : Ended). z.refusal) h) (ap (λ (z : Ended). z.at) h) i)

fills-settled : {seg : List ℕ} {m : Reading (List ℕ)} {before d e : List ℕ} {r s : Result ⊤ Fault} → Fills seg m before d r
    → Fills seg m before e s
    → ◌≡◌ {A = Result ⊤ Fault × List ℕ} (r, d) (s, e)
fills-settled {r = r} {s = s} p q = λ i. (ended_tells r s (alike p.answer q.answer) i, alike p.holds q.holds i)

pub color_endpoints-settled : Settled {X = Result ⊤ Fault × List ℕ} color-endpoints.Post (λ a r (seg, (count, (out, _))). (r, out.now))
color_endpoints-settled _ _ _ _ _ _ _ p q = fills-settled p q

pub color_selectors-settled : Settled {X = Result ⊤ Fault × List ℕ} color-selectors.Post (λ a r (seg, (count, (out, _))). (r, out.now))
color_selectors-settled _ _ _ _ _ _ _ p q = fills-settled p q

pub alpha_endpoints-settled : Settled {X = Result ⊤ Fault × List ℕ} alpha-endpoints.Post (λ a r (seg, (count, (out, _))). (r, out.now))
alpha_endpoints-settled _ _ _ _ _ _ _ p q = fills-settled p q

pub alpha_selectors-settled : Settled {X = Result ⊤ Fault × List ℕ} alpha-selectors.Post (λ a r (seg, (count, (out, _))). (r, out.now))
alpha_selectors-settled _ _ _ _ _ _ _ p q = fills-settled p q

-- ---- selectors by the lists

-- a palette that another reading gives as well
as_well : {seg before after : List ℕ} {r : Result ⊤ Fault} (m n : Reading (List ℕ))
    → run (from_bits seg) m start ≡ run (from_bits seg) n start
    → Fills seg m before after r → Fills seg n before after r
as_well {before = before} m n e p = record { answer = p.answer ∙ ap answered e; holds = p.holds ∙ ap (held before) e }

-- what reading a palette takes: a segment, a count of entries, a lent buffer
abbrev Lent : Type 0
Lent = Bor (List ℕ) × (ℕ × (MutBor (List ℕ) × Unit {0}))

-- every call that ends as this contract says answers and leaves what the reading gives
abbrev Filling : (Lfts 2 → Lent → Result ⊤ Fault → Lent → Type 0) → (ℕ → Reading (List ℕ)) → Type 0
Filling post m =
    (κ : Lfts 2) (a : Lent) (r : Result ⊤ Fault) (e : Lent) → post κ a r e → Fills a.0.now (m a.1.0) a.1.1.0.now e.1.1.0.now r

pub color_selectors-by_list : Filling color-selectors.Post (selectors 3 (λ vs. listed color_list 2 vs 16 ∷ []))
color_selectors-by_list κ (seg, (count, _)) r e p = as_well _ _ (color-selectors_listed (from_bits seg.now) count start) p

pub alpha_selectors-by_list : Filling alpha-selectors.Post (selectors 7 (λ vs. three_words (listed alpha_list 3 vs 16)))
alpha_selectors-by_list κ (seg, (count, _)) r e p = as_well _ _ (alpha-selectors_listed (from_bits seg.now) count start) p

-- ---- a palette's code table: how receiving it ends, and all of the lent array

-- the count is that of the lengths
counted : {seg : List ℕ} {c d : Cursor} {n : ℕ} {lent : List ℕ} (p : Lengths seg c lent (Ok (n, d))) → n ≡ length p.lengths
counted {n = n} {lent = lent} p = sym (length-take-le n lent p.codes.within) ∙ ap length p.same

sent_tells : {seg : List ℕ} {c : Cursor} {d e : List ℕ} (r s : Received) → Lengths seg c d r → Lengths seg c e s
    → ◌≡◌ {A = Step ℕ ℕ × List ℕ} (sent_seen r, d) (sent_seen s, e)
sent_tells {d = d} {e = e} (Ok (n, x)) (Ok (m, y)) p q =
    let both = got_tells (sym (p.reads 0).same ∙ (q.reads 0).same) in
    let count : n ≡ m = counted p ∙ ap length both.0 ∙ sym (counted q) in
    let lent : d ≡ e = p.held ∙ ap (held_in (Ok (n, x))) both.0 ∙ sym q.held in
    λ i. (got (count i) (both.1 i).at, lent i)
sent_tells (Ok (n, x)) (Err f) p q = absurd (got_or_refused (sym (p.reads 0).same ∙ (q.reads 0).same))
sent_tells (Err f) (Ok (m, y)) p q = absurd (got_or_refused (sym (q.reads 0).same ∙ (p.reads 0).same))
sent_tells (Err f) (Err g) p q =
    let both = refused_tells (sym (p.reads 0).same ∙ (q.reads 0).same) in
    λ i. (refused (both.0 i) (both.1 i).at, alike p.held q.held i)

pub receive_lengths-settled : Settled {X = Step ℕ ℕ × List ℕ} receive-lengths.Post
    (λ a r (seg, (c, (lengths, _))). (sent_seen r, lengths.now))
receive_lengths-settled _ _ _ r s _ _ p q = sent_tells r s p q

pub few-settled : Settled few.Post the_answer
few-settled _ _ _ _ _ _ _ p q = alike p q

-- ---- the table of pairs, which has 450 bytes as its type says

-- the pair of symbol s
pair_fixed : {t : List ℕ} → AllDeltas t → (s : ℕ) → (get_or t (2 * s) 0 ≡ (alpha_deltas s).first) ×
    (get_or t (2 * s + 1) 0 ≡ (alpha_deltas s).second)
pair_fixed {t} h s =
    let d = (h.each s (record { first = get_or t (2 * s) 0; second = get_or t (2 * s + 1) 0 }) (record { value = refl })).rule in
    (ap (λ (x : Deltas). x.first) d, ap (λ (x : Deltas). x.second) d)

byte_fixed : {t u : List ℕ} → AllDeltas t → AllDeltas u → (i odd : ℕ) → i % 2 ≡ odd → get_or t i 0 ≡ get_or u i 0
byte_fixed h g i zero e =
    let at : i ≡ 2 * (i / 2) = omega arith in rw at (alike (pair_fixed h (i / 2)).0 (pair_fixed g (i / 2)).0)
byte_fixed h g i (suc zero) e =
    let at : i ≡ 2 * (i / 2) + 1 = omega arith in rw at (alike (pair_fixed h (i / 2)).1 (pair_fixed g (i / 2)).1)
byte_fixed h g i (suc (suc n)) e = let z : ⊥ = omega arith in absurd z

pub alpha_delta_pairs-settled : SettledIf (λ a t. length t ≡ 450) alpha-delta-pairs.Post the_answer
alpha_delta_pairs-settled _ _ _ t u _ _ long₁ long₂ p q = ext_get_or 0 t u (alike long₁ long₂) (λ i _. byte_fixed p q i (i % 2) refl)
