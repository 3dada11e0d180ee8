-- What the definition of opening promises, of a call that answers and leaves what it says: how it ends, that what it accepts is ready
-- for its levels, and that palettes as long as a host is told are long enough.
use Prim.Native.Nat.{ℕ, zero, suc, ◌+◌, ◌*◌, ◌-◌, ◌≤◌}
use mathlib.Core.Bool.{Bool, true, false, false≢true}
use mathlib.Core.Logic.{inl, inr}
use mathlib.Core.List.{List, [], ◌++◌}
use mathlib.Core.Path.{◌≡◌, refl, sym, ap, ◌∙◌}
use native.Mathlib.Omega.{arith}
use lib.ListN.{length, replicate, length-append, length-replicate}
use lib.Seq.{take-append_seam}
use lib.Dec.{leb, ltb, eqb}
use borrow.Author.Tests.{leb-true, ltb-false, le-leb, lt-ltb}
use Rattle.crn_format.specs.Choice.{pick, either}
use Rattle.crn_format.specs.Limits.{max_symbols, max_side, max_levels}
use Rattle.crn_format.specs.Codes.{is_code}
use Rattle.crn_format.specs.Reading.{start, from_bits}
use Rattle.crn_format.specs.Tables.{length_order, sent_lengths, run_of, lengths_from, checked, coded, counted, table}
use Rattle.crn_format.specs.Header.{kind_of, known, has_color, has_alpha, between, entries_fit, header_of, within_limits, sizes_hold, signed}
use Rattle.crn_format.specs.Opening.{Palettes, Opening, opened, shut, Lengths, present, plane_tables, sent_tables, table_of, tables_of, segments_stand, room_for, segment, streams, opening}
use Rattle.crn_format.specs.Unpacking.{table_holds, tables_hold, palettes_reach}
use Rattle.crn_format.specs.declared.Part.{Part}
use Rattle.crn_format.specs.declared.Header.{Header}
use Rattle.crn_format.proofs.Choices.{both_hold}
use Rattle.crn_format.proofs.Answers.{All, run-all, all-next, Any, all_any, all-pick, all-answer}
use Rattle.crn_opening.specs.Opens.{Opened, to_opened, buffers_of}
use Rattle.crunch_abi.proofs.Enough.{palettes_fit}
use Rattle.crn_laws_total.specs.Leaves.{Beyond}
use Rattle.crn_laws_total.specs.Refusals.{among, in_streams, opening_refusals}
use Rattle.crn_laws_total.specs.Ends.{Open, OpeningEnds}
use Rattle.crn_laws_total.proofs.Numbers.{not-zero}
use Rattle.crn_laws_total.proofs.Opening.{streams-through, opening-ends}
use Rattle.crn_promises.specs.Calls.{OpenCall}
use Rattle.crn_promises.specs.Promises.{OpenTotal, OpenSame, OpenReady, OpenTold}

-- ---- the tables: none, or lengths that make a code, of 8,192 symbols at most

pub record Good (ls : List ℕ) : Type 0 where
  pub few : length ls ≤ max_symbols
  pub code : either (eqb (length ls) 0) (is_code ls) ≡ true

either_true : (a b : Bool) → b ≡ true → either a b ≡ true
either_true true b e = refl
either_true false b e = e

none : Good []
none = record { few = omega arith; code = refl }

module _ (count : ℕ) where
  abbrev Few : List ℕ → Type 0
  Few ls = length ls ≤ count

  lengths-few : (cl : List ℕ) (turns last : ℕ) (ls : List ℕ) → length ls ≤ count → All Few (lengths_from cl count turns last ls)
  unfolding lengths_from All
  lengths-few cl zero last ls h = h
  lengths-few cl (suc turns) last ls h =
      all-pick Few (leb count (length ls)) _ _ (λ _. h)
      (λ _. λ s. all-next Any Few (run_of last s) _ (all_any (run_of last s))
      (λ r _. all-pick Few (ltb count (length ls + r.0)) _ _ (λ _. tt)
      (λ f. lengths-few cl turns r.1 (ls ++ replicate r.0 r.1)
      (omega (arith, length-append ls (replicate r.0 r.1), length-replicate r.0 r.1, ltb-false count (length ls + r.0) f)))))

  module _ (fits : count ≤ max_symbols) where
    checked_good : (ls : List ℕ) → length ls ≤ count → All Good (checked ls)
    unfolding checked All
    checked_good ls h =
        all-pick Good (is_code ls) _ _ (λ e. record { few = omega arith; code = either_true (eqb (length ls) 0) (is_code ls) e }) (λ _. tt)

    coded_good : (n : ℕ) → All Good (coded count n)
    unfolding coded
    coded_good n =
        all-next Any Good (sent_lengths n length_order (replicate 21 0)) _ (all_any _)
        (λ cl _. all-next Any Good (checked cl) _ (all_any (checked cl))
        (λ _ _. all-next Few Good (lengths_from cl count count 0 []) checked (lengths-few cl count 0 [] (omega arith)) checked_good))

    counted_good : All Good (counted count)
    unfolding counted All
    counted_good = λ n. all-pick Good (either (eqb n 0) (ltb 21 n)) _ _ (λ _. tt) (λ _. coded_good n)

table_good : All Good table
unfolding table All
table_good =
    λ count. all-pick Good (eqb count 0) _ _ (λ _. none)
    (λ _. all-pick Good (ltb max_symbols count) _ _ (λ _. tt) (λ f. counted_good count (ltb-false max_symbols count f)))

pub record Goods (t : Lengths) : Type 0 where
  pub chunk : Good t.chunk
  pub color_ends : Good t.color_ends
  pub color_sels : Good t.color_sels
  pub alpha_ends : Good t.alpha_ends
  pub alpha_sels : Good t.alpha_sels

abbrev Pair : List ℕ × List ℕ → Type 0
Pair p = Good p.0 × Good p.1

plane_good : (there : Bool) → All Pair (plane_tables there)
unfolding plane_tables
plane_good there =
    all-pick Pair there _ _
    (λ _. all-next Good Pair table _ table_good (λ e ge. all-next Good Pair table _ table_good (λ s gs. all-answer Pair (ge, gs))))
    (λ _. all-answer Pair (none, none))

sent_good : (h : Header) → All Goods (sent_tables h)
unfolding sent_tables
sent_good h =
    all-next Good Goods table _ table_good
    (λ chunk gc. all-next Pair Goods (plane_tables (present h.color_endpoints)) _ (plane_good (present h.color_endpoints))
    (λ color gl. all-next Pair Goods (plane_tables (present h.alpha_endpoints)) _ (plane_good (present h.alpha_endpoints))
    (λ alpha ga. all-answer Goods (record { chunk = gc; color_ends = gl.0; color_sels = gl.1; alpha_ends = ga.0; alpha_sels = ga.1 }))))

holds : (ls : List ℕ) → Good ls → table_holds (table_of ls) ≡ true
holds ls g =
    simp (
      le-leb (length ls) max_symbols g.few,
      ap (λ (l : List ℕ). either (eqb (length ls) 0) (is_code l)) (take-append_seam ls (replicate (max_symbols - length ls) 0)) ∙ g.code,
    )

tables_hold_lem : (t : Lengths) → Goods t → tables_hold (tables_of t) ≡ true
unfolding tables_hold tables_of
tables_hold_lem t g =
    simp (
      holds t.chunk g.chunk,
      holds t.color_ends g.color_ends,
      holds t.color_sels g.color_sels,
      holds t.alpha_ends g.alpha_ends,
      holds t.alpha_sels g.alpha_sels,
    )

-- ---- through the streams

-- what is opened has a header within its limits and tables that hold; and 5 is the refusal of a palette that is too short, and no other's
abbrev Kept : Bool → Opening → Type 0
Kept room (opened r after) = (within_limits r.header ≡ true) × (tables_hold r.tables ≡ true)
Kept room (shut n bit after) = room ≡ true → n ≡ 5 → ⊥

not_five : (n : ℕ) → among n in_streams ≡ true → n ≡ 5 → ⊥
not_five n e z = false≢true (ap (λ (k : ℕ). among k in_streams) (sym z) ∙ e)

opening-kept : (file : List ℕ) (lent : Palettes) → Kept (room_for (header_of file) lent) (opening file lent)
unfolding opening
opening-kept file lent = by (signed file) (within_limits h) (sizes_hold file h) (segments_stand file h) (room_for h lent) refl refl
  where
    h : Header
    h = header_of file

    by : (a b c d e : Bool) → within_limits h ≡ b → room_for h lent ≡ e
        → Kept e (pick a (pick b (pick c (pick d (pick e (streams file lent h) (shut 5 0 lent)) (shut 4 0 lent)) (shut 3 0 lent))
        (shut 2 0 lent)) (shut 1 0 lent))
    by false b c d e is room = λ _ z. omega arith
    by true false c d e is room = λ _ z. omega arith
    by true true false d e is room = λ _ z. omega arith
    by true true true false e is room = λ _ z. omega arith
    by true true true true false is room = λ no _. false≢true no
    by true true true true true is room =
        streams-through file lent h room (Kept true) (λ n bit stops _. not_five n stops)
        (λ t w e after _. (
          is,
          tables_hold_lem t (run-all (from_bits (segment file h.tables_offset h.tables_size)) Goods
              (sent_tables h) (sent_good h) start e),
        ))

-- ---- the palettes

used : (uses : Bool) (p : Part) → entries_fit uses p ≡ true → uses ≡ true → present p ≡ true
used uses p e is = lt-ltb 0 p.count (leb-true 1 p.count (both_hold (leb 1 p.count) _ (rw is at e)).0)

need : (uses : Bool) (m n : ℕ) → (uses ≡ true → m ≤ n) → pick uses (leb m n) true ≡ true
need true m n h = le-leb m n (h refl)
need false m n h = refl

module _ (h : Header) (lent after : Palettes) (within : within_limits h ≡ true) (o : Open h lent after) where
  entries : (entries_fit (has_color (kind_of h.format)) h.color_endpoints ≡ true)
      × (entries_fit (has_alpha (kind_of h.format)) h.alpha_endpoints ≡ true)
  unfolding within_limits
  entries =
      let p0 = both_hold (between 1 max_side h.width) _ within in
      let p1 = both_hold (between 1 max_side h.height) _ p0.1 in
      let p2 = both_hold (between 1 max_levels h.levels) _ p1.1 in
      let p3 = both_hold (either (eqb h.faces 1) (eqb h.faces 6)) _ p2.1 in
      let p4 = both_hold (known (kind_of h.format)) _ p3.1 in
      let p5 = both_hold (entries_fit (has_color (kind_of h.format)) h.color_endpoints) _ p4.1 in
      let p6 = both_hold (entries_fit (has_color (kind_of h.format)) h.color_selectors) _ p5.1 in
      let p7 = both_hold (entries_fit (has_alpha (kind_of h.format)) h.alpha_endpoints) _ p6.1 in
      (p5.0, p7.0)

  room : {n : ℕ} {b a : List ℕ} → Beyond n b a → n ≤ length a
  room s = omega (arith, s.fits, s.long)

  reaches : palettes_reach h after ≡ true
  unfolding palettes_reach
  reaches =
      simp (
        need colored h.color_endpoints.count (length after.color_ends)
            (λ is. room (o.color.first (used colored h.color_endpoints entries.0 is))),
        need colored h.color_selectors.count (length after.color_sels)
            (λ is. room (o.color.second (used colored h.color_endpoints entries.0 is))),
        need masked h.alpha_endpoints.count (length after.alpha_ends)
            (λ is. room (o.alpha.first (used masked h.alpha_endpoints entries.1 is))),
        need masked (3 * h.alpha_selectors.count) (length after.alpha_sels)
            (λ is. room (o.alpha.second (used masked h.alpha_endpoints entries.1 is))),
      )
    where
      colored : Bool
      colored = has_color (kind_of h.format)

      masked : Bool
      masked = has_alpha (kind_of h.format)

-- ---- the call

module _ (c : OpenCall) (s : OpenSame c) where
  by_ends : (o : Opening) → OpeningEnds c.lent o → c.answer ≡ to_opened o → c.after ≡ buffers_of o → OpenTotal c
  by_ends (opened r after) h p q =
      record {
        number = inl (ap (λ (a : Opened). a.refusal) p);
        accepted = λ _. (ap (λ (a : Opened). a.at) p, rw (p, q) h);
        refused = λ no. absurd (no (ap (λ (a : Opened). a.refusal) p));
      }
  by_ends (shut n bit after) h p q =
      record {
        number = inr (rw p h.number);
        accepted = λ z. absurd (not-zero opening_refusals refl h.number (sym (ap (λ (a : Opened). a.refusal) p) ∙ z));
        refused = λ _. rw (p, q) (refl, h);
      }

  pub open-total : OpenTotal c
  open-total = by_ends (opening c.file c.lent) (opening-ends c.file c.lent) s.answer s.leaves

  by_kept : (o : Opening) → Kept (room_for (header_of c.file) c.lent) o → OpeningEnds c.lent o → c.answer ≡ to_opened o
      → c.after ≡ buffers_of o → OpenReady c
  by_kept (opened r kept) b e p q =
      λ z. rw (p, q) (record { limits = b.0; tables = b.1; palettes = reaches r.header c.lent kept b.0 e })
  by_kept (shut n bit kept) b e p q = λ z. absurd (not-zero opening_refusals refl e.number (sym (ap (λ (x : Opened). x.refusal) p) ∙ z))

  pub open-ready : OpenReady c
  open-ready =
      by_kept (opening c.file c.lent) (opening-kept c.file c.lent) (opening-ends c.file c.lent) s.answer s.leaves

  by_room : (o : Opening) → Kept true o → c.answer ≡ to_opened o → c.answer.refusal ≡ 5 → ⊥
  by_room (opened r kept) b p z = omega (arith, sym (ap (λ (x : Opened). x.refusal) p) ∙ z)
  by_room (shut n bit kept) b p z = b refl (sym (ap (λ (x : Opened). x.refusal) p) ∙ z)

  pub open-told : OpenTold c
  open-told w =
      by_room (opening c.file c.lent)
      (rw (palettes_fit (header_of c.file) c.lent w.color_ends w.color_sels w.alpha_ends w.alpha_sels) at
      (opening-kept c.file c.lent)) s.answer
