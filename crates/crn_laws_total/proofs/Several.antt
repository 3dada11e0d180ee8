-- Levels one after another: each that is accepted is answered and stands as by a call of its own; the first that is refused is the last.
use Prim.Native.Nat.{ℕ, zero, suc, ◌+◌, ◌-◌, ◌≤◌, ◌<◌}
use mathlib.Core.Bool.{true}
use mathlib.Core.Logic.{◌⊎◌, inl, inr, ⊎_elim}
use mathlib.Core.List.{List, ◌++◌}
use mathlib.Core.Path.{◌≡◌, refl, sym, ap, subst, ◌∙◌}
use native.Mathlib.Omega.{arith}
use native.Mathlib.Nat.{add-zero}
use lib.ListN.{length, take, drop, length-append, length-take, length-drop}
use lib.Seq.{length-take-le, take-take, take-add, drop-drop, take_at, drop_at}
use borrow.Author.Tests.{ltb-true}
use Rattle.crn_format.specs.Opening.{Palettes}
use Rattle.crn_format.specs.Unpacking.{Unpacking, unpacked, declined, level_segment}
use Rattle.crn_format.specs.declared.Record.{Record}
use Rattle.crn_format.specs.declared.Grid.{Grid}
use Rattle.crn_sizes.specs.Sizes.{level_sizes}
use Rattle.crn_levels.specs.Several.{Far, Ended, begun, onward, several_from, several_of}
use Rattle.crn_levels.specs.Several as several
use Rattle.crn_levels.specs.declared.Several.{Several}
use Rattle.crn_laws_total.specs.Refusals.{among, before_draws, in_draws, level_refusals}
use Rattle.crn_laws_total.specs.Ends.{Declined, Accepted, grid_at, closely, bytes_of, behind, own_of, SeveralEnds}
use Rattle.crn_laws_total.proofs.Numbers.{among-either, not-zero}
use Rattle.crn_laws_total.proofs.Bytes.{behind-same}
use Rattle.crn_laws_total.proofs.Close.{accepted_so, declined_so, passed, there, lies_low, alone}

-- ---- a refusal keeps the length too, and draws no more than there is

module _ {r : Record} {seg : List ℕ} {g : Grid} {budget n symbols bit : ℕ} {b a : List ℕ}
    (d : Declined r seg g budget n symbols bit b a) where
  when : (among n before_draws ≡ true) ⊎ (among n in_draws ≡ true)
  when = among-either n before_draws in_draws d.number

  declined-long : length a ≡ length b
  declined-long = ⊎_elim (λ e. ap length (d.untouched e).0) (λ e. (d.stopped e).wiped.long) when

  declined-few : symbols ≤ budget
  declined-few = ⊎_elim (λ e. omega (arith, (d.untouched e).1.0)) (λ e. omega (arith, (d.stopped e).drawn)) when

-- ---- one that is accepted, and those after it

-- what is of a level, and of those after it
abbrev first_then : ℕ → (ℕ → ℕ) → ℕ → ℕ
first_then u us zero = u
first_then u us (suc k) = us k

-- the answer of them all
abbrev with_first : ℕ → ℕ → Several → Several
with_first symbols cutouts s =
    record { refusal = s.refusal; at = s.at; levels = suc s.levels; symbols = symbols + s.symbols; cutouts = cutouts + s.cutouts }

module _ (r : Record) (file : List ℕ) (p : Palettes) where
  abbrev bytes : ℕ → ℕ
  bytes n = (level_sizes r.header n).bytes

  module _ (n : ℕ) {budget end : ℕ} (left : ℕ) (b : List ℕ) {d : List ℕ} (a : List ℕ) {symbols cutouts : ℕ}
      (is : closely r file p n budget b ≡ unpacked symbols cutouts d) (rest : left + symbols ≡ budget)
      (kept : take (bytes n) a ≡ take (bytes n) d) {s : Several}
      (more : SeveralEnds r file p (n + 1) left end (drop (bytes n) d) (drop (bytes n) a) s) where
    whole : Accepted r (level_segment file r.header n) p (grid_at r.header n) budget symbols cutouts b d
    whole = accepted_so r file p n budget b is

    same : drop (bytes n) d ≡ drop (bytes n) b
    same = behind-same (bytes n) (lies_low r file p n budget b is) whole.leaves

    before : (k : ℕ) → behind r.header (n + 1) k (drop (bytes n) d) ≡ behind r.header n (suc k) b
    before k = ap (behind r.header (n + 1) k) same ∙ drop-drop (bytes_of r.header (n + 1) k) (bytes n) b

    after : (k : ℕ) → behind r.header (n + 1) k (drop (bytes n) a) ≡ behind r.header n (suc k) a
    after k = drop-drop (bytes_of r.header (n + 1) k) (bytes n) a

    next : (k : ℕ) → n + 1 + k ≡ n + suc k
    next k = omega arith

    abbrev budgets : ℕ → ℕ
    budgets = first_then budget more.budgets

    spent : (k : ℕ) → k < suc s.levels → more.budgets k + first_then symbols more.symbols k ≡ budgets k
    spent zero h = omega (arith, more.given)
    spent (suc k) h = more.spent k (omega arith)

    calls : (k : ℕ) → k < suc s.levels
        → closely r file p (n + k) (budgets k) (own_of r.header n k b)
        ≡ unpacked (first_then symbols more.symbols k) (first_then cutouts more.cutouts k) (own_of r.header n k a)
    calls zero h = rw (add-zero n, kept) (alone r file p n budget b is)
    calls (suc k) h = rw (sym (next k), sym (before k), sym (after k)) (more.calls k (omega arith))

    refusing : (s.refusal ≡ 0 → ⊥)
        → closely r file p (n + suc s.levels) (more.budgets s.levels) (behind r.header n (suc s.levels) b)
        ≡ declined s.refusal more.tried s.at (behind r.header n (suc s.levels) a)
    refusing z = rw (sym (next s.levels), sym (before s.levels), sym (after s.levels)) (more.refusing z)

    long : length a ≡ length b
    long =
        omega (
          arith,
          more.long,
          length-drop (bytes n) a,
          length-drop (bytes n) d,
          whole.leaves.long,
          ap length kept,
          length-take (bytes n) a,
          length-take (bytes n) d,
        )

    one_more : SeveralEnds r file p n budget end b a (with_first symbols cutouts s)
    one_more =
        record {
          number = more.number;
          long = long;
          budgets = budgets;
          symbols = first_then symbols more.symbols;
          cutouts = first_then cutouts more.cutouts;
          given = refl;
          spent = spent;
          calls = calls;
          stand = λ k h. accepted_so r file p (n + k) (budgets k) (own_of r.header n k b) (calls k h);
          tried = more.tried;
          last = more.last;
          drawn = omega (arith, more.drawn);
          counted = ap (λ (x : ℕ). cutouts + x) more.counted;
          accepted = λ z. let m = more.accepted z in
              (sym (next s.levels) ∙ m.0, (sym (after s.levels) ∙ m.1.0 ∙ before s.levels, m.1.1));
          refusing = refusing;
          refused = λ z.
              declined_so r file p (n + suc s.levels) (more.budgets s.levels) (behind r.header n (suc s.levels) b)
              (refusing z);
        }

-- ---- all of them, from how far it has come

-- the middle of a list
mid : (n m : ℕ) (xs : List ℕ) → n ≤ length xs → drop n (take (n + m) xs) ≡ take m (drop n xs)
mid n m xs h = ap (drop n) (take-add n m xs) ∙ drop_at (take n xs) (take m (drop n xs)) n (length-take-le n xs h)

module _ (r : Record) (file : List ℕ) (p : Palettes) where
  -- what comes is added to what was there
  record Going (f : Far) (dst : List ℕ) (e : Ended) : Type 0 where
    more : Several
    refusal : e.answer.refusal ≡ more.refusal
    at : e.answer.at ≡ more.at
    levels : e.answer.levels ≡ f.levels + more.levels
    symbols : e.answer.symbols ≡ f.symbols + more.symbols
    cutouts : e.answer.cutouts ≡ f.cutouts + more.cutouts
    before : take f.from e.after ≡ take f.from dst
    ends : SeveralEnds r file p f.level f.left e.left (drop f.from dst) (drop f.from e.after) more

  module _ (f : Far) (dst : List ℕ) (fits : f.from ≤ length dst) where
    abbrev own : ℕ
    own = (level_sizes r.header f.level).bytes

    abbrev lent : List ℕ
    lent = drop f.from dst

    abbrev answered : Unpacking
    answered = closely r file p f.level f.left lent

    front : (rest : List ℕ) → take f.from (take f.from dst ++ rest) ≡ take f.from dst
    front rest = take_at (take f.from dst) rest f.from (length-take-le f.from dst fits)

    back : (rest : List ℕ) → drop f.from (take f.from dst ++ rest) ≡ rest
    back rest = drop_at (take f.from dst) rest f.from (length-take-le f.from dst fits)

    none_more : f.level ≡ r.header.levels → Going f dst (several.through f dst)
    none_more all =
        record {
          more = record { refusal = 0; at = 0; levels = 0; symbols = 0; cutouts = 0 };
          refusal = refl;
          at = refl;
          levels = sym (add-zero f.levels);
          symbols = sym (add-zero f.symbols);
          cutouts = sym (add-zero f.cutouts);
          before = refl;
          ends = record {
            number = inl refl;
            long = refl;
            budgets = λ _. f.left;
            symbols = λ _. 0;
            cutouts = λ _. 0;
            given = refl;
            spent = λ k h. absurd (omega arith);
            calls = λ k h. absurd (omega arith);
            stand = λ k h. absurd (omega arith);
            tried = 0;
            last = omega arith;
            drawn = omega arith;
            counted = refl;
            accepted = λ _. (add-zero f.level ∙ all, (refl, (refl, refl)));
            refusing = λ no. absurd (no refl);
            refused = λ no. absurd (no refl);
          };
        }

    refused-one : (next : Far → List ℕ → Ended) {k s bit : ℕ} {rest : List ℕ} → answered ≡ declined k s bit rest
        → Going f dst (onward f own dst next (declined k s bit rest))
    unfolding onward
    refused-one next {k} {s} {bit} {rest} is =
        let d : Declined r (level_segment file r.header f.level) (grid_at r.header f.level) f.left k s bit lent rest =
        declined_so r file p f.level f.left lent is in
        let few : s ≤ f.left = declined-few d in
        record {
          more = record { refusal = k; at = bit; levels = 0; symbols = s; cutouts = 0 };
          refusal = refl;
          at = refl;
          levels = sym (add-zero f.levels);
          symbols = refl;
          cutouts = sym (add-zero f.cutouts);
          before = front rest;
          ends = rw (back rest) (record {
            number = inr d.number;
            long = declined-long d;
            budgets = λ _. f.left;
            symbols = λ _. 0;
            cutouts = λ _. 0;
            given = refl;
            spent = λ k h. absurd (omega arith);
            calls = λ k h. absurd (omega arith);
            stand = λ k h. absurd (omega arith);
            tried = s;
            last = omega arith;
            drawn = omega arith;
            counted = refl;
            accepted = λ e. absurd (not-zero level_refusals refl d.number e);
            refusing = λ _. rw (add-zero f.level) is;
            refused = λ _. rw (add-zero f.level) d;
          });
        }

    module _ {s c : ℕ} {rest : List ℕ} (is : answered ≡ unpacked s c rest) where
      abbrev on : Far
      on = several.further f own s c

      abbrev put : List ℕ
      put = take f.from dst ++ rest

      l : Accepted r (level_segment file r.header f.level) p (grid_at r.header f.level) f.left s c lent rest
      l = accepted_so r file p f.level f.left lent is

      number : f.level < r.header.levels
      number = ltb-true f.level r.header.levels (passed r file p f.level f.left lent is).number

      on_fits : on.from ≤ length put
      on_fits =
          omega (
            arith,
            there r file p f.level f.left lent is,
            l.leaves.long,
            length-append (take f.from dst) rest,
            length-take-le f.from dst fits,
          )

      module _ {e : Ended} (g : Going on put e) where
        reaches : on.from ≤ length e.after
        reaches = omega (arith, on_fits, ap length g.before, length-take on.from e.after, length-take on.from put)

        accepted-one : Going f dst e
        accepted-one =
            record {
              more = with_first s c g.more;
              refusal = g.refusal;
              at = g.at;
              levels = omega (arith, g.levels);
              symbols = omega (arith, g.symbols);
              cutouts = omega (arith, g.cutouts);
              before =
                  sym (take-take f.from on.from e.after (omega arith)) ∙ ap (take f.from) g.before
                  ∙ take-take f.from on.from put (omega arith) ∙ front rest;
              ends =
                  one_more r file p f.level on.left lent (drop f.from e.after) is (omega (arith, l.drawn))
                  (sym (mid f.from own e.after (omega (arith, reaches))) ∙ ap (drop f.from) g.before
                  ∙ mid f.from own put (omega (arith, on_fits)) ∙ ap (take own) (back rest))
                  (rw (drop-drop own f.from e.after, ap (drop own) (sym (back rest)) ∙ drop-drop own f.from put) g.ends);
            }

  -- n levels more: as many as the file has, but that the first is tried in any case
  goes : (n : ℕ) (f : Far) (dst : List ℕ) → f.from ≤ length dst → r.header.levels ≤ f.level + n → (n ≡ 0 → f.level ≤ r.header.levels)
      → Going f dst (several_from n r file p f dst)
  unfolding several_from onward
  goes zero f dst fits few last = none_more f dst fits (omega (arith, last refl))
  goes (suc n) f dst fits few last = by (answered f dst fits) refl (goes n)
    where
      by : (u : Unpacking) → answered f dst fits ≡ u
          → ((f : Far) (dst : List ℕ) → f.from ≤ length dst → r.header.levels ≤ f.level + n → (n ≡ 0 → f.level ≤ r.header.levels)
          → Going f dst (several_from n r file p f dst))
          → Going f dst (onward f (own f dst fits) dst (several_from n r file p) u)
      by (unpacked s c rest) is ih =
          accepted-one f dst fits is
          (ih (on f dst fits is) (put f dst fits is) (on_fits f dst fits is) (omega arith) (λ _. omega (arith, number f dst fits is)))
      by (declined k s bit rest) is ih = refused-one f dst fits (several_from n r file p) is

-- from the first on
module _ (r : Record) (file : List ℕ) (p : Palettes) (first budget : ℕ) (b : List ℕ) where
  abbrev e : Ended
  e = several_of r file p first budget b

  gone : Going r file p (begun first budget) b (several_of r file p first budget b)
  gone = goes r file p (suc (r.header.levels - suc first)) (begun first budget) b (omega arith) (omega arith) (λ e. absurd (omega arith))

  all : gone.more ≡ (several_of r file p first budget b).answer
  all =
      let levels : gone.more.levels ≡ e.answer.levels = omega (arith, gone.levels) in
      let symbols : gone.more.symbols ≡ e.answer.symbols = omega (arith, gone.symbols) in
      let cutouts : gone.more.cutouts ≡ e.answer.cutouts = omega (arith, gone.cutouts) in
      λ i. record { refusal = sym gone.refusal i; at = sym gone.at i; levels = levels i; symbols = symbols i; cutouts = cutouts i }

  pub several_ends : SeveralEnds r file p first budget (several_of r file p first budget b).left b
      (several_of r file p first budget b).after (several_of r file p first budget b).answer
  several_ends = subst (λ (s : Several). SeveralEnds r file p first budget e.left b e.after s) all gone.ends

-- so where the first level is refused before its first draw, the destination and the budget are untouched
pub none_touched : {r : Record} {file : List ℕ} {p : Palettes} {n budget left : ℕ} {b a : List ℕ} {s : Several}
    → SeveralEnds r file p n budget left b a s → s.levels ≡ 0 → among s.refusal before_draws ≡ true
    → (a ≡ b) × ((left ≡ budget) × (s.symbols ≡ 0))
none_touched {r} {n = n} {budget = budget} {left = left} {b = b} {a = a} e none early =
    let d = (e.refused (not-zero before_draws refl early)).untouched early in
    let same : behind r.header n 0 a ≡ behind r.header n 0 b =
    subst (λ (k : ℕ). behind r.header n k a ≡ behind r.header n k b) none d.0 in
    let unspent : left ≡ budget = omega (arith, e.last, ap e.budgets none, e.given, d.1.0) in
    (same, (unspent, omega (arith, e.drawn)))
