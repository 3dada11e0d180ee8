-- What the definition of several levels promises, of a call that answers and leaves what it says: each level is as by a call of its own,
-- so what holds of one holds of all.
use Prim.Native.Nat.{ℕ, zero, suc, ◌+◌, ◌-◌, ◌≤◌, ◌<◌}
use mathlib.Core.List.{List, [], ◌++◌}
use mathlib.Core.Path.{◌≡◌, refl, sym, ap, subst, ◌∙◌}
use native.Mathlib.Omega.{arith}
use native.Mathlib.Nat.{add-zero}
use native.Mathlib.Decide.{dec_le}
use lib.ListN.{length, take, drop, length-append, length-take}
use lib.Seq.{length-take-le, drop-drop, drop_at}
use borrow.Author.Tests.{ltb-true}
use Rattle.crn_format.specs.Grid.{painted}
use Rattle.crn_format.specs.Opening.{Palettes}
use Rattle.crn_format.specs.Unpacking.{Unpacking, unpacked, declined, cutout_count}
use Rattle.crn_format.specs.declared.Record.{Record}
use Rattle.crn_sizes.specs.Sizes.{level_sizes}
use Rattle.crn_levels.specs.Several.{Far, begun, further, onward, several_from, several_of}
use Rattle.crn_levels.specs.declared.Several.{Several}
use Rattle.crn_laws.specs.Scripts.{Draws}
use Rattle.crn_laws.specs.Blocks.{blocks_by}
use Rattle.crn_laws.specs.Levels.{Given, grid_in, kind_in, unpacking_in, Passes, ScriptOf, symbols_of, allowed}
use Rattle.crn_laws.specs.Levels as levels
use Rattle.crn_laws.proofs.Ending.{never, accepted-passes}
use Rattle.crn_laws.proofs.Answering.{accepted-script}
use Rattle.crn_laws.proofs.Theorems.{script-allowed, blocks_by_script, script_tries}
use Rattle.crn_laws_total.specs.Refusals.{level_refusals}
use Rattle.crn_laws_total.specs.Ends.{bytes_of, behind, own_of, closely, sum_of}
use Rattle.crn_laws_total.proofs.Numbers.{not-zero}
use Rattle.crn_laws_total.proofs.Bytes.{behind-same}
use Rattle.crn_laws_total.proofs.Close.{accepted_so, declined_so, passed, there, lies_low}
use Rattle.crn_laws_total.proofs.Several.{several_ends}
use Rattle.crn_promises.specs.Calls.{LevelsCall, given_by, level_of}
use Rattle.crn_promises.specs.Promises.{LevelsTotal, LevelsSame, count_from, length_of, cutouts_of, AllScripted, AllByScript, LevelsExact}

-- ---- sums

sum_same : (n : ℕ) (f g : ℕ → ℕ) → ((k : ℕ) → k < n → f k ≡ g k) → sum_of n f ≡ sum_of n g
sum_same zero f g h = refl
sum_same (suc n) f g h = omega (arith, h 0 (omega arith), sum_same n (λ i. f (suc i)) (λ i. g (suc i)) (λ k l. h (suc k) (omega arith)))

sum_less : (n : ℕ) (f g : ℕ → ℕ) → ((k : ℕ) → k < n → f k ≤ g k) → sum_of n f ≤ sum_of n g
sum_less zero f g h = omega arith
sum_less (suc n) f g h = omega (arith, h 0 (omega arith), sum_less n (λ i. f (suc i)) (λ i. g (suc i)) (λ k l. h (suc k) (omega arith)))

-- a budget counted down level by level
counted_down : (n : ℕ) (budgets symbols : ℕ → ℕ) → ((k : ℕ) → k < n → budgets (suc k) + symbols k ≡ budgets k)
    → budgets n + sum_of n symbols ≡ budgets 0
counted_down zero budgets symbols h = omega arith
counted_down (suc n) budgets symbols h =
    omega (arith, h 0 (omega arith), counted_down n (λ i. budgets (suc i)) (λ i. symbols (suc i)) (λ k l. h (suc k) (omega arith)))

-- ---- levels that all have their scripts are all accepted

module _ (r : Record) (file : List ℕ) (p : Palettes) where
  -- the k-th level from n on in its own bytes; level n with all that is lent
  abbrev at : ℕ → ℕ → List ℕ → Given
  at n k d =
      given_by r file p (n + k) (level_sizes r.header (n + k)).pitch (level_sizes r.header (n + k)).distance (own_of r.header n k d)

  abbrev whole : ℕ → List ℕ → Given
  whole n d = given_by r file p n (level_sizes r.header n).pitch (level_sizes r.header n).distance d

  abbrev own : ℕ → List ℕ → Given
  own n d = whole n (take (level_sizes r.header n).bytes d)

  first_own : (n : ℕ) (d : List ℕ) → at n 0 d ≡ own n d
  first_own n d = ap (λ (m : ℕ). own m d) (add-zero n)

  next_own : (n k : ℕ) (d e : List ℕ) → e ≡ drop (level_sizes r.header n).bytes d → at n (suc k) d ≡ at (n + 1) k e
  next_own n k d e is =
      let number : n + suc k ≡ n + 1 + k = omega arith in
      let rest : behind r.header n (suc k) d ≡ behind r.header (n + 1) k e =
      sym (drop-drop (bytes_of r.header (n + 1) k) (level_sizes r.header n).bytes d)
      ∙ ap (drop (bytes_of r.header (n + 1) k)) (sym is) in
      λ i. whole (number i) (take (level_sizes r.header (number i)).bytes (rest i))

  -- bytes behind its own change nothing
  own_passes : (n : ℕ) (d : List ℕ) → Passes (own n d) → Passes (whole n d)
  own_passes n d c =
      record {
        limits = c.limits;
        tables = c.tables;
        number = c.number;
        segment = c.segment;
        palettes = c.palettes;
        grid = c.grid;
        room = omega (arith, c.room, length-take (level_sizes r.header n).bytes d);
      }

  abbrev long : List Draws → ℕ
  long ds = length (symbols_of (whole 0 []) ds)

  all-through : (n : ℕ) (f : Far) (dst : List ℕ) (scripts : ℕ → List Draws) → f.from ≤ length dst
      → ((k : ℕ) → k < n → Passes (at f.level k (drop f.from dst)))
      → ((k : ℕ) → k < n → ScriptOf (at f.level k (drop f.from dst)) (scripts k)) → sum_of n (λ k. long (scripts k)) ≤ f.left
      → (several_from n r file p f dst).answer.refusal ≡ 0
  unfolding several_from onward
  all-through zero f dst scripts fits passes has paid = refl
  all-through (suc n) f dst scripts fits passes has paid =
      rw is
      (all-through n on put (λ k. scripts (suc k)) on_fits (λ k h. subst Passes (next_own f.level k d (drop on.from put) rest)
      (passes (suc k) (omega arith)))
      (λ k h. subst (λ (v : Given). ScriptOf v (scripts (suc k))) (next_own f.level k d (drop on.from put) rest)
      (has (suc k) (omega arith)))
      (omega arith))
    where
      d : List ℕ
      d = drop f.from dst

      v : Given
      v = whole f.level d

      bytes : ℕ
      bytes = (level_sizes r.header f.level).bytes

      c : Passes v
      c = own_passes f.level d (subst Passes (first_own f.level d) (passes 0 (omega arith)))

      script : ScriptOf v (scripts 0)
      script = subst (λ (w : Given). ScriptOf w (scripts 0)) (first_own f.level d) (has 0 (omega arith))

      after : List ℕ
      after = painted (grid_in v) (blocks_by v (scripts 0)) (grid_in v).faces d

      cutouts : ℕ
      cutouts = cutout_count (kind_in v) (grid_in v) (blocks_by v (scripts 0))

      is : closely r file p f.level f.left d ≡ unpacked (long (scripts 0)) cutouts after
      is = blocks_by_script v c (scripts 0) script f.left (omega arith)

      on : Far
      on = further f bytes (long (scripts 0)) cutouts

      put : List ℕ
      put = take f.from dst ++ after

      on_fits : on.from ≤ length put
      on_fits =
          omega (
            arith,
            there r file p f.level f.left d is,
            (accepted_so r file p f.level f.left d is).leaves.long,
            length-append (take f.from dst) after,
            length-take-le f.from dst fits,
          )

      rest : drop on.from put ≡ drop bytes d
      rest =
          sym (drop-drop bytes f.from put) ∙ ap (drop bytes)
          (drop_at (take f.from dst) after f.from (length-take-le f.from dst fits))
          ∙ behind-same bytes (lies_low r file p f.level f.left d is) (accepted_so r file p f.level f.left d is).leaves

  -- where all are accepted, the first is there
  first-there : (first budget : ℕ) (dst : List ℕ) → (several_of r file p first budget dst).answer.refusal ≡ 0 → first < r.header.levels
  unfolding several_from onward
  first-there first budget dst z = by (closely r file p first budget dst) refl z
    where
      by : (u : Unpacking) → closely r file p first budget dst ≡ u
          → (onward (begun first budget) (level_sizes r.header first).bytes dst (several_from (r.header.levels - suc first) r file p) u
          ).answer.refusal ≡ 0
          → first < r.header.levels
      by (unpacked s c e) is z = ltb-true first r.header.levels (passed r file p first budget dst is).number
      by (declined k s bit e) is z = absurd (not-zero level_refusals refl (declined_so r file p first budget dst is).number z)

-- ---- the call

module _ (c : LevelsCall) (s : LevelsSame c) where
  pub levels-total : LevelsTotal c
  levels-total =
      rw (s.answer, s.budget, s.leaves) (several_ends c.opened c.file c.palettes c.first c.budget c.destination)

  refusal_so : c.answer.refusal ≡ (several_of c.opened c.file c.palettes c.first c.budget c.destination).answer.refusal
  refusal_so = ap (λ (a : Several). a.refusal) s.answer

  accepted-all : (scripts : ℕ → List Draws) → AllScripted c scripts → c.answer.refusal ≡ 0
  accepted-all scripts q =
      let all : suc (c.opened.header.levels - suc c.first) ≡ c.opened.header.levels - c.first = omega (arith, q.there) in
      refusal_so
      ∙ rw all
      (all-through c.opened c.file c.palettes (count_from c) (begun c.first c.budget) c.destination scripts (omega arith)
      q.passes q.script q.paid)

  -- as many as the file has from the first on
  module _ (z : c.answer.refusal ≡ 0) where
    as_many : c.answer.levels ≡ count_from c
    as_many = omega (arith, (levels-total.accepted z).0)

    of-each : (k : ℕ) → k < count_from c → levels.Accepted (unpacking_in (level_of c k) (levels-total.budgets k))
    of-each k h = (_, _, _, levels-total.calls k (omega (arith, as_many)))

    scripted : (k : ℕ) → k < count_from c → Passes (level_of c k) × ((ds : List Draws) × ScriptOf (level_of c k) ds)
    scripted k h =
        let passes : Passes (level_of c k) = accepted-passes (level_of c k) (levels-total.budgets k) (of-each k h) in
        (passes, accepted-script (level_of c k) passes (levels-total.budgets k) (of-each k h))

  -- the other way: a script for each
  module _ (q : (k : ℕ) → k < count_from c → Passes (level_of c k) × ((ds : List Draws) × ScriptOf (level_of c k) ds)) where
    choose : (k : ℕ) → Dec (suc k ≤ count_from c) → List Draws
    choose k (yes h) = (q k h).1.0
    choose k (no h) = []

    chosen : (k : ℕ) → k < count_from c → (d : Dec (suc k ≤ count_from c)) → ScriptOf (level_of c k) (choose k d)
    unfolding choose
    chosen k h (yes l) = (q k l).1.1
    chosen k h (no l) = absurd (l (omega arith))

    abbrev scripts : ℕ → List Draws
    scripts k = choose k (dec_le (suc k) (count_from c))

    all_scripted : c.first < c.opened.header.levels → sum_of (count_from c) (λ k. allowed (level_of c k)) ≤ c.budget
        → AllScripted c scripts
    all_scripted there full =
        record {
          there = there;
          passes = λ k h. (q k h).0;
          script = λ k h. chosen k h (dec_le (suc k) (count_from c));
          paid =
              let less : sum_of (count_from c) (length_of c scripts) ≤ sum_of (count_from c) (λ k. allowed (level_of c k)) =
              sum_less (count_from c) (length_of c scripts) (λ k. allowed (level_of c k))
              (λ k h. script-allowed (level_of c k) (q k h).0 (scripts k) (chosen k h (dec_le (suc k) (count_from c)))) in
              omega (arith, less);
        }

  -- each level by its script
  module _ (scripts : ℕ → List Draws) (q : AllScripted c scripts) where
    z : c.answer.refusal ≡ 0
    z = accepted-all scripts q

    pays : (k : ℕ) (h : k < count_from c) → length_of c scripts k ≤ levels-total.budgets k
    pays k h = by (dec_le (length_of c scripts k) (levels-total.budgets k))
      where
        by : Dec (length_of c scripts k ≤ levels-total.budgets k) → length_of c scripts k ≤ levels-total.budgets k
        by (yes l) = l
        by (no l) =
            let t = (script_tries (level_of c k) (q.passes k h) (scripts k) (q.script k h)).less (levels-total.budgets k) (omega arith) in
            absurd (never (sym t.2 ∙ (of-each z k h).3))

    module _ (k : ℕ) (h : k < count_from c) where
      both : unpacked (levels-total.symbols k) (levels-total.cutouts k) (own_of c.opened.header c.first k c.after)
          ≡ unpacked (length_of c scripts k) (cutouts_of c scripts k)
          (painted (grid_in (level_of c k)) (blocks_by (level_of c k) (scripts k)) (grid_in (level_of c k)).faces
          (own_of c.opened.header c.first k c.destination))
      both =
          sym (levels-total.calls k (omega (arith, as_many z)))
          ∙ blocks_by_script (level_of c k) (q.passes k h) (scripts k) (q.script k h) (levels-total.budgets k) (pays k h)

      symbols_so : levels-total.symbols k ≡ length_of c scripts k
      symbols_so = cc both

      cutouts_so : levels-total.cutouts k ≡ cutouts_of c scripts k
      cutouts_so = cc both

      leaves_so : own_of c.opened.header c.first k c.after
          ≡ painted (grid_in (level_of c k)) (blocks_by (level_of c k) (scripts k)) (grid_in (level_of c k)).faces
          (own_of c.opened.header c.first k c.destination)
      leaves_so = cc both

    all_by_script : AllByScript c scripts
    all_by_script =
        let t = levels-total in
        let end = t.accepted z in
        let many : c.answer.levels ≡ count_from c = as_many z in
        let down : t.budgets (count_from c) + sum_of (count_from c) t.symbols ≡ t.budgets 0 =
        counted_down (count_from c) t.budgets t.symbols (λ k h. t.spent k (omega (arith, many))) in
        let last : c.left + t.tried ≡ t.budgets (count_from c) = t.last ∙ ap t.budgets many in
        let symbols : sum_of (count_from c) t.symbols ≡ sum_of (count_from c) (length_of c scripts) = sum_same (count_from c) t.symbols
        (length_of c scripts) symbols_so in
        let cut : c.answer.cutouts ≡ sum_of (count_from c) (cutouts_of c scripts) =
        t.counted ∙ ap (λ (n : ℕ). sum_of n t.cutouts) many ∙ sum_same (count_from c) t.cutouts (cutouts_of c scripts) cutouts_so in
        let drawn : c.answer.symbols ≡ sum_of (count_from c) (length_of c scripts) = omega
        (arith, t.drawn, t.given, end.1.1.1, down, last, symbols) in
        record {
          answer = λ i. record { refusal = z i; at = end.1.1.0 i; levels = many i; symbols = drawn i; cutouts = cut i };
          spent = omega (arith, t.drawn, drawn);
          leaves = leaves_so;
          beyond = rw many at end.1.0;
        }

  pub levels-exact : LevelsExact c
  levels-exact =
      record {
        accepted = λ full. (
          (λ z. (first-there c.opened c.file c.palettes c.first c.budget c.destination (sym refusal_so ∙ z), scripted z)),
          (λ q. accepted-all (scripts q.1) (all_scripted q.1 q.0 full)),
        );
        blocks = all_by_script;
      }
