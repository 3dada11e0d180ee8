-- What the definition of a level promises, of a call that answers and leaves what it says.
use Prim.Native.Nat.{ℕ}
use mathlib.Core.Path.{◌≡◌, refl, sym, ap, ◌∙◌}
use mathlib.Core.Logic.{inl, inr, ◌↔◌}
use mathlib.Core.List.{List}
use Rattle.std.specs.Prelude.{Ok, Err}
use native.Mathlib.Omega.{arith}
use Rattle.crn_format.specs.Grid.{painted}
use Rattle.crn_format.specs.Unpacking.{Unpacking, unpacked, declined}
use Rattle.crn_blocks.specs.Sheet.{In, standing}
use Rattle.crn_drawing.specs.Unpacks.{Drawn, answer_of, symbols_of, Unpacks}
use Rattle.crunch_abi.specs.Answers.{answer_of as flat}
use Rattle.crunch_abi.specs.declared.level.Answer.{Answer}
use Rattle.crn_laws.specs.Scripts.{Draws}
use Rattle.crn_laws.specs.Blocks.{blocks_by}
use Rattle.crn_laws.specs.Levels.{Given, grid_in, unpacking_in, Passes}
use Rattle.crn_laws.specs.Levels as levels
use Rattle.crn_laws.proofs.Answering.{blocks-long}
use Rattle.crn_laws.proofs.Ending.{tried_in}
use Rattle.crn_laws.proofs.Theorems.{accepted_exactly, only-script, blocks_by_script, tries, refused_15}
use Rattle.crn_laws_total.specs.Refusals.{level_refusals}
use Rattle.crn_laws_total.specs.Ends.{LevelEnds}
use Rattle.crn_laws_total.proofs.Numbers.{not-zero}
use Rattle.crn_laws_total.proofs.Counted.{stands}
use Rattle.crn_laws_total.proofs.Level.{level-ends}
use Rattle.law_containers.proofs.Level.{script-leaves}
use Rattle.crn_promises.specs.Calls.{LevelCall, answer_in, after_in}
use Rattle.crn_promises.specs.Promises.{LevelTotal, LevelSame, Scripted, ByScript, LevelExact}

-- ---- a block by its position and the script stands in its place in the destination

module _ (v : Given) (ds : List Draws) where
  pub block-stands : Passes v → (f x y : ℕ) → In (grid_in v) f x y
      → standing (grid_in v) (painted (grid_in v) (blocks_by v ds) (grid_in v).faces v.destination) f x y ≡ blocks_by v ds f x y
  block-stands c = stands (blocks_by v ds) (script-leaves v c ds) (λ f x y _. blocks-long v ds f x y)

-- ---- the call

-- a contract's answer in document 01's numbers is the definition's
same_answer : (a : Drawn) (after : List ℕ) {u : Unpacking} → answer_of a after ≡ u → (flat a ≡ answer_in u) × (after ≡ after_in u)
unfolding answer_of
same_answer (Ok u) after is = (ap answer_in is, ap after_in is)
same_answer (Err e) after is = (ap answer_in is, ap after_in is)

same-symbols : (a : Drawn) → (flat a).symbols ≡ symbols_of a
same-symbols (Ok u) = refl
same-symbols (Err e) = refl

pub level-same : (c : LevelCall) (a : Drawn) → c.answer ≡ flat a
    → Unpacks (unpacking_in c.given c.budget) c.budget c.left c.after a → LevelSame c
level-same c a is u =
    let same = same_answer a c.after u.answer in
    record { answer = is ∙ same.0; leaves = same.1; spent = omega (arith, u.spent, same-symbols a, ap (λ (x : Answer). x.symbols) is) }

module _ (c : LevelCall) where
  abbrev Ends : Unpacking → Type 0
  Ends =
      LevelEnds c.given.opened c.given.file c.given.palettes c.given.number c.given.pitch c.given.distance
      c.budget c.given.destination

  ends : Ends (unpacking_in c.given c.budget)
  ends =
      level-ends c.given.opened c.given.file c.given.palettes c.given.number c.given.pitch c.given.distance
      c.budget c.given.destination

  module _ (s : LevelSame c) where
    by_ends : (u : Unpacking) → Ends u → c.answer ≡ answer_in u → c.after ≡ after_in u → LevelTotal c
    by_ends (unpacked symbols cutouts after) l p q =
        record {
          number = inl (ap (λ (a : Answer). a.refusal) p);
          spent = s.spent;
          accepted = λ _. (ap (λ (a : Answer). a.at) p, rw (p, q) l);
          refused = λ no. absurd (no (ap (λ (a : Answer). a.refusal) p));
        }
    by_ends (declined number symbols bit after) d p q =
        record {
          number = inr (rw p d.number);
          spent = s.spent;
          accepted = λ z. absurd (not-zero level_refusals refl d.number (sym (ap (λ (a : Answer). a.refusal) p) ∙ z));
          refused = λ _. (ap (λ (a : Answer). a.cutouts) p, rw (p, q) d);
        }

    pub level-total : LevelTotal c
    level-total = by_ends (unpacking_in c.given c.budget) ends s.answer s.leaves

    -- accepted is what the definition accepts
    is-accepted : (u : Unpacking) → Ends u → c.answer ≡ answer_in u → (c.answer.refusal ≡ 0) ↔ levels.Accepted u
    is-accepted (unpacked symbols cutouts after) l p = ((λ _. (symbols, cutouts, after, refl)), (λ _. ap (λ (a : Answer). a.refusal) p))
    is-accepted (declined number symbols bit after) d p = (
      (λ z. absurd (not-zero level_refusals refl d.number (sym (ap (λ (a : Answer). a.refusal) p) ∙ z))),
      (λ a. let z : ◌≡◌ {A = ℕ} 0 1 = cc a.3 in absurd (omega arith)),
    )

    so : (c.answer.refusal ≡ 0) ↔ levels.Accepted (unpacking_in c.given c.budget)
    so = is-accepted (unpacking_in c.given c.budget) ends s.answer

    -- and refused by 15 is what it refuses so
    is_15 : (u : Unpacking) → c.answer ≡ answer_in u → (c.answer.refusal ≡ 15) ↔ levels.RefusedBy 15 u
    is_15 (unpacked symbols cutouts after) p = (
      (λ z. absurd (omega (arith, sym (ap (λ (a : Answer). a.refusal) p) ∙ z))),
      (λ a. let z : ◌≡◌ {A = ℕ} 0 1 = cc a.3 in absurd (omega arith)),
    )
    is_15 (declined number symbols bit after) p = (
      (λ z. (symbols, bit, after, ap (λ (n : ℕ). declined n symbols bit after) (sym (ap (λ (a : Answer). a.refusal) p) ∙ z))),
      (λ a. let z : number ≡ 15 = cc a.3 in ap (λ (a : Answer). a.refusal) p ∙ z),
    )

    by_script : (ds : List Draws) → Scripted c.given ds c.budget → ByScript c ds
    by_script ds q =
        let is = blocks_by_script c.given q.passes ds q.script c.budget q.paid in
        let answer = s.answer ∙ ap answer_in is in
        let after = s.leaves ∙ ap after_in is in
        record {
          answer = answer;
          spent = omega (arith, s.spent, ap (λ (a : Answer). a.symbols) answer);
          block = rw after (block-stands c.given ds q.passes);
          leaves = after;
        }

    pub level-exact : LevelExact c
    level-exact =
        record {
          accepted = λ full.
              let e = accepted_exactly c.given c.budget full in ((λ z. e.0 (so.0 z)), (λ q. so.1 (e.1 q)));
          only = only-script c.given;
          blocks = by_script;
          spent = λ q.
              let t = tries c.given q in
              let same = is_15 (unpacking_in c.given c.budget) s.answer in
              let less = refused_15 c.given (tried_in c.given) t c.budget in
              (tried_in c.given, (t, ((λ z. less.0 (same.0 z)), (λ l. same.1 (less.1 l)))));
        }
