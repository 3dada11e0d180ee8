-- The theorems of a level that passes its checks: it is accepted exactly when a script for it exists, the script is the only one, every
-- block is given by its position and the script, and a budget refuses it by 15 exactly when it is less than the draws that it tries.
use Prim.Native.Nat.{ℕ, ◌≤◌, ◌<◌}
use mathlib.Core.Path.{◌≡◌, sym, ap, subst, ◌∙◌}
use mathlib.Core.Logic.{◌↔◌}
use mathlib.Core.List.{List}
use native.Mathlib.Omega.{arith}
use native.Mathlib.Decide.{dec_le}
use lib.ListN.{length}
use borrow.Author.Tests.{lt-ltb}
use Rattle.crn_format.specs.Level.{fresh}
use Rattle.crn_format.specs.Grid.{chunk_count, insides, painted}
use Rattle.crn_format.specs.Unpacking.{grid_of, planes_of, allowance, unpacked, cutout_count}
use Rattle.crn_format.proofs.Planes.{planes-long}
use Rattle.crn_sizes.specs.Sizes.{level_sizes}
use Rattle.crn_sizes.specs.declared.LevelSizes.{LevelSizes}
use Rattle.crn_sizes.proofs.Enough.{sizes_so}
use Rattle.crn_laws.specs.Scripts.{Draws}
use Rattle.crn_laws.specs.Levels.{Given, grid_in, kind_in, unpacking_in, Passes, ScriptOf, symbols_of, allowed, Accepted, RefusedBy, Tries}
use Rattle.crn_laws.specs.Blocks.{blocks_by}
use Rattle.crn_laws.proofs.Only.{level-same}
use Rattle.crn_laws.proofs.Ending.{accepted-passes, tried_in, with_enough, with_less, table, took, few-tried}
use Rattle.crn_laws.proofs.Answering.{tried-script, by_script, accepted-script, not-refused_15}

module _ (v : Given) (c : Passes v) where
  -- no script is longer than the allowance
  pub script-allowed : (ds : List Draws) → ScriptOf v ds → length (symbols_of v ds) ≤ allowed v
  script-allowed ds s = rw (← tried-script v c ds s) (few-tried v)

  -- with the allowance as its budget a level is accepted exactly when a script for it exists
  pub exact_acceptance : (budget : ℕ) → allowed v ≤ budget → Accepted (unpacking_in v budget) ↔ ((ds : List Draws) × ScriptOf v ds)
  exact_acceptance budget h =
      (accepted-script v c budget, (λ s. (_, _, _, by_script v c s.0 s.1 budget (omega (arith, script-allowed s.0 s.1)))))

  -- the symbols that a host is told for a level are its allowance
  pub told-allowed : (level_sizes v.opened.header v.number).symbols ≡ allowed v
  unfolding grid_of
  told-allowed =
      ap (λ (z : LevelSizes). z.symbols) (sizes_so v.opened.header v.number c.limits (lt-ltb _ _ c.number))
      ∙ ap (allowance (chunk_count (grid_in v))) (planes-long {A = Unit {0}} (kind_in v) tt tt _ _)

  -- so with these as its budget, too, it is accepted exactly when a script for it exists
  pub accepted_by_told : Accepted (unpacking_in v (level_sizes v.opened.header v.number).symbols) ↔ ((ds : List Draws) × ScriptOf v ds)
  accepted_by_told = exact_acceptance (level_sizes v.opened.header v.number).symbols (omega (arith, told-allowed))

  -- the script is the only one
  pub only-script : (cs ds : List Draws) → ScriptOf v cs → ScriptOf v ds → cs ≡ ds
  only-script cs ds s t =
      level-same (table v) (planes_of v.opened) (insides (grid_in v) 0 (chunk_count (grid_in v))) (fresh (planes_of v.opened)) cs ds s.fits
      t.fits
      (sym (took v cs c.tables s).takes ∙ (took v ds c.tables t).takes)

  -- where the budget allows for the script, as many symbols are drawn as it has, and every block of every face is given by its position
  -- and the script
  pub blocks_by_script : (ds : List Draws) → ScriptOf v ds → (budget : ℕ) → length (symbols_of v ds) ≤ budget
      → unpacking_in v budget
      ≡ unpacked (length (symbols_of v ds)) (cutout_count (kind_in v) (grid_in v) (blocks_by v ds))
      (painted (grid_in v) (blocks_by v ds) (grid_in v).faces v.destination)
  blocks_by_script = by_script v c

  -- how many draws a level tries, whatever its budget, and however it ends
  pub tries : Tries v (tried_in v)
  tries =
      record {
        less = λ b h. let r = with_less v c b h in (r.0, _, r.1);
        ample = λ b h. with_enough v c b h ∙ sym (with_enough v c (tried_in v) (omega arith));
        other = not-refused_15 v c;
        few = few-tried v;
      }

  -- one that has a script tries as many as the script has symbols
  pub script_tries : (ds : List Draws) → ScriptOf v ds → Tries v (length (symbols_of v ds))
  script_tries ds s = subst (Tries v) (tried-script v c ds s) tries

-- so 15 is answered exactly where the budget is less than that, and no other number is it
pub refused_15 : (v : Given) (t : ℕ) → Tries v t → (budget : ℕ) → RefusedBy 15 (unpacking_in v budget) ↔ (budget < t)
refused_15 v t h budget = ((λ e. by e (dec_le t budget)), (λ l. let r = h.less budget l in (budget, r.0, r.1, r.2)))
  where
    by : RefusedBy 15 (unpacking_in v budget) → Dec (t ≤ budget) → budget < t
    by e (yes l) = absurd (h.other (e.0, e.1, e.2, sym (h.ample budget l) ∙ e.3))
    by e (no l) = omega arith

pub only_tries : (v : Given) (s t : ℕ) → Tries v s → Tries v t → s ≡ t
only_tries v s t h g = by (dec_le t s) (dec_le s t)
  where
    not-less : (a b : ℕ) → Tries v a → Tries v b → a < b → ⊥
    not-less a b h g l = h.other ((refused_15 v b g a).1 l)

    by : Dec (t ≤ s) → Dec (s ≤ t) → s ≡ t
    by (yes l) (yes m) = omega arith
    by (no l) m = absurd (not-less s t h g (omega arith))
    by (yes l) (no m) = absurd (not-less t s g h (omega arith))

-- a level that does not pass its checks is not accepted
pub accepted_exactly : (v : Given) (budget : ℕ) → allowed v ≤ budget
    → Accepted (unpacking_in v budget) ↔ (Passes v × ((ds : List Draws) × ScriptOf v ds))
accepted_exactly v budget h = (
  (λ a. let c = accepted-passes v budget a in (c, (exact_acceptance v c budget h).0 a)),
  (λ p. (exact_acceptance v p.0 budget h).1 p.1),
)
