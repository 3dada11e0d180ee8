-- A level that is accepted: its script, the symbols and the cut-outs, and its destination byte by byte. Assumes nothing.
use Prim.Native.Nat.{ℕ, ◌≤◌}
use mathlib.Core.Path.{◌≡◌, refl, sym, subst, ◌∙◌}
use mathlib.Core.Bool.{true}
use mathlib.Core.List.{List, []}
use native.Mathlib.Omega.{arith}
use lib.ListN.{length, get_or}
use borrow.Author.Tests.{lt-ltb, le-leb}
use Rattle.crn_format.specs.Reading.{Step, got, refused, Place}
use Rattle.crn_format.specs.Level.{Chunk}
use Rattle.crn_format.specs.Grid.{painted}
use Rattle.crn_format.specs.Unpacking.{tables_hold, cutout_count, unpacked}
use Rattle.crn_sizes.specs.Sizes.{level_sizes}
use Rattle.crn_laws.specs.Scripts.{Draws}
use Rattle.crn_laws.specs.Levels.{Given, grid_in, kind_in, unpacking_in, Passes, ScriptOf, symbols_of}
use Rattle.crn_laws.specs.Blocks.{blocks_by}
use Rattle.crn_laws.proofs.Ending.{ran, script-of, took, accepted-passes}
use Rattle.crn_laws.proofs.Answering.{blocks-long}
use Rattle.crn_laws.proofs.Theorems.{script-allowed, accepted_by_told, told-allowed, blocks_by_script}
use Rattle.crn_laws_total.specs.Leaves.{Leaves}
use Rattle.crn_laws_total.proofs.Bytes.{painted-leaves}
use Rattle.crn_laws_total.proofs.Level.{has_room}

-- the blocks by a script stand in their places, and all else is as before
pub script-leaves : (v : Given) → Passes v → (ds : List Draws)
    → Leaves (grid_in v) (λ f x y k. get_or (blocks_by v ds f x y) k 0) v.destination
    (painted (grid_in v) (blocks_by v ds) (grid_in v).faces v.destination)
script-leaves v c ds =
    painted-leaves v.destination
    (has_room v.opened v.file v.palettes v.number v.pitch v.distance 0 v.destination c.limits c.tables
    (lt-ltb _ _ c.number) c.segment c.palettes c.grid (le-leb _ _ c.room))
    (blocks_by v ds) (λ f x y _. blocks-long v ds f x y) (λ f x y k. get_or (blocks_by v ds f x y) k 0) (λ f x y k _. refl)

-- ---- the script of a level, chosen before anything is unpacked

module _ (v : Given) where
  chosen : (y : Step Place (List Chunk)) → ran v ≡ y → List Draws
  chosen (got cs w) e = (script-of v e).0
  chosen (refused n w) e = []

  pub script_in : List Draws
  script_in = chosen (ran v) refl

  pub script_in_lem : tables_hold v.opened.tables ≡ true → (ds : List Draws) → ScriptOf v ds → ScriptOf v script_in
  unfolding chosen script_in
  script_in_lem tables ds s = by (ran v) refl
    where
      by : (y : Step Place (List Chunk)) (e : ran v ≡ y) → ScriptOf v (chosen y e)
      by (got cs w) e = (script-of v e).1
      by (refused n w) e =
          let t = (took v ds tables s).answers in
          let z : ◌≡◌ {A = ℕ} 0 1 = cc in
          absurd (omega arith)

-- ---- the level

-- its script, what it counts, and what it leaves in its destination
pub record Left (v : Given) (s c : ℕ) (after : List ℕ) : Type 0 where
  pub passes : Passes v
  pub script : List Draws
  pub is : ScriptOf v script
  pub symbols : s ≡ length (symbols_of v script)
  pub cutouts : c ≡ cutout_count (kind_in v) (grid_in v) (blocks_by v script)
  pub leaves : Leaves (grid_in v) (λ f x y k. get_or (blocks_by v script f x y) k 0) v.destination after

-- the symbols that a host is told for a level
abbrev pub full : Given → ℕ
full v = (level_sizes v.opened.header v.number).symbols

-- accepted with these as its budget
pub told-left : (v : Given) {s c : ℕ} {after : List ℕ} → unpacking_in v (full v) ≡ unpacked s c after → Left v s c after
told-left v {s} {c} {after} e =
    let passes = accepted-passes v (full v) (s, c, after, e) in
    let found = (accepted_by_told v passes).0 (s, c, after, e) in
    let ds = found.0 in
    let paid : length (symbols_of v ds) ≤ full v = omega (arith, script-allowed v passes ds found.1, told-allowed v passes) in
    let same = sym (blocks_by_script v passes ds found.1 (full v) paid) ∙ e in
    let is : painted (grid_in v) (blocks_by v ds) (grid_in v).faces v.destination ≡ after = cc in
    record {
      passes = passes;
      script = ds;
      is = found.1;
      symbols = cc;
      cutouts = cc;
      leaves = subst (Leaves (grid_in v) (λ f x y k. get_or (blocks_by v ds f x y) k 0) v.destination) is (script-leaves v passes ds);
    }
