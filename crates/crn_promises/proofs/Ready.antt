-- A level of an opened file, with the palettes that the opening has left, is refused by none of 2, 5 and 6.
use Prim.Native.Nat.{ℕ}
use mathlib.Core.Bool.{Bool, true, false, false≢true}
use mathlib.Core.List.{List}
use mathlib.Core.Path.{◌≡◌, refl, subst}
use lib.ListN.{length}
use lib.Dec.{leb, ltb}
use Rattle.crn_format.specs.Choice.{pick}
use Rattle.crn_format.specs.Reading.{Step, got, refused, Spending, start, run, from_bits, budgeted}
use Rattle.crn_format.specs.Header.{kind_of}
use Rattle.crn_format.specs.Opening.{Palettes}
use Rattle.crn_format.specs.Level.{Chunk}
use Rattle.crn_format.specs.Unpacking.{Unpacking, unpacked, declined, level_stands, level_segment, grid_of, grid_fits, reach, shades_of, ended, level_reading, drawn_level, unpacking}
use Rattle.crn_format.specs.declared.Record.{Record}
use Rattle.crn_format.specs.declared.Grid.{Grid}
use Rattle.crn_laws.specs.Levels.{unpacking_in}
use Rattle.crn_laws_total.specs.Refusals.{among, in_draws}
use Rattle.crn_laws_total.proofs.Numbers.{none_in_both, not-zero}
use Rattle.crn_format.proofs.Refusing.{Stops}
use Rattle.crn_laws_total.proofs.Level.{level-stops}
use Rattle.crn_promises.specs.Calls.{LevelCall, LevelsCall, answer_in}
use Rattle.crn_promises.specs.Promises.{LevelSame, LevelsSame, Ready, unready, LevelReady, LevelsReady}
use Rattle.crn_promises.proofs.Levels.{levels-total}

-- accepted, or refused by another number than these
abbrev Spared : Unpacking → Type 0
Spared (unpacked symbols cutouts after) = Unit {0}
Spared (declined number symbols bit after) = among number unready ≡ true → ⊥

module _ (r : Record) (file : List ℕ) (p : Palettes) (n pitch distance budget : ℕ) (dst : List ℕ) where
  abbrev g : Grid
  g = grid_of r.header n pitch distance

  by_run : (y : Step Spending (List Chunk)) → Stops (λ m. among m in_draws) y
      → Spared (ended (kind_of r.header.format) g (shades_of (kind_of r.header.format) p) budget dst y)
  unfolding ended
  by_run (got cs w) stops = tt
  by_run (refused m w) stops = none_in_both m in_draws unready refl stops

  in_stream : Spared (drawn_level r (level_segment file r.header n) p g budget dst)
  unfolding drawn_level
  in_stream =
      by_run (run (budgeted (from_bits (level_segment file r.header n))) (level_reading r g) (record { place = start; left = budget }))
      (level-stops r (level_segment file r.header n) g budget)

  ready_spared : Ready r p → Spared (unpacking r file p n pitch distance budget dst)
  unfolding unpacking
  ready_spared ready =
      rw (ready.limits, ready.tables, ready.palettes)
      (by (ltb n r.header.levels) (level_stands file r.header n) (grid_fits g) (leb (reach g) (length dst)))
    where
      by : (a b c d : Bool)
          → Spared (pick a (pick b (pick c (pick d (drawn_level r (level_segment file r.header n) p g budget dst) (declined 12 0 0 dst))
          (declined 11 0 0 dst)) (declined 4 0 0 dst)) (declined 10 0 0 dst))
      by false b c d = λ e. false≢true e
      by true false c d = λ e. false≢true e
      by true true false d = λ e. false≢true e
      by true true true false = λ e. false≢true e
      by true true true true = in_stream

-- ---- the calls

by_answer : (u : Unpacking) → Spared u → among (answer_in u).refusal unready ≡ true → ⊥
by_answer (unpacked symbols cutouts after) h e = false≢true e
by_answer (declined number symbols bit after) h e = h e

pub level-ready : (c : LevelCall) → LevelSame c → LevelReady c
level-ready c s ready e =
    by_answer (unpacking_in c.given c.budget)
    (ready_spared c.given.opened c.given.file c.given.palettes c.given.number c.given.pitch c.given.distance
    c.budget c.given.destination ready)
    (rw s.answer at e)

pub levels-ready : (c : LevelsCall) → LevelsSame c → LevelsReady c
levels-ready c s ready e =
    let t = levels-total c s in
    let some : c.answer.refusal ≡ 0 → ⊥ = not-zero unready refl e in
    subst Spared (t.refusing some) (ready_spared c.opened c.file c.palettes _ _ _ _ _ ready) e
