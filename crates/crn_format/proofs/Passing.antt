-- The seven tests before a level's first draw: with all passed its chunks are drawn, and a level that is accepted has passed them.
use Prim.Native.Nat.{ℕ}
use mathlib.Core.Bool.{Bool, true, false}
use mathlib.Core.List.{List}
use mathlib.Core.Path.{◌≡◌, refl}
use native.Mathlib.Omega.{arith}
use lib.ListN.{length}
use lib.Dec.{leb, ltb}
use Rattle.crn_format.specs.Choice.{pick}
use Rattle.crn_format.specs.Header.{within_limits}
use Rattle.crn_format.specs.Opening.{Palettes}
use Rattle.crn_format.specs.Unpacking.{Unpacking, unpacked, declined, tables_hold, level_stands, level_segment, palettes_reach, grid_of, grid_fits, reach, drawn_level, unpacking}
use Rattle.crn_format.specs.declared.Record.{Record}

-- each of them holds
pub record Passed (a b c d e f g : Bool) : Type 0 where
  pub limits : a ≡ true
  pub tables : b ≡ true
  pub number : c ≡ true
  pub stands : d ≡ true
  pub palettes : e ≡ true
  pub grid : f ≡ true
  pub room : g ≡ true

-- those of a level, with so many bytes lent for it
abbrev pub LevelPassed : Record → List ℕ → Palettes → ℕ → ℕ → ℕ → ℕ → Type 0
LevelPassed r file p n pitch distance lent =
    Passed (within_limits r.header) (tables_hold r.tables) (ltb n r.header.levels) (level_stands file r.header n)
    (palettes_reach r.header p)
    (grid_fits (grid_of r.header n pitch distance)) (leb (reach (grid_of r.header n pitch distance)) lent)

-- one test
passes : (t : Bool) (u : Unpacking) (m : ℕ) (d : List ℕ) {s c : ℕ} {e : List ℕ} → pick t u (declined m 0 0 d) ≡ unpacked s c e → (t ≡ true)
    × (u ≡ unpacked s c e)
passes true u m d h = (refl, h)
passes false u m d h = let z : ◌≡◌ {A = ℕ} 0 1 = cc in absurd (omega arith)

module _ (r : Record) (file : List ℕ) (p : Palettes) (n pitch distance budget : ℕ) (dst : List ℕ) where
  pub passed-drawn : LevelPassed r file p n pitch distance (length dst)
      → unpacking r file p n pitch distance budget dst ≡ drawn_level r (level_segment file r.header n) p (grid_of r.header n pitch distance)
      budget dst
  unfolding unpacking
  passed-drawn a = simp (a.limits, a.tables, a.number, a.stands, a.palettes, a.grid, a.room)

  pub accepted-passed : {s c : ℕ} {e : List ℕ} → unpacking r file p n pitch distance budget dst ≡ unpacked s c e → LevelPassed r file p n
      pitch distance (length dst)
  unfolding unpacking
  accepted-passed h =
      let p0 = passes (within_limits r.header) _ 2 dst h in
      let p1 = passes (tables_hold r.tables) _ 6 dst p0.1 in
      let p2 = passes (ltb n r.header.levels) _ 10 dst p1.1 in
      let p3 = passes (level_stands file r.header n) _ 4 dst p2.1 in
      let p4 = passes (palettes_reach r.header p) _ 5 dst p3.1 in
      let p5 = passes (grid_fits (grid_of r.header n pitch distance)) _ 11 dst p4.1 in
      let p6 = passes (leb (reach (grid_of r.header n pitch distance)) (length dst)) _ 12 dst p5.1 in
      record { limits = p0.0; tables = p1.0; number = p2.0; stands = p3.0; palettes = p4.0; grid = p5.0; room = p6.0 }
