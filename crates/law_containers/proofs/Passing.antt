-- In a sound plan a level's place passes the checks on its grid and its room, wherever the output has got to. Assumes nothing.
use Prim.Native.Nat.{ℕ, zero, suc, ◌+◌, ◌*◌, ◌-◌, ◌/◌, ◌%◌, ◌^◌, ◌≤◌, ◌<◌}
use mathlib.Core.Path.{◌≡◌, refl, ap, ◌∙◌}
use mathlib.Core.Bool.{Bool, true, false}
use mathlib.Core.List.{List}
use native.Mathlib.Omega.{arith}
use native.Mathlib.Nat.{suc-mul}
use lib.ListN.{length, drop, length-drop}
use lib.Dec.{eqb}
use borrow.Author.Tests.{le-leb, eq-eqb, eqb-false}
use Rattle.crn_format.specs.Choice.{pick}
use Rattle.crn_format.specs.Header.{kind_of, block_bytes, within_limits}
use Rattle.crn_format.specs.Opening.{Palettes}
use Rattle.crn_format.specs.Grid.{pixels, blocks}
use Rattle.crn_format.specs.Unpacking.{grid_of, grid_fits, reach, level_stands, palettes_reach, tables_hold}
use Rattle.crn_format.specs.declared.Record.{Record}
use Rattle.crn_sizes.specs.Sizes.{level_sizes}
use Rattle.crn_laws.specs.Levels.{Passes}
use Rattle.picture.specs.Surfaces.{Plan, picture_of, surface}
use Rattle.picture.proofs.Chains.{times_four, bytes-fours}
use Rattle.law_containers.specs.Standing.{given_at, grid_at, Sound}
use Rattle.law_containers.proofs.Filling.{pitch_so}

some_block : (n : ℕ) → 0 < n → 0 < blocks n
some_block n h = omega arith

some_pixel : (n : ℕ) (b : Bool) → eqb n 0 ≡ b → 0 < pick b 1 n
some_pixel n true e = omega arith
some_pixel n false e = positive n (eqb-false n 0 e)
  where
    positive : (n : ℕ) → (n ≡ 0 → ⊥) → 0 < n
    positive zero z = absurd (z refl)
    positive (suc n) z = omega arith

last_row : (rows row : ℕ) → 0 < rows → (rows - 1) * row + row ≡ rows * row
last_row zero row h = absurd (omega arith)
last_row (suc n) row h = let e : suc n - 1 ≡ n = omega arith in rw e (omega (arith, suc-mul n row))

module _ (pl : Plan) (r : Record) (file : List ℕ) (p : Palettes) {head : ℕ} (sound : Sound (picture_of r.header) head pl)
    (limits : within_limits r.header ≡ true) (tables : tables_hold r.tables ≡ true) (some : 0 < r.header.faces) (m : ℕ)
    (number : m < r.header.levels) (d : List ℕ) (long : length d ≡ pl.total) where
  abbrev columns : ℕ
  columns = blocks (pixels r.header.width m)

  abbrev rows : ℕ
  rows = blocks (pixels r.header.height m)

  abbrev bytes : ℕ
  bytes = block_bytes (kind_of r.header.format)

  pitch-is : (level_sizes r.header m).pitch ≡ columns * bytes
  pitch-is = pitch_so r.header limits m number

  surface-is : surface (picture_of r.header) m ≡ rows * (columns * bytes)
  unfolding surface
  surface-is = refl

  fits : grid_fits (grid_at pl r.header m) ≡ true
  unfolding grid_of
  fits =
      let a : (level_sizes r.header m).pitch % 4 ≡ 0 =
      ap (λ (n : ℕ). n % 4) pitch-is ∙ times_four columns bytes (bytes-fours (kind_of r.header.format)) in
      let b : columns * bytes ≤ (level_sizes r.header m).pitch = omega (arith, pitch-is) in
      let c : rows * (level_sizes r.header m).pitch ≤ pl.step m =
      omega (arith, ap (λ (n : ℕ). rows * n) pitch-is, surface-is, sound.far m number) in
      simp (eq-eqb ((level_sizes r.header m).pitch % 4) 0 a, eq-eqb (pl.step m % 4) 0 (sound.fours m), le-leb _ _ b, le-leb _ _ c)

  row : 0 < rows
  row = some_block (pixels r.header.height m) (some_pixel (r.header.height / 2 ^ m) _ refl)

  reaches : reach (grid_at pl r.header m) ≤ length (drop (pl.from m) d)
  unfolding grid_of
  reaches =
      let w = sound.within (r.header.faces - 1) m (omega arith) number in
      simp length-drop
      (omega (arith, w, ap (λ (n : ℕ). (rows - 1) * n) pitch-is, last_row rows (columns * bytes) row, surface-is, long))

  -- so a level whose segment stands, and for which the palettes reach, passes
  pub passes : level_stands file r.header m ≡ true → palettes_reach r.header p ≡ true → Passes (given_at pl r file p d m)
  passes segment palettes =
      record { limits = limits; tables = tables; number = number; segment = segment; palettes = palettes; grid = fits; room = reaches }
