-- The bytes that a grid reaches to, part by part: the faces before the last, the rows before the last, a row.
use Prim.Native.Nat.{ℕ, ◌+◌, ◌*◌, ◌-◌}
use mathlib.Core.Path.{◌≡◌}
use Rattle.crn_format.specs.Unpacking.{grid_of, reach}
use Rattle.crn_format.specs.declared.Header.{Header}

pub whole : (h : Header) (level pitch distance : ℕ) {faces rows row : ℕ} → faces ≡ h.faces - 1 → rows ≡ (grid_of h level pitch distance).rows
    → row ≡ (grid_of h level pitch distance).columns * (grid_of h level pitch distance).bytes
    → faces * distance + (rows - 1) * pitch + row ≡ reach (grid_of h level pitch distance)
unfolding grid_of
whole h level pitch distance before counted wide = simp (before, counted, wide)
