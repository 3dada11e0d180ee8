-- A level's cut-outs and its symbols are few. Assumes nothing.
use Prim.Native.Nat.{ℕ, zero, suc, ◌+◌, ◌*◌, ◌/◌, ◌≤◌}
use mathlib.Core.Path.{◌≡◌, sym, ◌∙◌}
use mathlib.Core.Bool.{Bool, true, false}
use mathlib.Core.List.{List}
use native.Mathlib.Omega.{arith}
use native.Mathlib.Nat.{suc-mul, mul-le-mul}
use lib.Dec.{ltb, lit≤}
use Rattle.crn_format.specs.Choice.{pick}
use Rattle.crn_format.specs.Reading.{Step, got, refused, Spending, start, run, from_bits, budgeted}
use Rattle.crn_format.specs.declared.Kind.{Kind}
use Rattle.crn_format.specs.declared.Kind.TheVariants.{DXT1, DXT5, DXT5A, DXN, Unknown}
use Rattle.crn_format.specs.Header.{kind_of, within_limits}
use Rattle.crn_format.specs.Level.{Chunk}
use Rattle.crn_format.specs.Grid.{Shade, is_cutout, row_cutouts, face_cutouts, cutouts, chunk_count, block_at}
use Rattle.crn_format.specs.Opening.{Palettes}
use Rattle.crn_format.specs.Unpacking.{unpacked, level_segment, shades_of, level_reading, grid_of, per_plane, plane_count}
use Rattle.crn_format.specs.Unpacking.{cutout_count, ended, drawn_level, unpacking}
use Rattle.crn_format.specs.declared.Header.{Header}
use Rattle.crn_format.specs.declared.Record.{Record}
use Rattle.crn_format.specs.declared.Grid.{Grid}
use Rattle.crn_format.proofs.Passing.{passed-drawn, accepted-passed}
use Rattle.crn_formats.proofs.Limited.{limited}
use Rattle.crn_sizes.specs.Sizes.{close_grid, level_sizes}
use Rattle.crn_sizes.specs.declared.LevelSizes.{LevelSizes}
use Rattle.crn_sizes.proofs.Few.{few}
use Rattle.crn_sizes.proofs.Enough.{sizes_so}

-- ---- cut-outs: no more than blocks

one_more : {k n : ℕ} (b : Bool) → k ≤ n → k + pick b 1 0 ≤ suc n
one_more true h = omega arith
one_more false h = omega arith

row-few : (block : ℕ → ℕ → ℕ → List ℕ) (f y n : ℕ) → row_cutouts block f y n ≤ n
unfolding row_cutouts
row-few block f y zero = omega arith
row-few block f y (suc n) = one_more (is_cutout (block f n y)) (row-few block f y n)

face-few : (g : Grid) (block : ℕ → ℕ → ℕ → List ℕ) (f n : ℕ) → face_cutouts g block f n ≤ n * g.columns
unfolding face_cutouts
face-few g block f zero = omega arith
face-few g block f (suc n) = omega (arith, suc-mul n g.columns, face-few g block f n, row-few block f n g.columns)

all-few : (g : Grid) (block : ℕ → ℕ → ℕ → List ℕ) (n : ℕ) → cutouts g block n ≤ n * (g.rows * g.columns)
unfolding cutouts
all-few g block zero = omega arith
all-few g block (suc n) = omega (arith, suc-mul n (g.rows * g.columns), all-few g block n, face-few g block n g.rows)

-- of six faces of 1,024 by 1,024 blocks
abbrev pub most_cutouts : ℕ
most_cutouts = 6291456

module _ (g : Grid) (faces : g.faces ≤ 6) (columns : g.columns ≤ 1024) (rows : g.rows ≤ 1024) where
  count_few : (k : Kind) (block : ℕ → ℕ → ℕ → List ℕ) → cutout_count k g block ≤ most_cutouts
  unfolding cutout_count
  count_few DXT1 block = omega (arith, all-few g block g.faces, mul-le-mul faces (mul-le-mul rows columns))
  count_few DXT5 block = omega arith
  count_few DXT5A block = omega arith
  count_few DXN block = omega arith
  count_few Unknown block = omega arith

  ended-few : (k : Kind) (ps : List Shade) (budget : ℕ) (dst : List ℕ) (x : Step Spending (List Chunk)) (s c : ℕ) (e : List ℕ)
      → ended k g ps budget dst x ≡ unpacked s c e → c ≤ most_cutouts
  unfolding ended
  ended-few k ps budget dst (got cs w) s c e h =
      let z : cutout_count k g (block_at g ps cs) ≡ c = cc in omega (arith, count_few k (block_at g ps cs))
  ended-few k ps budget dst (refused n w) s c e h = let z : ◌≡◌ {A = ℕ} 0 1 = cc in absurd (omega arith)

-- whatever the pitch and the distance
pub cutouts-few : (r : Record) (file : List ℕ) (p : Palettes) (level pitch distance budget : ℕ) (dst : List ℕ) (s c : ℕ) (e : List ℕ)
    → unpacking r file p level pitch distance budget dst ≡ unpacked s c e → c ≤ most_cutouts
unfolding drawn_level grid_of
cutouts-few r file p level pitch distance budget dst s c e h =
    let a = accepted-passed r file p level pitch distance budget dst h in
    let l = limited r.header a.limits in
    let g : Grid = grid_of r.header level pitch distance in
    ended-few g l.faces (few r.header.width level l.width) (few r.header.height level l.height)
    (kind_of r.header.format) (shades_of (kind_of r.header.format) p) budget dst
    (run (budgeted (from_bits (level_segment file r.header level))) (level_reading r g) (record { place = start; left = budget }))
    s c e (sym (passed-drawn r file p level pitch distance budget dst a) ∙ h)

-- ---- symbols: no more than the full allowance

-- of six faces of 512 by 512 chunks of two planes
abbrev pub most_symbols : ℕ
most_symbols = 25690112

planes-few : (k : Kind) → plane_count k ≤ 2
unfolding per_plane
planes-few DXT1 = lit≤ tt
planes-few DXT5 = lit≤ tt
planes-few DXT5A = lit≤ tt
planes-few DXN = lit≤ tt
planes-few Unknown = lit≤ tt

half-few : (n : ℕ) → n ≤ 1024 → (n + 1) / 2 ≤ 512
half-few n h = omega arith

pub symbols-few : (h : Header) (n : ℕ) → within_limits h ≡ true → ltb n h.levels ≡ true → {z : LevelSizes} → z ≡ level_sizes h n
    → z.symbols ≤ most_symbols
unfolding grid_of
symbols-few h n limits number is =
    let l = limited h limits in
    let chunks : chunk_count (close_grid h n) ≤ 6 * (512 * 512) =
    mul-le-mul l.faces (mul-le-mul (half-few _ (few h.height n l.height)) (half-few _ (few h.width n l.width)))
    in
    let planed : chunk_count (close_grid h n) * plane_count (kind_of h.format) ≤ 6 * (512 * 512) * 2 =
    mul-le-mul chunks (planes-few (kind_of h.format))
    in
    rw (is ∙ sizes_so h n limits number) (omega (arith, chunks, planed))
