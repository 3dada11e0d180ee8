-- A level with its rows and faces close together: its blocks fill the bytes that are for it, and a call with these bytes alone answers and
-- leaves there what a call with more behind them does.
use Prim.Native.Nat.{ℕ, zero, suc, ◌+◌, ◌*◌, ◌/◌, ◌^◌, ◌≤◌, ◌<◌}
use mathlib.Core.Bool.{Bool, true, false, false≢true}
use mathlib.Core.List.{List}
use mathlib.Core.Path.{◌≡◌, refl, sym, ap, subst, ◌∙◌}
use native.Mathlib.Omega.{arith}
use lib.ListN.{length, get_or, take}
use lib.Seq.{length-take-le}
use lib.Dec.{eqb, ltb}
use borrow.Author.Tests.{leb-true, le-leb, eqb-true, eqb-false}
use Rattle.crn_format.specs.Choice.{pick, either}
use Rattle.crn_format.specs.Limits.{max_side, max_levels}
use Rattle.crn_format.specs.Header.{kind_of, block_bytes, between, within_limits}
use Rattle.crn_format.specs.Opening.{Palettes}
use Rattle.crn_format.specs.Level.{Chunk}
use Rattle.crn_format.specs.Grid.{pixels, blocks, place_of, block_at, painted}
use Rattle.crn_format.specs.Unpacking.{Unpacking, unpacked, declined, level_segment, grid_of, reach, shades_of, ended, drawn_level}
use Rattle.crn_format.specs.declared.Header.{Header}
use Rattle.crn_format.specs.declared.Record.{Record}
use Rattle.crn_format.specs.declared.Grid.{Grid}
use Rattle.crn_format.proofs.Choices.{both_hold}
use Rattle.crn_format.proofs.Passing.{LevelPassed, passed-drawn, accepted-passed}
use Rattle.crn_blocks.specs.Sheet.{In}
use Rattle.crn_blocks.proofs.Places.{further}
use Rattle.crn_sizes.specs.Sizes.{close, close_sizes, level_sizes}
use Rattle.crn_sizes.specs.declared.LevelSizes.{LevelSizes}
use Rattle.crn_sizes.proofs.Enough.{sizes_so, bytes-reach}
use Rattle.crn_laws_total.specs.Leaves.{Leaves}
use Rattle.crn_laws_total.specs.Ends.{Declined, Accepted, LevelEnds, grid_at, closely}
use Rattle.crn_laws_total.proofs.Bytes.{first-leaves, same-leaves}
use Rattle.crn_laws_total.proofs.Level.{level-ends}

-- ---- of one face and one row at least, it reaches to the last of its bytes

close-reach : (faces columns rows bytes : ℕ) → 0 < faces → 0 < rows
    → reach (close faces columns rows bytes) ≡ faces * (rows * (columns * bytes))
close-reach zero columns rows bytes f r = absurd (omega arith)
close-reach (suc faces) columns zero bytes f r = absurd (omega arith)
close-reach (suc faces) columns (suc rows) bytes f r = bytes-reach faces columns rows bytes

some-pixels : (n : ℕ) (b : Bool) → eqb n 0 ≡ b → 0 < blocks (pick b 1 n)
some-pixels n true e = omega arith
some-pixels n false e = let z : n ≡ 0 → ⊥ = eqb-false n 0 e in omega arith

some-blocks : (side level : ℕ) → 0 < blocks (pixels side level)
some-blocks side level = some-pixels (side / 2 ^ level) (eqb (side / 2 ^ level) 0) refl

one_or_six : (n : ℕ) (a b : Bool) → eqb n 1 ≡ a → eqb n 6 ≡ b → either a b ≡ true → 0 < n
one_or_six n true b e f h = let z : n ≡ 1 = eqb-true n 1 e in omega arith
one_or_six n false true e f h = let z : n ≡ 6 = eqb-true n 6 f in omega arith
one_or_six n false false e f h = absurd (false≢true h)

some_faces : (h : Header) → within_limits h ≡ true → 0 < h.faces
unfolding within_limits
some_faces h e =
    let p0 = both_hold (between 1 max_side h.width) _ e in
    let p1 = both_hold (between 1 max_side h.height) _ p0.1 in
    let p2 = both_hold (between 1 max_levels h.levels) _ p1.1 in
    let p3 = both_hold (either (eqb h.faces 1) (eqb h.faces 6)) _ p2.1 in
    one_or_six h.faces (eqb h.faces 1) (eqb h.faces 6) refl refl p3.0

pub told-reach : (h : Header) (n : ℕ) → within_limits h ≡ true → ltb n h.levels ≡ true → reach (grid_at h n) ≡ (level_sizes h n).bytes
unfolding grid_of
told-reach h n within there =
    rw (sizes_so h n within there)
    (close-reach h.faces (blocks (pixels h.width n)) (blocks (pixels h.height n)) (block_bytes (kind_of h.format))
    (some_faces h within) (some-blocks h.height n))

-- ---- its blocks lie in the bytes that are for it

close-low : (faces columns rows bytes f x y : ℕ) → In (close faces columns rows bytes) f x y
    → place_of (close faces columns rows bytes) f x y + bytes ≤ faces * (rows * (columns * bytes))
close-low faces columns rows bytes f x y at =
    omega (arith, further bytes at.column, further (columns * bytes) at.row, further (rows * (columns * bytes)) at.face)

low : (h : Header) (n : ℕ) → level_sizes h n ≡ close_sizes h n → (f x y : ℕ) → In (grid_at h n) f x y
    → place_of (grid_at h n) f x y + (grid_at h n).bytes ≤ (level_sizes h n).bytes
unfolding grid_of
low h n so = rw so (λ f x y at. close-low _ _ _ _ f x y at)

-- ---- how a call ends that is answered so

module _ (r : Record) (file : List ℕ) (p : Palettes) (n budget : ℕ) (d : List ℕ) where
  ends_so : {u : Unpacking} → closely r file p n budget d ≡ u
      → LevelEnds r file p n (level_sizes r.header n).pitch (level_sizes r.header n).distance budget d u
  ends_so is =
      subst (LevelEnds r file p n (level_sizes r.header n).pitch (level_sizes r.header n).distance budget d) is
      (level-ends r file p n (level_sizes r.header n).pitch (level_sizes r.header n).distance budget d)

  pub accepted_so : {s c : ℕ} {e : List ℕ} → closely r file p n budget d ≡ unpacked s c e
      → Accepted r (level_segment file r.header n) p (grid_at r.header n) budget s c d e
  accepted_so = ends_so

  pub declined_so : {m s bit : ℕ} {e : List ℕ} → closely r file p n budget d ≡ declined m s bit e
      → Declined r (level_segment file r.header n) (grid_at r.header n) budget m s bit d e
  declined_so = ends_so

-- ---- one that is accepted

module _ (r : Record) (file : List ℕ) (p : Palettes) (n budget : ℕ) (d : List ℕ) {s c : ℕ} {e : List ℕ}
    (is : closely r file p n budget d ≡ unpacked s c e) where
  abbrev z : LevelSizes
  z = level_sizes r.header n

  abbrev bytes : ℕ
  bytes = (level_sizes r.header n).bytes

  abbrev g : Grid
  g = grid_at r.header n

  pub passed : LevelPassed r file p n (level_sizes r.header n).pitch (level_sizes r.header n).distance (length d)
  passed = accepted-passed r file p n z.pitch z.distance budget d is

  reaches : reach (grid_at r.header n) ≡ (level_sizes r.header n).bytes
  reaches = told-reach r.header n passed.limits passed.number

  -- its bytes are there, and its blocks in them
  pub there : (level_sizes r.header n).bytes ≤ length d
  there = omega (arith, reaches, leb-true (reach g) (length d) passed.room)

  pub lies_low : (f x y : ℕ) → In (grid_at r.header n) f x y
      → place_of (grid_at r.header n) f x y + (grid_at r.header n).bytes ≤ (level_sizes r.header n).bytes
  lies_low = low r.header n (sizes_so r.header n passed.limits passed.number)

  passed_alone : LevelPassed r file p n z.pitch z.distance (length (take bytes d))
  passed_alone =
      record {
        limits = passed.limits;
        tables = passed.tables;
        number = passed.number;
        stands = passed.stands;
        palettes = passed.palettes;
        grid = passed.grid;
        room = le-leb (reach g) (length (take bytes d)) (omega (arith, reaches, length-take-le bytes d there));
      }

  l : Accepted r (level_segment file r.header n) p (grid_at r.header n) budget s c d e
  l = accepted_so r file p n budget d is

  -- the run does not look at the destination
  abbrev block : ℕ → ℕ → ℕ → List ℕ
  block = block_at g (shades_of (kind_of r.header.format) p) l.chunks

  abbrev shown : List ℕ
  shown = painted g block g.faces (take bytes d)

  answered_alone : closely r file p n budget (take bytes d) ≡ unpacked s c shown
  unfolding drawn_level ended
  answered_alone =
      let drawn = sym (passed-drawn r file p n z.pitch z.distance budget d passed) ∙ is in
      let drawn-alone = passed-drawn r file p n z.pitch z.distance budget (take bytes d) passed_alone in
      let one = rw l.read at drawn in
      let two = rw l.read at drawn-alone in
      cc

  left_alone : shown ≡ take bytes e
  left_alone =
      let k : Accepted r (level_segment file r.header n) p g budget s c (take bytes d) shown =
      accepted_so r file p n budget (take bytes d) answered_alone in
      let both = sym k.read ∙ l.read in
      let same : k.chunks ≡ l.chunks = cc in
      same-leaves
      (subst
      (λ (cs : List Chunk). Leaves g (λ f x y i. get_or (block_at g (shades_of (kind_of r.header.format) p) cs f x y) i 0) (take bytes d)
      shown)
      same k.leaves)
      (first-leaves bytes lies_low l.leaves)

  pub alone : closely r file p n budget (take bytes d) ≡ unpacked s c (take bytes e)
  alone = answered_alone ∙ ap (unpacked s c) left_alone
