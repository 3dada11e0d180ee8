-- The checks before the first draw: what each refusal answers, and what they leave to count on.
use Prim.Native.Nat.{ℕ, ◌*◌, ◌/◌, ◌%◌, ◌^◌, ◌≤◌, ◌<◌}
use mathlib.Core.Bool.{Bool, true, false, false≢true}
use mathlib.Core.Logic.{◌⊎◌, inl, inr}
use mathlib.Core.List.{List}
use mathlib.Core.Path.{◌≡◌, refl, sym, ap, ◌∙◌}
use native.Mathlib.Omega.{arith}
use native.Mathlib.Nat.{div-le_self}
use lib.ListN.{length, take, drop, length-take, length-drop}
use lib.Dec.{leb, ltb, eqb}
use borrow.Author.Tests.{leb-true, ltb-true}
use Rattle.crn_format.specs.Choice.{pick}
use Rattle.crn_format.specs.Limits.{max_side, too_long}
use Rattle.crn_format.specs.declared.Kind.{Kind}
use Rattle.crn_format.specs.declared.Kind.TheVariants.{DXT1, DXT5, DXT5A, DXN, Unknown}
use Rattle.crn_format.specs.Header.{kind_of, known, block_bytes, within_limits}
use Rattle.crn_format.specs.Grid.{pixels, blocks}
use Rattle.crn_format.specs.Opening.{Palettes}
use Rattle.crn_format.specs.Unpacking.{Unpacking, declined, tables_hold, level_start, level_end, level_stands, level_segment, palettes_reach, grid_of, grid_fits, reach, drawn_level, unpacking}
use Rattle.crn_format.specs.Refusals.{number_of}
use Rattle.crn_format.specs.declared.Header.{Header}
use Rattle.crn_format.specs.declared.Refusal.{Refusal}
use Rattle.crn_format.specs.declared.Record.{Record}
use Rattle.crn_format.specs.declared.Grid.{Grid}
use Rattle.crn_blocks.specs.Sheet.{Room}
use Rattle.crn_drawing.specs.Unpacks.{Drawn, answer_of, Unpacks}
use Rattle.crn_drawing.specs.Levels.{Checked}
use Rattle.crn_level.specs.Refusals.{first_failed, refusal_by, refused}
use Rattle.crn_format.proofs.Choices.{both_hold}
use Rattle.crn_format.proofs.Numbers.{number-above}
use Rattle.crn_format.proofs.Passing.{Passed, LevelPassed, passed-drawn}
use Rattle.crn_formats.proofs.Limited.{Limited, limited}

-- ---- seven tests

not-zero : {X : Type 0} (n : ℕ) → 0 < n → n ≡ 0 → X
not-zero n h e = let z : ⊥ = omega arith in absurd z

passed : (a b c d e f g : Bool) → first_failed a b c d e f g ≡ 0 → Passed a b c d e f g
unfolding first_failed
passed false b c d e f g z = not-zero 2 (omega arith) z
passed true false c d e f g z = not-zero 6 (omega arith) z
passed true true false d e f g z = not-zero 10 (omega arith) z
passed true true true false e f g z = not-zero 4 (omega arith) z
passed true true true true false f g z = not-zero 5 (omega arith) z
passed true true true true true false g z = not-zero 11 (omega arith) z
passed true true true true true true false z = not-zero 12 (omega arith) z
passed true true true true true true true z = record {
  limits = refl;
  tables = refl;
  number = refl;
  stands = refl;
  palettes = refl;
  grid =
      refl;
  room = refl;
}

-- the first that fails decides
failing : (a b c d e f g : Bool) (declines : ℕ → Unpacking) (x : Unpacking) → (first_failed a b c d e f g ≡ 0 → ⊥)
    → pick a (pick b (pick c (pick d (pick e (pick f (pick g x (declines 12)) (declines 11)) (declines 5)) (declines 4)) (declines 10))
    (declines 6)) (declines 2) ≡ declines (first_failed a b c d e f g)
unfolding first_failed
failing false b c d e f g declines x z = refl
failing true false c d e f g declines x z = refl
failing true true false d e f g declines x z = refl
failing true true true false e f g declines x z = refl
failing true true true true false f g declines x z = refl
failing true true true true true false g declines x z = refl
failing true true true true true true false declines x z = refl
failing true true true true true true true declines x z = absurd (z refl)

-- ---- the grid has room

few-blocks : (side level : ℕ) → side ≤ max_side → blocks (pixels side level) < 65536
few-blocks side level h = by (eqb (side / 2 ^ level) 0)
  where
    by : (none : Bool) → blocks (pick none 1 (side / 2 ^ level)) < 65536
    by true = omega arith
    by false = let q : side / 2 ^ level ≤ side = div-le_self side (2 ^ level) in omega arith

eight_or_sixteen : (k : Kind) → known k ≡ true → (block_bytes k ≡ 8) ⊎ (block_bytes k ≡ 16)
eight_or_sixteen DXT1 e = inl refl
eight_or_sixteen DXT5 e = inr refl
eight_or_sixteen DXT5A e = inl refl
eight_or_sixteen DXN e = inr refl
eight_or_sixteen Unknown e = absurd (false≢true e)

room_of : (h : Header) (level pitch distance n : ℕ) → Limited h → grid_fits (grid_of h level pitch distance) ≡ true
    → leb (reach (grid_of h level pitch distance)) n ≡ true → Room (grid_of h level pitch distance) n
unfolding grid_of
room_of h level pitch distance n limits fits reaches =
    let p0 = both_hold (eqb (pitch % 4) 0) _ fits in
    let p1 = both_hold (eqb (distance % 4) 0) _ p0.1 in
    let p2 = both_hold (leb (blocks (pixels h.width level) * block_bytes (kind_of h.format)) pitch) _ p1.1 in
    record {
      few_faces = limits.faces;
      few_columns = few-blocks h.width level limits.width;
      few_rows = few-blocks h.height level limits.height;
      size = eight_or_sixteen (kind_of h.format) limits.known;
      pitch = leb-true _ _ p2.0;
      distance = leb-true _ _ p2.1;
      all = leb-true _ _ reaches;
    }

-- ---- the segment

pub segment-short : (file : List ℕ) (from n : ℕ) → length (take n (drop from file)) ≤ length file
segment-short file from n = simp (length-take, length-drop) (omega arith)

pub record Inside (file : List ℕ) (h : Header) (level : ℕ) : Type 0 where
  pub some : level_start h level < level_end file h level
  pub ends : level_end file h level ≤ length file
  pub short : length file < too_long

pub inside : (file : List ℕ) (h : Header) (level : ℕ) → level_stands file h level ≡ true → Inside file h level
unfolding level_stands
inside file h level e =
    let p0 = both_hold (ltb (level_start h level) (level_end file h level)) _ e in
    let p1 = both_hold (leb (level_end file h level) (length file)) _ p0.1 in
    record { some = ltb-true _ _ p0.0; ends = leb-true _ _ p1.0; short = ltb-true _ _ p1.1 }

-- ---- of a level

module _ (r : Record) (file : List ℕ) (p : Palettes) (level pitch distance n : ℕ) {tables : Bool} (holds : tables ≡ tables_hold r.tables)
    (is : 0 ≡ refusal_by r.header tables file p level pitch distance n) where
  all : LevelPassed r file p level pitch distance n
  all = passed _ _ _ _ _ _ _ (sym (rw holds at is))

  pub stands_so : level_stands file r.header level ≡ true
  stands_so = all.stands

  pub all-checked : {seg : List ℕ} → length seg < too_long → {q : Grid} → q ≡ grid_of r.header level pitch distance → Checked r seg p q n
  all-checked short e =
      rw e (record {
        within = all.limits;
        tables = all.tables;
        short = short;
        palettes = all.palettes;
        bytes = unfold grid_of in refl;
        room = room_of r.header level pitch distance n (limited r.header all.limits) all.grid all.room;
      })

module _ (r : Record) (file : List ℕ) (p : Palettes) (level pitch distance budget : ℕ) (d : List ℕ) {tables : Bool}
    (holds : tables ≡ tables_hold r.tables) where
  pub refused-before : {k : Refusal} → number_of k ≡ refusal_by r.header tables file p level pitch distance (length d)
      → Unpacks (unpacking r file p level pitch distance budget d) budget budget d (refused k)
  unfolding answer_of unpacking
  refused-before {k} is =
      let found = rw holds at is in
      let some : 0 < number_of k = number-above k in
      record {
        answer = ap (λ (n : ℕ). declined n 0 0 d) found ∙ sym (failing (within_limits r.header) (tables_hold r.tables)
            (ltb level r.header.levels) (level_stands file r.header level) (palettes_reach r.header p)
            (grid_fits (grid_of r.header level pitch distance)) (leb (reach (grid_of r.header level pitch distance)) (length d))
            (λ n. declined n 0 0 d)
            (drawn_level r (level_segment file r.header level) p (grid_of r.header level pitch distance) budget d)
            (λ z. omega arith));
        spent = omega arith;
      }

  module _ (is : 0 ≡ refusal_by r.header tables file p level pitch distance (length d)) where
    drawn_so : unpacking r file p level pitch distance budget d
        ≡ drawn_level r (level_segment file r.header level) p (grid_of r.header level pitch distance) budget d
    drawn_so = passed-drawn r file p level pitch distance budget d (all r file p level pitch distance (length d) holds is)

    pub then-level : {seg : List ℕ} → seg ≡ level_segment file r.header level → {q : Grid} → q ≡ grid_of r.header level pitch distance
        → {left : ℕ} {e : List ℕ} {u : Drawn} → Unpacks (drawn_level r seg p q budget d) budget left e u
        → Unpacks (unpacking r file p level pitch distance budget d) budget left e u
    then-level es eg o = rw (drawn_so, ← es, ← eg) o
