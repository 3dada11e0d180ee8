-- How a writing ends, and when it is written. Over every container whose plan is sound and whose stamp keeps out of the surfaces. Assumes
-- nothing.
use Prim.Native.Nat.{ℕ, ◌+◌, ◌-◌, ◌≤◌, ◌<◌}
use mathlib.Core.Path.{◌≡◌, refl, sym, ap, ◌∙◌}
use mathlib.Core.Bool.{Bool, true, false}
use mathlib.Core.Logic.{inl, inr, ⊎_elim, ◌↔◌}
use mathlib.Core.List.{List, ◌++◌}
use native.Mathlib.Omega.{arith}
use lib.ListN.{length, get_or, take, drop, length-append, length-drop, get_or-append}
use lib.Seq.{length-take-le, get_or-append-add, get_or-drop}
use lib.Dec.{leb}
use borrow.Author.Tests.{leb-true, leb-false}
use Rattle.crn_format.specs.Choice.{pick}
use Rattle.crn_format.specs.Header.{within_limits}
use Rattle.crn_format.specs.Opening.{Palettes}
use Rattle.crn_format.specs.Grid.{place_of}
use Rattle.crn_format.specs.Unpacking.{tables_hold}
use Rattle.crn_format.specs.declared.Header.{Header}
use Rattle.crn_format.specs.declared.Record.{Record}
use Rattle.crn_formats.proofs.Limited.{limited}
use Rattle.crn_laws.specs.Scripts.{Draws}
use Rattle.crn_laws.proofs.Theorems.{only-script}
use Rattle.picture.specs.Kinds.{goes_out}
use Rattle.picture.specs.Surfaces.{picture_of}
use Rattle.picture.specs.Writing.{Sums, nothing, Stop, Put, put, stopped, put_from}
use Rattle.picture.specs.Writing.{Container, Writing, written, refused, finished, early, writing}
use Rattle.law_containers.specs.Standing.{given_at, grid_at, Sound, Stamps, Fair, Checked, Writable, Standing}
use Rattle.law_containers.specs.Standing.{Early, limits, tables, format, room, Refuses, WritingEnds}
use Rattle.law_containers.proofs.Filling.{in_surface, scripts_in, Filled, PutEnds, put-ends}
use Rattle.law_containers.proofs.Passing.{passes}
use Rattle.law_containers.proofs.Numbers.{stops_unfair, not-fair, not-checked}

-- what was written could be, and what was refused could not

module _ {c : Container} {r : Record} {file : List ℕ} {p : Palettes} {dst after : List ℕ} where
  pub standing-able : {n : ℕ} {t : Sums} → Standing c r file p dst n t after → Writable c r file p dst
  standing-able s = record { checked = s.checked; levels = λ l h. (s.scripts l, (s.levels l h).fair) }

  pub refused_unable : {s : Stop} → Refuses c r file p dst s after → Writable c r file p dst → ⊥
  refused_unable {s} e able =
      ⊎_elim (λ u. not-checked u.why able.checked)
      (λ z. not-fair z.why (able.levels s.level z.stops.number).1) e

-- what lies beyond the first n bytes
beyond-same : (a dst : List ℕ) (n : ℕ) → length a ≡ n → (i : ℕ) → n ≤ i → get_or (a ++ drop n dst) i 0 ≡ get_or dst i 0
beyond-same a dst n long i h =
    let e : length a + (i - n) ≡ i = omega arith in
    let f : n + (i - n) ≡ i = omega arith in
    ap (λ (k : ℕ). get_or (a ++ drop n dst) k 0) (sym e) ∙ get_or-append-add a (drop n dst) (i - n) 0 ∙ get_or-drop n dst (i - n) 0
    ∙ ap (λ (k : ℕ). get_or dst k 0) f

module _ (c : Container) (r : Record) (file : List ℕ) (p : Palettes) (dst : List ℕ) where
  -- what was written, and what it was made of
  pub record Made (n : ℕ) (t : Sums) (after : List ℕ) : Type 0 where
    pub standing : Standing c r file p dst n t after
    pub blocks : List ℕ
    pub long : length blocks ≡ c.plan.total
    pub so : after ≡ c.stamp t.cutouts blocks ++ drop c.plan.total dst

  abbrev pub MadeEnds : Writing → Type 0
  MadeEnds (written n t after) = Made n t after
  MadeEnds (refused s after) = Refuses c r file p dst s after

  early-end : {n : ℕ} → Early c r dst n → MadeEnds (refused (early n) dst)
  early-end why = inl (record { same = refl; level = refl; bit = refl; symbols = refl; why = why })

module _ (c : Container) (r : Record) (file : List ℕ) (p : Palettes) (dst : List ℕ) {head : ℕ}
    (sound : Sound (picture_of r.header) head c.plan) (checked : Checked c r dst) where
  some : 0 < r.header.faces
  some = (limited r.header checked.limits).face

  region : length (take c.plan.total dst) ≡ c.plan.total
  region = length-take-le c.plan.total dst checked.room

  -- a level has one script at most
  pub fair-only : (l : ℕ) → l < r.header.levels → {cs ds : List Draws} → Fair c.plan r file p l cs → Fair c.plan r file p l ds
      → cs ≡ ds
  fair-only l number {cs} {ds} a b =
      only-script (given_at c.plan r file p (take c.plan.total dst) l)
      (passes c.plan r file p sound checked.limits checked.tables some l number (take c.plan.total dst) region a.segment
      a.palettes)
      cs ds a.script b.script

module _ (c : Container) (r : Record) (file : List ℕ) (p : Palettes) (dst : List ℕ) {head : ℕ}
    (sound : Sound (picture_of r.header) head c.plan) (stamps : Stamps (picture_of r.header) c) (checked : Checked c r dst) where
  abbrev lent : List ℕ
  lent = take c.plan.total dst

  abbrev beyond : List ℕ
  beyond = drop c.plan.total dst

  as_lent : length lent ≡ c.plan.total
  as_lent = region c r file p dst sound checked

  faces : 0 < r.header.faces
  faces = some c r file p dst sound checked

  made : (t : Sums) (d : List ℕ) → Filled c.plan r file p lent r.header.levels t d
      → Made c r file p dst c.plan.total t (c.stamp t.cutouts d ++ beyond)
  made t d fill =
      let long : length d ≡ c.plan.total = fill.long ∙ as_lent in
      let whole : length (c.stamp t.cutouts d) ≡ c.plan.total = stamps.long t.cutouts d ∙ long in
      record {
        standing = record {
          checked = checked;
          bytes = refl;
          long =
              omega (
                arith,
                length-append (c.stamp t.cutouts d) beyond,
                whole,
                length-drop c.plan.total dst,
                checked.room,
              );
          scripts = scripts_in c.plan r file p;
          levels = λ l number.
              let s = fill.levels l number in
              record {
                fair = s.fair;
                blocks = λ f x y k at small.
                    let a = in_surface r.header checked.limits l number c.plan f x y k at small in
                    let low : c.plan.from l + (place_of (grid_at c.plan r.header l) f x y + k) < c.plan.total =
                    omega (arith, a.ends, sound.within f l a.face a.level) in
                    get_or-append (c.stamp t.cutouts d) beyond 0 _ (omega (arith, low, whole))
                    ∙ stamps.surfaces t.cutouts d (omega (arith, long)) f l _ a ∙ s.blocks f x y k at small;
              };
          counted = fill.counted;
          beyond = beyond-same (c.stamp t.cutouts d) dst c.plan.total whole;
        };
        blocks = d;
        long = long;
        so = refl;
      }

  finish : (q : Put) → PutEnds c.plan r file p lent q → MadeEnds c r file p dst (finished c beyond q)
  unfolding finished
  finish (put t d) fill = made t d fill
  finish (stopped s) stops =
      inr (record {
        checked = checked;
        zeros = refl;
        stops = stops;
        why = stops_unfair c.plan r file p sound checked.limits checked.tables faces stops;
      })

  levels-end : MadeEnds c r file p dst (finished c beyond (put_from r.header.levels c.plan r file p 0 nothing lent))
  levels-end = finish _ (put-ends c.plan r file p lent sound checked.limits as_lent faces)

module _ (of : Header → Container) (r : Record) (file : List ℕ) (p : Palettes) (dst : List ℕ) {head : ℕ}
    (sound : Sound (picture_of r.header) head (of r.header).plan) (stamps : Stamps (picture_of r.header) (of r.header)) where
  abbrev c : Container
  c = of r.header

  pub made_ends : MadeEnds (of r.header) r file p dst (writing of r file p dst)
  unfolding writing
  made_ends =
      by (within_limits r.header) (tables_hold r.tables) (goes_out r.header.format) (leb c.plan.total (length dst))
      refl refl refl refl
    where
      by : (a b d e : Bool) → within_limits r.header ≡ a → tables_hold r.tables ≡ b → goes_out r.header.format ≡ d
          → leb c.plan.total (length dst) ≡ e
          → MadeEnds c r file p dst
          (pick a (pick b (pick d (pick e (finished c (drop c.plan.total dst)
          (put_from r.header.levels c.plan r file p 0 nothing (take c.plan.total dst)))
          (refused (early 12) dst)) (refused (early 16) dst)) (refused (early 6) dst)) (refused (early 2) dst))
      by false b d e ea eb ed ee = early-end c r file p dst (limits ea)
      by true false d e ea eb ed ee = early-end c r file p dst (tables ea eb)
      by true true false e ea eb ed ee = early-end c r file p dst (format ea eb ed)
      by true true true false ea eb ed ee = early-end c r file p dst (room ea eb ed (leb-false _ _ ee))
      by true true true true ea eb ed ee =
          levels-end c r file p dst sound stamps (record { limits = ea; tables = eb; out = ed; room = leb-true _ _ ee })

  pub writing-ends : WritingEnds (of r.header) r file p dst (writing of r file p dst)
  writing-ends = by (writing of r file p dst) made_ends
    where
      by : (w : Writing) → MadeEnds c r file p dst w → WritingEnds c r file p dst w
      by (written n t after) m = m.standing
      by (refused s after) e = e

  -- it is written exactly when the checks pass and every level can be unpacked
  pub written_exactly : ((n : ℕ) × (t : Sums) × (after : List ℕ) × (writing of r file p dst ≡ written n t after))
      ↔ Writable (of r.header) r file p dst
  written_exactly = ((λ w. by_end _ w.3 writing-ends), (λ w. by_able _ refl writing-ends w))
    where
      by_end : {n : ℕ} {t : Sums} {after : List ℕ} (w : Writing) → w ≡ written n t after → WritingEnds c r file p dst w
          → Writable c r file p dst
      by_end (written n t after) is s = standing-able s
      by_end (refused s after) is e = let z : ◌≡◌ {A = ℕ} 0 1 = cc in absurd (omega arith)

      by_able : (w : Writing) → writing of r file p dst ≡ w → WritingEnds c r file p dst w → Writable c r file p dst
          → (n : ℕ) × (t : Sums) × (after : List ℕ) × (writing of r file p dst ≡ written n t after)
      by_able (written n t after) is e able = (n, t, after, is)
      by_able (refused s after) is e able = absurd (refused_unable e able)
