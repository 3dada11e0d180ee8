-- What a host is told of a level is enough: pitch, distance and bytes are refused by neither 11 nor 12, the symbols not by 15.
use Prim.Native.Nat.{ℕ, ◌*◌, ◌≤◌, ◌<◌}
use mathlib.Core.Bool.{Bool, true, false}
use mathlib.Core.Logic.{◌⊎◌, inl, inr}
use mathlib.Core.List.{List}
use mathlib.Core.Path.{◌≡◌, refl, sym, ap, subst, ◌∙◌}
use native.Mathlib.Omega.{arith}
use lib.ListN.{length, take, drop}
use lib.Dec.{ltb}
use borrow.Author.Tests.{lt-ltb}
use Rattle.crn_format.specs.declared.Kind.{Kind}
use Rattle.crn_format.specs.declared.Kind.TheVariants.{DXT1, DXT5, DXT5A, DXN, Unknown}
use Rattle.crn_format.specs.Header.{kind_of, block_bytes, within_limits}
use Rattle.crn_format.specs.Opening.{Palettes}
use Rattle.crn_format.specs.Grid.{pixels, blocks}
use Rattle.crn_format.specs.Unpacking.{Unpacking, unpacked, declined, level_stands, grid_of, grid_fits, reach, unpacking}
use Rattle.crn_format.specs.declared.Header.{Header}
use Rattle.crn_format.specs.declared.Record.{Record}
use Rattle.crn_format.specs.declared.Grid.{Grid}
use Rattle.crn_sizes.specs.Sizes.{close, level_sizes}
use Rattle.crn_sizes.specs.declared.LevelSizes.{LevelSizes}
use Rattle.crn_sizes.proofs.Enough.{sizes_so, grid-fits}
use Rattle.crn_laws.specs.Levels.{Given, unpacking_in, Passes}
use Rattle.crn_laws.proofs.Theorems.{told-allowed}
use Rattle.crn_laws_total.specs.Refusals.{among}
use Rattle.crn_laws_total.specs.Ends.{grid_at}
use Rattle.crn_laws_total.proofs.Numbers.{among_second}
use Rattle.crn_laws_total.proofs.Close.{told-reach}
use Rattle.law_containers.proofs.Numbers.{in_stream}
use Rattle.crn_promises.specs.Calls.{LevelCall, given_by, answer_in}
use Rattle.crn_promises.specs.Promises.{LevelSame, Ready, left_to_refuse, LevelTold}

-- ---- the grid

four : (k : Kind) → (q : ℕ) × (block_bytes k ≡ 4 * q)
four DXT1 = (2, refl)
four DXT5 = (4, refl)
four DXT5A = (2, refl)
four DXN = (4, refl)
four Unknown = (0, refl)

close-fits : (faces columns rows bytes q : ℕ) → bytes ≡ 4 * q → grid_fits (close faces columns rows bytes) ≡ true
close-fits faces columns rows bytes q e = rw e (grid-fits faces columns rows q)

told-fits : (h : Header) (n : ℕ) → within_limits h ≡ true → ltb n h.levels ≡ true → grid_fits (grid_at h n) ≡ true
unfolding grid_of
told-fits h n within there =
    rw (sizes_so h n within there)
    (close-fits h.faces (blocks (pixels h.width n)) (blocks (pixels h.height n)) (block_bytes (kind_of h.format))
    (four (kind_of h.format)).0 (four (kind_of h.format)).1)

-- ---- the level

-- accepted, or refused by what is left to refuse it
abbrev pub Told : Unpacking → Type 0
Told (unpacked symbols cutouts after) = Unit {0}
Told (declined number symbols bit after) = among number left_to_refuse ≡ true

module _ (r : Record) (file : List ℕ) (p : Palettes) (n budget : ℕ) (dst : List ℕ) (ready : Ready r p) (there : n < r.header.levels)
    (room : (level_sizes r.header n).bytes ≤ length dst) (symbols : (level_sizes r.header n).symbols ≤ budget) where
  abbrev z : LevelSizes
  z = level_sizes r.header n

  abbrev v : Given
  v = given_by r file p n z.pitch z.distance dst

  abbrev g : Grid
  g = grid_at r.header n

  number : ltb n r.header.levels ≡ true
  number = lt-ltb n r.header.levels there

  fits : grid_fits (grid_at r.header n) ≡ true
  fits = told-fits r.header n ready.limits number

  holds : reach (grid_at r.header n) ≤ length dst
  holds = omega (arith, told-reach r.header n ready.limits number)

  passes : level_stands file r.header n ≡ true → Passes v
  passes e =
      record {
        limits = ready.limits;
        tables = ready.tables;
        number = there;
        segment = e;
        palettes = ready.palettes;
        grid = fits;
        room = holds;
      }

  by_answer : Passes v → (u : Unpacking) → unpacking_in v budget ≡ u → Told u
  by_answer c (unpacked s k e) is = tt
  by_answer c (declined m s bit e) is =
      among_second m (take 1 left_to_refuse) (drop 1 left_to_refuse) (in_stream v c budget (omega (arith, told-allowed v c)) is)

  by_segment : (b : Bool) → level_stands file r.header n ≡ b → Told (unpacking r file p n z.pitch z.distance budget dst)
  by_segment true e = by_answer (passes e) _ refl
  by_segment false e = subst Told (sym is) refl
    where
      is : unpacking r file p n z.pitch z.distance budget dst ≡ declined 4 0 0 dst
      is = unfold unpacking in simp (ready.limits, ready.tables, number, e)

  -- a level of an opened file, with the pitch, distance, bytes and symbols that `level_sizes` tells for it
  pub told-enough : Told (unpacking r file p n z.pitch z.distance budget dst)
  told-enough = by_segment (level_stands file r.header n) refl

-- ---- the call

by_told : (u : Unpacking) → Told u → ((answer_in u).refusal ≡ 0) ⊎ (among (answer_in u).refusal left_to_refuse ≡ true)
by_told (unpacked symbols cutouts after) t = inl refl
by_told (declined number symbols bit after) t = inr t

pub level-told : (c : LevelCall) → LevelSame c → LevelTold c
level-told c s ready there e f room symbols =
    rw s.answer (by_told (unpacking_in c.given c.budget)
    (subst Told (sym close) (told-enough r file p n budget dst ready there room symbols)))
  where
    r : Record
    r = c.given.opened

    file : List ℕ
    file = c.given.file

    p : Palettes
    p = c.given.palettes

    n : ℕ
    n = c.given.number

    budget : ℕ
    budget = c.budget

    dst : List ℕ
    dst = c.given.destination

    z : LevelSizes
    z = level_sizes r.header n

    close : unpacking r file p n c.given.pitch c.given.distance budget dst ≡ unpacking r file p n z.pitch z.distance budget
        dst
    close =
        ap (λ (x : ℕ). unpacking r file p n x c.given.distance budget dst) e
        ∙ ap (λ (x : ℕ). unpacking r file p n z.pitch x budget dst) f
