-- Levels put into their places, one after another: each stands there and is counted, and nothing else is touched; or one is refused. Over
-- every sound plan. Assumes nothing.
use Prim.Native.Nat.{ℕ, zero, suc, ◌+◌, ◌*◌, ◌-◌, ◌≤◌, ◌<◌}
use mathlib.Core.Path.{◌≡◌, refl, sym, ap, subst, ◌∙◌}
use mathlib.Core.Bool.{true}
use mathlib.Core.Logic.{◌⊎◌, inl, inr, ⊎_elim}
use mathlib.Core.List.{List, ◌++◌}
use native.Mathlib.Numerals.{add-one}
use native.Mathlib.Omega.{arith}
use lib.ListN.{length, get_or, take, length-append, length-drop, get_or-append}
use lib.Seq.{length-take-le, get_or-append-add, get_or-take, get_or-drop}
use borrow.Author.Tests.{lt-ltb}
use Rattle.crn_format.specs.Header.{kind_of, block_bytes, within_limits}
use Rattle.crn_format.specs.Opening.{Palettes}
use Rattle.crn_format.specs.Grid.{place_of, pixels, blocks}
use Rattle.crn_format.specs.Unpacking.{grid_of, Unpacking, unpacked, declined}
use Rattle.crn_format.specs.declared.Header.{Header}
use Rattle.crn_format.specs.declared.Record.{Record}
use Rattle.crn_blocks.specs.Sheet.{In}
use Rattle.crn_blocks.proofs.Places.{below_or, further}
use Rattle.crn_sizes.specs.Sizes.{level_sizes}
use Rattle.crn_sizes.specs.declared.LevelSizes.{LevelSizes}
use Rattle.crn_sizes.proofs.Enough.{sizes_so}
use Rattle.crn_laws.specs.Scripts.{Draws}
use Rattle.crn_laws.specs.Levels.{unpacking_in, ScriptOf}
use Rattle.crn_laws.specs.Blocks.{blocks_by}
use Rattle.crn_laws.proofs.Theorems.{only-script}
use Rattle.crn_laws_total.specs.Leaves.{InBlock}
use Rattle.crn_laws_total.specs.Ends.{sum_of}
use Rattle.picture.specs.declared.Picture.{Picture}
use Rattle.picture.specs.Surfaces.{Plan, picture_of, surface}
use Rattle.picture.specs.Writing.{Sums, nothing, more, Put, put, stopped, onward, put_from}
use Rattle.law_containers.specs.Standing.{given_at, level_at, grid_at, Stands, symbols_by, cutouts_by, Counted, Stops, InSurface, Sound}
use Rattle.law_containers.proofs.Level.{script_in, script_in_lem, Left, full, told-left}

-- ---- a block lies in its surface

low : (columns rows bytes x y k : ℕ) → x < columns → y < rows → k < bytes
    → y * (columns * bytes) + x * bytes + k < rows * (columns * bytes)
low columns rows bytes x y k hx hy hk = omega (arith, further bytes hx, further (columns * bytes) hy)

module _ (h : Header) (limits : within_limits h ≡ true) (l : ℕ) (number : l < h.levels) where
  abbrev columns : ℕ
  columns = blocks (pixels h.width l)

  abbrev bytes : ℕ
  bytes = block_bytes (kind_of h.format)

  pub pitch_so : (level_sizes h l).pitch ≡ blocks (pixels h.width l) * block_bytes (kind_of h.format)
  unfolding grid_of
  pitch_so = ap (λ (z : LevelSizes). z.pitch) (sizes_so h l limits (lt-ltb l h.levels number))

  pub in_surface : (pl : Plan) (f x y k : ℕ) → In (grid_at pl h l) f x y → k < (grid_at pl h l).bytes
      → InSurface pl (picture_of h) f l (pl.from l + (place_of (grid_at pl h l) f x y + k))
  unfolding grid_of surface
  in_surface pl f x y k at small =
      let b = low columns (blocks (pixels h.height l)) bytes x y k at.column at.row small in
      let e : y * (level_sizes h l).pitch ≡ y * (columns * bytes) = ap (λ (n : ℕ). y * n) pitch_so in
      record { face = at.face; level = number; starts = omega arith; ends = omega arith }

-- ---- one level more

-- a part put back behind the first bytes
module _ (a : ℕ) (d rest : List ℕ) (fits : a ≤ length d) where
  put-behind : (j : ℕ) → get_or (take a d ++ rest) (a + j) 0 ≡ get_or rest j 0
  put-behind j =
      ap (λ (n : ℕ). get_or (take a d ++ rest) (n + j) 0) (sym (length-take-le a d fits)) ∙ get_or-append-add (take a d) rest j 0

  put-before : (i : ℕ) → i < a → get_or (take a d ++ rest) i 0 ≡ get_or d i 0
  put-before i h = get_or-append (take a d) rest 0 i (omega (arith, length-take-le a d fits)) ∙ get_or-take a d i 0 h

sum-last : (n : ℕ) (f : ℕ → ℕ) → sum_of (suc n) f ≡ sum_of n f + f n
sum-last zero f = omega arith
sum-last (suc n) f = omega (arith, sum-last n (λ i. f (suc i)))

module _ (pl : Plan) (r : Record) (file : List ℕ) (p : Palettes) where
  -- the script of each level that has one
  abbrev pub scripts_in : ℕ → List Draws
  scripts_in l = script_in (level_at pl r file p l)

  -- of dst the first m levels were filled, and d came of it: they stand in d and are counted, and what is in none of their surfaces is as
  -- before
  pub record Filled (dst : List ℕ) (m : ℕ) (t : Sums) (d : List ℕ) : Type 0 where
    pub long : length d ≡ length dst
    pub levels : (l : ℕ) → l < m → Stands pl r file p d l (scripts_in l)
    pub counted : Counted pl r file p scripts_in m t
    pub kept : (i : ℕ) → ((f l : ℕ) → l < m → InSurface pl (picture_of r.header) f l i → ⊥) → get_or d i 0 ≡ get_or dst i 0

  none : (dst : List ℕ) → Filled dst 0 nothing dst
  none dst =
      record {
        long = refl;
        levels = λ l h. absurd (omega arith);
        counted = record { symbols = refl; cutouts = refl };
        kept = λ i out. refl;
      }

  -- all levels of dst, or up to one that is refused
  abbrev pub PutEnds : List ℕ → Put → Type 0
  PutEnds dst (put t d) = Filled dst r.header.levels t d
  PutEnds dst (stopped s) = Stops pl r file p s

module _ (pl : Plan) (r : Record) (file : List ℕ) (p : Palettes) (dst : List ℕ) {head : ℕ}
    (sound : Sound (picture_of r.header) head pl) (limits : within_limits r.header ≡ true) (all : length dst ≡ pl.total)
    (some : 0 < r.header.faces) where
  abbrev pic : Picture
  pic = picture_of r.header

  abbrev scripts : ℕ → List Draws
  scripts = scripts_in pl r file p

  abbrev Done : ℕ → Sums → List ℕ → Type 0
  Done = Filled pl r file p dst

  module _ (m : ℕ) (number : m < r.header.levels) (t : Sums) (d : List ℕ) (done : Done m t d) {s c : ℕ} {rest : List ℕ}
      (is : unpacking_in (given_at pl r file p d m) (full (level_at pl r file p m)) ≡ unpacked s c rest) where
    left : Left (given_at pl r file p d m) s c rest
    left = told-left (given_at pl r file p d m) is

    has : ScriptOf (level_at pl r file p m) (scripts m)
    has = script_in_lem (level_at pl r file p m) left.passes.tables left.script left.is

    same : left.script ≡ scripts m
    same = only-script (given_at pl r file p d m) left.passes left.script (scripts m) left.is has

    fits : pl.from m ≤ length d
    fits = omega (arith, sound.within 0 m some number, done.long)

    abbrev next : List ℕ
    next = take (pl.from m) d ++ rest

    -- what is in none of its surfaces is as before
    untouched : (i : ℕ) → ((f : ℕ) → InSurface pl pic f m i → ⊥) → get_or next i 0 ≡ get_or d i 0
    untouched i out = ⊎_elim (put-before (pl.from m) d rest fits i) behind (below_or i (pl.from m))
      where
        behind : pl.from m ≤ i → get_or next i 0 ≡ get_or d i 0
        behind h =
            let j = i - pl.from m in
            let e : pl.from m + j ≡ i = omega arith in
            let free : InBlock (grid_at pl r.header m) j → ⊥ = λ b.
            out b.face (subst (InSurface pl pic b.face m) (ap (λ (n : ℕ). pl.from m + n) (sym b.here) ∙ e)
            (in_surface r.header limits m number pl b.face b.column b.row b.byte b.block b.small))
            in
            ap (λ (n : ℕ). get_or next n 0) (sym e) ∙ put-behind (pl.from m) d rest fits j ∙ left.leaves.others j free
            ∙ get_or-drop (pl.from m) d j 0 ∙ ap (λ (n : ℕ). get_or d n 0) e

    -- the surfaces of an earlier level are none of its own
    elsewhere : (l f i : ℕ) → l < m → InSurface pl pic f l i → (g : ℕ) → InSurface pl pic g m i → ⊥
    elsewhere l f i h a g b =
        ⊎_elim (λ lt. omega (arith, a.ends, b.starts)) (λ lt. omega (arith, a.starts, b.ends))
        (sound.apart f g l m a.face b.face a.level number (λ e. omega arith))

    stand : (l : ℕ) → (l < m) ⊎ (m ≤ l) → l < suc m → Stands pl r file p next l (scripts l)
    stand l (inl h) few =
        let old = done.levels l h in
        record {
          fair = old.fair;
          blocks = λ f x y k at small.
              untouched _ (elsewhere l f _ h (in_surface r.header limits l (omega arith) pl f x y k at small))
              ∙ old.blocks f x y k at small;
        }
    stand l (inr h) few =
        let e : m ≡ l = omega arith in
        subst (λ (n : ℕ). Stands pl r file p next n (scripts n)) e (record {
          fair = record { segment = left.passes.segment; palettes = left.passes.palettes; script = has };
          blocks = λ f x y k at small.
              put-behind (pl.from m) d rest fits (place_of (grid_at pl r.header m) f x y + k) ∙ left.leaves.blocks f x y k at small
              ∙ ap (λ (ds : List Draws). get_or (blocks_by (level_at pl r file p m) ds f x y) k 0) same;
        })

    one_more : Done (suc m) (more t s c) next
    one_more =
        record {
          long =
              let a = length-append (take (pl.from m) d) rest in
              omega (arith, a, length-take-le (pl.from m) d fits, left.leaves.long, length-drop (pl.from m) d, done.long, fits);
          levels = λ l few. stand l (below_or l m) few;
          counted = record {
            symbols =
                omega (
                  arith,
                  done.counted.symbols,
                  left.symbols,
                  ap (symbols_by pl r file p m) same,
                  sum-last m (λ l. symbols_by pl r file p l (scripts l)),
                );
            cutouts =
                omega (
                  arith,
                  done.counted.cutouts,
                  left.cutouts,
                  ap (cutouts_by pl r file p m) same,
                  sum-last m (λ l. cutouts_by pl r file p l (scripts l)),
                );
          };
          kept = λ i out. untouched i (λ f a. out f m (omega arith) a) ∙ done.kept i (λ f l h a. out f l (omega arith) a);
        }

  -- ---- all of them

  abbrev Ends : Put → Type 0
  Ends = PutEnds pl r file p dst

  from : (n m : ℕ) → m + n ≡ r.header.levels → (t : Sums) (d : List ℕ) → Done m t d → Ends (put_from n pl r file p m t d)
  unfolding put_from onward
  from zero m whole t d done =
      let last : m ≡ r.header.levels = omega arith in
      subst (λ (k : ℕ). Done k t d) last done
  from (suc n) m whole t d done =
      by (unpacking_in (given_at pl r file p d m) (level_sizes r.header m).symbols) refl (λ t d f. from n (m + 1) (omega arith) t d f)
    where
      by : (u : Unpacking) → unpacking_in (given_at pl r file p d m) (level_sizes r.header m).symbols ≡ u
          → ((t : Sums) (d : List ℕ) → Done (m + 1) t d → Ends (put_from n pl r file p (m + 1) t d))
          → Ends (onward m (pl.from m) t d (put_from n pl r file p (m + 1)) u)
      by (unpacked s c rest) is go =
          go (more t s c) (take (pl.from m) d ++ rest) (rw add-one (one_more m (omega arith) t d done is))
      by (declined k s bit rest) is go =
          record {
            number = omega arith;
            scripts = scripts;
            before = λ l h. (done.levels l h).fair;
            output = d;
            long = done.long ∙ all;
            drawn = s;
            rest = rest;
            answers = is;
            symbols = omega (arith, done.counted.symbols);
          }

  pub put-ends : PutEnds pl r file p dst (put_from r.header.levels pl r file p 0 nothing dst)
  put-ends = from r.header.levels 0 (omega arith) nothing dst (none pl r file p dst)
