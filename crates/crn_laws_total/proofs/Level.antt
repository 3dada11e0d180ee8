-- Every level ends with blocks or with one of its twelve refusals, and leaves the destination as document 01 says.
use Prim.Native.Nat.{ℕ, ◌+◌, ◌-◌, ◌≤◌}
use mathlib.Core.Bool.{Bool, true, false}
use mathlib.Core.List.{List, []}
use mathlib.Core.Path.{◌≡◌, refl, sym, subst, ◌∙◌}
use native.Mathlib.Omega.{arith}
use lib.ListN.{length, get_or}
use lib.Dec.{leb, ltb}
use Rattle.crn_format.specs.Choice.{pick}
use Rattle.crn_format.specs.Reading.{Step, got, refused, Spending, start, run, from_bits, budgeted}
use Rattle.crn_format.specs.Header.{kind_of, within_limits}
use Rattle.crn_format.specs.Opening.{Palettes}
use Rattle.crn_format.specs.Level.{Chunk}
use Rattle.crn_format.specs.Grid.{Shade, color, alpha, chunk_count, insides, block_at, painted}
use Rattle.crn_format.specs.Unpacking.{declined, lengths_of, tables_hold, level_stands, level_segment, palettes_reach, grid_of, grid_fits, reach, planes_of, shades_of, ended, level_reading, drawn_level, unpacking}
use Rattle.crn_format.specs.declared.Header.{Header}
use Rattle.crn_format.specs.declared.Record.{Record}
use Rattle.crn_format.specs.declared.Grid.{Grid}
use Rattle.crn_format.proofs.Budget.{left_of, left_falls}
use Rattle.crn_format.proofs.Planes.{planes-long, planes-bytes}
use Rattle.crn_blocks.specs.Sheet.{In, Room}
use Rattle.crn_level.specs.Refusals.{first_failed, refusal_by}
use Rattle.crn_level.proofs.Checks.{all-checked}
use Rattle.crn_laws_total.specs.Refusals.{among, before_draws, in_draws}
use Rattle.crn_laws_total.specs.Leaves.{Leaves}
use Rattle.crn_laws_total.specs.Ends.{Declined, LevelEnds}
use Rattle.crn_laws_total.proofs.Numbers.{among_first, among_second, none_in_both}
use Rattle.crn_format.proofs.Refusing.{Stops, budget-stops}
use Rattle.crn_laws_total.proofs.LevelReadings.{level_refuses}
use Rattle.crn_laws_total.proofs.Bytes.{painted-leaves, blank-leaves}
use Rattle.crn_laws_total.proofs.Sizes.{through, block-sized}
use Rattle.crn_laws_total.proofs.Counted.{same_count}

-- the refusals of a level's stream
abbrev ok : ℕ → Bool
ok n = among n in_draws

-- a level's chunks are read, or one of them stops it
pub level-stops : (r : Record) (seg : List ℕ) (g : Grid) (budget : ℕ)
    → Stops (λ n. among n in_draws) (run (budgeted (from_bits seg)) (level_reading r g) (record { place = start; left = budget }))
level-stops r seg g budget =
    budget-stops ok refl refl seg refl (level_reading r g)
    (level_refuses ok refl refl (lengths_of r.tables.chunk_encoding) (planes_of r) (insides g 0 (chunk_count g)))
    (record { place = start; left = budget })

module _ (r : Record) (file : List ℕ) (p : Palettes) (n pitch distance budget : ℕ) (dst : List ℕ) where
  abbrev h : Header
  h = r.header

  abbrev g : Grid
  g = grid_of r.header n pitch distance

  abbrev shades : List Shade
  shades = shades_of (kind_of r.header.format) p

  abbrev seg : List ℕ
  seg = level_segment file r.header n

  -- ---- before the first draw

  early : (m : ℕ) → among m before_draws ≡ true
      → Declined r (level_segment file r.header n) (grid_of r.header n pitch distance) budget m 0 0 dst dst
  early m e =
      record {
        number = among_first m before_draws in_draws e;
        untouched = λ _. (refl, (refl, refl));
        stopped = λ f. absurd (none_in_both m before_draws in_draws refl e f);
      }

  -- ---- in the stream

  module _ (room : Room (grid_of r.header n pitch distance) (length dst)) where
    sized : (cs : List Chunk) (w : Spending) → run (budgeted (from_bits seg)) (level_reading r g) (record { place = start; left = budget })
        ≡ got cs w
        → (f x y : ℕ) → In g f x y → length (block_at g shades cs f x y) ≡ g.bytes
    unfolding grid_of
    sized cs w e f x y at =
        block-sized (budgeted (from_bits seg)) (lengths_of r.tables.chunk_encoding) (planes_of r) g
        (record { place = start; left = budget })
        (through (budgeted (from_bits seg)) (lengths_of r.tables.chunk_encoding) (planes_of r) g (record { place = start; left = budget })
        (chunk_count g) e)
        shades (planes-long (kind_of r.header.format) _ _ _ _) f x y at
        ∙ planes-bytes (kind_of r.header.format) (color p.color_ends p.color_sels) (alpha p.alpha_ends p.alpha_sels)

    left : (cs : List Chunk) (w : Spending)
        → run (budgeted (from_bits seg)) (level_reading r g) (record { place = start; left = budget }) ≡ got cs w
        → Leaves g (λ f x y k. get_or (block_at g shades cs f x y) k 0) dst (painted g (block_at g shades cs) g.faces dst)
    left cs w e =
        painted-leaves dst room (block_at g shades cs) (sized cs w e) (λ f x y k. get_or (block_at g shades cs f x y) k 0)
        (λ f x y k _. refl)

    -- what is drawn is what is not left
    whole : (y : Step Spending (List Chunk))
        → run (budgeted (from_bits seg)) (level_reading r g) (record { place = start; left = budget }) ≡ y
        → left_of y + (budget - left_of y) ≡ budget
    whole y e =
        let few : left_of y ≤ budget =
        subst (λ (x : Step Spending (List Chunk)). left_of x ≤ budget) e
        (left_falls (from_bits seg) (level_reading r g) (record { place = start; left = budget })) in
        omega arith

    by_run : (y : Step Spending (List Chunk)) → run (budgeted (from_bits seg)) (level_reading r g) (record { place = start; left = budget })
        ≡ y → Stops ok y
        → LevelEnds r file p n pitch distance budget dst (ended (kind_of r.header.format) g shades budget dst y)
    unfolding ended
    by_run (got cs w) e stops =
        record {
          chunks = cs;
          left = w;
          read = e;
          sized = sized cs w e;
          leaves = left cs w e;
          drawn = whole (got cs w) e;
          counted = sym (same_count (block_at g shades cs) (left cs w e) (sized cs w e) (kind_of r.header.format));
        }
    by_run (refused m w) e stops =
        record {
          number = among_second m before_draws in_draws stops;
          untouched = λ f. absurd (none_in_both m before_draws in_draws refl f stops);
          stopped = λ _. record { last = w; read = e; drawn = whole (refused m w) e; named = refl; wiped = blank-leaves dst room };
        }

    drawn-ends : LevelEnds r file p n pitch distance budget dst (drawn_level r seg p g budget dst)
    unfolding drawn_level
    drawn-ends =
        by_run (run (budgeted (from_bits seg)) (level_reading r g) (record { place = start; left = budget })) refl
        (level-stops r seg g budget)

  -- ---- the checks

  -- where each test holds, the grid has room
  pub has_room : within_limits h ≡ true → tables_hold r.tables ≡ true → ltb n h.levels ≡ true → level_stands file h n ≡ true →
      palettes_reach h p ≡ true
      → grid_fits g ≡ true → leb (reach g) (length dst) ≡ true → Room (grid_of r.header n pitch distance) (length dst)
  has_room e₁ e₂ e₃ e₄ e₅ e₆ e₇ = (all-checked r file p n pitch distance (length dst) refl none {seg = []} (omega arith) refl).room
    where
      none : 0 ≡ refusal_by h (tables_hold r.tables) file p n pitch distance (length dst)
      none = unfold first_failed in simp (e₁, e₂, e₃, e₄, e₅, e₆, e₇)

  pub level-ends : LevelEnds r file p n pitch distance budget dst (unpacking r file p n pitch distance budget dst)
  unfolding unpacking
  level-ends =
      by (within_limits h) (tables_hold r.tables) (ltb n h.levels) (level_stands file h n) (palettes_reach h p) (grid_fits g)
      (leb (reach g) (length dst))
      refl refl refl refl refl refl refl
    where
      by : (a b c d e f k : Bool) → within_limits h ≡ a → tables_hold r.tables ≡ b → ltb n h.levels ≡ c → level_stands file h n ≡ d →
          palettes_reach h p ≡ e
          → grid_fits g ≡ f → leb (reach g) (length dst) ≡ k
          → LevelEnds r file p n pitch distance budget dst
          (pick a
          (pick b
          (pick c
          (pick d
          (pick e
          (pick f (pick k (drawn_level r seg p g budget dst) (declined 12 0 0 dst)) (declined 11 0 0 dst))
          (declined 5 0 0 dst))
          (declined 4 0 0 dst))
          (declined 10 0 0 dst))
          (declined 6 0 0 dst))
          (declined 2 0 0 dst))
      by false b c d e f k e₁ e₂ e₃ e₄ e₅ e₆ e₇ = early 2 refl
      by true false c d e f k e₁ e₂ e₃ e₄ e₅ e₆ e₇ = early 6 refl
      by true true false d e f k e₁ e₂ e₃ e₄ e₅ e₆ e₇ = early 10 refl
      by true true true false e f k e₁ e₂ e₃ e₄ e₅ e₆ e₇ = early 4 refl
      by true true true true false f k e₁ e₂ e₃ e₄ e₅ e₆ e₇ = early 5 refl
      by true true true true true false k e₁ e₂ e₃ e₄ e₅ e₆ e₇ = early 11 refl
      by true true true true true true false e₁ e₂ e₃ e₄ e₅ e₆ e₇ = early 12 refl
      by true true true true true true true e₁ e₂ e₃ e₄ e₅ e₆ e₇ = drawn-ends (has_room e₁ e₂ e₃ e₄ e₅ e₆ e₇)
