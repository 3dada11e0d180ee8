-- For whoever calls `paint`: the run over all chunks is the definition's, and so are the blocks and the picture.
use Prim.Native.Nat.{ℕ, ◌+◌, ◌*◌, ◌/◌, ◌%◌, ◌<◌}
use Rattle.std.specs.Prelude.{Ok, Err}
use mathlib.Core.Path.{◌≡◌, refl, sym, ap, ◌∙◌, subst}
use mathlib.Core.Bool.{Bool, true, false}
use mathlib.Core.List.{List, []}
use native.Mathlib.Omega.{arith}
use lib.ListN.{length}
use Rattle.crn_format.specs.Choice.{pick}
use Rattle.crn_format.specs.Reading.{answer, Step, got, refused, then, Source, run, Spending}
use Rattle.crn_format.specs.Level.{Plane, Running, Chunk, chunks, level, fresh}
use Rattle.crn_format.specs.Grid.{Shade, chunk_count, inside, insides, position_of, block_of, block_at, painted}
use Rattle.crn_format.specs.Grid as grid
use Rattle.crn_format.specs.declared.Grid.{Grid}
use Rattle.crn_format.proofs.Steps.{run-next, answered}
use Rattle.crn_chunks.specs.Meaning.{source, spending, stopped, row, plane_of, planes, pending_of, running_of, Coded}
use Rattle.crn_chunks.specs.declared.Carried.{Carried}
use Rattle.crn_chunks.specs.declared.Stream.{Stream}
use Rattle.crn_chunks.specs.declared.Stop.{Stop}
use Rattle.crn_blocks.specs.Sheet.{In, Outside, turn}
use Rattle.crn_blocks.proofs.Turns.{chunk-below}
use Rattle.crn_blocks.proofs.Whole.{whole}
use Rattle.crn_chunk_blocks.specs.Blocks.{shade_of}
use Rattle.crn_chunk_blocks.proofs.Shapes.{Shaped, block-long}
use Rattle.crn_unpacker.specs.States.{chunks_to}
use Rattle.crn_unpacker.specs.Going.{Went, Given, Fit, Course, Stands, Gone, Goes, state_at, chunk_here, block_here, shades, none}
use Rattle.crn_unpacker.proofs.States.{state-none, chunks-run, chunk-at}
use Rattle.crn_unpacker.proofs.Shapes.{Sized, chunk_shaped}

-- ---- the start

fresh-row : (two : Bool) (a b : Plane) → running_of two none ≡ fresh (row two a b)
unfolding running_of pending_of
fresh-row true a b = refl
fresh-row false a b = refl

-- nothing pending and every index 0 is how the definition starts
pub none-fresh : (l : Given) (cs : ℕ → List ℕ) → running_of l.planes.two none ≡ fresh (planes cs l.planes)
none-fresh l cs = fresh-row l.planes.two (plane_of cs l.planes.first) (plane_of cs l.planes.second)

-- the run of a level, from its start and from a stream on
abbrev pub level_course : Given → (ℕ → List ℕ) → Stream → Course
level_course l cs s = record { codes = cs; begun = fresh (planes cs l.planes); from = spending s }

pub stands-first : (l : Given) (cs : ℕ → List ℕ) (s : Stream) → Coded cs l.planes l.lookup l.sorted → Stands l (level_course l cs s) 0 none
    s
stands-first l cs s coded =
    record {
      coded = coded;
      state = state-none (source l.seg) (cs 0) (planes cs l.planes) (inside l.grid) (fresh (planes cs l.planes)) (spending s)
          ∙ ap (λ (r : Running). got r (spending s)) (sym (none-fresh l cs));
    }

-- ---- all chunks

abbrev pub chunks_here : Given → Course → List Chunk
chunks_here l h =
    chunks_to (source l.seg) (h.codes 0) (planes h.codes l.planes) (inside l.grid) h.begun h.from (chunk_count l.grid)

without_carried : {S : Type 0} (src : Source S) (cs : List Chunk) (y : Step S Running)
    → then {A = List Chunk × Running} (then y (λ q v. got (cs, q) v)) (λ a v. run src (answer a.0) v) ≡ then y (λ q v. got cs v)
unfolding then
without_carried src cs (got q v) = answered src cs v
without_carried src cs (refused x v) = refl

module _ (l : Given) (cs : ℕ → List ℕ) (s : Stream) where
  abbrev pub level_run : Step Spending (List Chunk)
  level_run = run (source l.seg) (level (cs 0) (planes cs l.planes) (insides l.grid 0 (chunk_count l.grid))) (spending s)

  abbrev pub last_state : Step Spending Running
  last_state = state_at l (level_course l cs s) (chunk_count l.grid)

  all : level_run ≡ then last_state (λ q v. got (chunks_here l (level_course l cs s)) v)
  unfolding level
  all =
      run-next (source l.seg) (chunks (cs 0) (planes cs l.planes) (insides l.grid 0 (chunk_count l.grid)) (fresh (planes cs l.planes)) [])
      (λ a. answer a.0) (spending s)
      ∙ ap (λ (y : Step Spending (List Chunk × Running)). then y (λ a v. run (source l.seg) (answer a.0) v))
      (chunks-run (source l.seg) (cs 0) (planes cs l.planes) l.grid (fresh (planes cs l.planes)) (spending s) (chunk_count l.grid))
      ∙ without_carried (source l.seg) (chunks_here l (level_course l cs s)) last_state

  -- the definition's run over the level, by how the run over its chunks ended
  pub level-got : {q : Running} {v : Spending} → last_state ≡ got q v → level_run ≡ got (chunks_here l (level_course l cs s)) v
  unfolding then
  level-got e = all ∙ rw e

  pub level-refused : {x : ℕ} {v : Spending} → last_state ≡ refused x v → level_run ≡ refused x v
  unfolding then
  level-refused e = all ∙ rw e

-- ---- the blocks

module _ (l : Given) (h : Course) (f x y : ℕ) (at : In l.grid f x y) where
  abbrev number : ℕ
  number = grid.chunk_of l.grid f x y

  number-below : number < chunk_count l.grid
  number-below = chunk-below l.grid f (x / 2) (y / 2) (record {
    face = at.face;
    column = omega (arith, at.column);
    row = omega
        (arith, at.row);
  })

  by_turn : block_here l h (turn l.grid f x y) ≡ block_of (shades l) (chunk_here l h number) (position_of x y)
  unfolding block_here turn
  by_turn =
      let q : (4 * number + position_of x y) / 4 ≡ number = omega arith in
      let r : (4 * number + position_of x y) % 4 ≡ position_of x y = omega arith in
      rw (q, r)

  -- the block of a turn is the definition's in its column and row
  pub block-at : block_here l h (turn l.grid f x y) ≡ block_at l.grid (shades l) (chunks_here l h) f x y
  unfolding block_at
  block-at =
      by_turn
      ∙ ap (λ (c : Chunk). block_of (shades l) c (position_of x y))
      (sym (chunk-at (source l.seg) (h.codes 0) (planes h.codes l.planes) (inside l.grid) h.begun h.from (chunk_count l.grid) number
      number-below))

four : (g : Grid) (n : ℕ) → length (inside g n) ≡ 4
unfolding inside
four g n = refl

row-long : {A B : Type 0} (two : Bool) (a b : A) (c d : B) → length (row two a b) ≡ length (row two c d)
row-long true a b c d = refl
row-long false a b c d = refl

row-bytes : {A : Type 0} (two : Bool) (a b : A) → 8 * length (row two a b) ≡ pick two 16 8
row-bytes true a b = refl
row-bytes false a b = refl

fresh-sized : (two : Bool) (a b : Plane) → Sized (length (row two a b)) (fresh (row two a b))
fresh-sized true a b = record { endpoint = refl; selector = refl }
fresh-sized false a b = record { endpoint = refl; selector = refl }

-- it has a block's bytes, where the run went through
pub block_size : (l : Given) (cs : ℕ → List ℕ) (s : Stream) {q : Running} {v : Spending} → l.grid.bytes ≡ pick l.planes.two 16 8
    → state_at l (level_course l cs s) (chunk_count l.grid) ≡ got q v → (f x y : ℕ) → In l.grid f x y
    → length (block_here l (level_course l cs s) (turn l.grid f x y)) ≡ l.grid.bytes
block_size l cs s bytes e f x y at =
    ap length (by_turn l (level_course l cs s) f x y at)
    ∙ block-long (shades l) (chunk_here l (level_course l cs s) n) (position_of x y)
    (subst (λ (m : ℕ). Shaped m (chunk_here l (level_course l cs s) n)) (row-long l.planes.two first second shade₀ shade₁)
    (chunk_shaped (cs 0) (planes cs l.planes) (source l.seg) (inside l.grid) (four l.grid) (fresh (planes cs l.planes)) (spending s)
    (fresh-sized l.planes.two first second) (chunk_count l.grid) n (number-below l (level_course l cs s) f x y at) e))
    (omega arith)
    ∙ row-bytes l.planes.two shade₀ shade₁ ∙ sym bytes
  where
    n : ℕ
    n = grid.chunk_of l.grid f x y

    first : Plane
    first = plane_of cs l.planes.first

    second : Plane
    second = plane_of cs l.planes.second

    shade₀ : Shade
    shade₀ = shade_of l.palettes l.planes.first

    shade₁ : Shade
    shade₁ = shade_of l.palettes l.planes.second

-- ---- what `paint` then gives, for every code that the tables decode

-- it went through: the definition's chunks, and its picture
pub record Through (l : Given) (cs : ℕ → List ℕ) (s t : Stream) (d e : List ℕ) : Type 0 where
  pub runs : level_run l cs s ≡ got (chunks_here l (level_course l cs s)) (spending t)
  pub sized : (f x y : ℕ) → In l.grid f x y → length (block_at l.grid (shades l) (chunks_here l (level_course l cs s)) f x y) ≡ l.grid.bytes
  pub picture : e ≡ painted l.grid (block_at l.grid (shades l) (chunks_here l (level_course l cs s))) l.grid.faces d

-- it was refused, as the definition's run is
pub record Early (l : Given) (cs : ℕ → List ℕ) (s : Stream) (x : Stop) (d e : List ℕ) : Type 0 where
  pub runs : level_run l cs s ≡ stopped x
  pub rest : Outside l.grid d e

module _ {l : Given} {s : Stream} {d e : List ℕ} {w : Went} (goes : Goes l 0 (chunk_count l.grid) none s d e w) (cs : ℕ → List ℕ)
    (coded : Coded cs l.planes l.lookup l.sorted) where
  pub through : {r : Carried} {t : Stream} → Fit l (length d) → w ≡ Ok (r, t) → Through l cs s t d e
  through {r} {t} fit is =
      record {
        runs = level-got l cs s gone.state;
        sized = sized;
        picture = whole (block_at l.grid (shades l) (chunks_here l h)) fit.room gone.paint
            (λ f x y at. (block-at l h f x y at, sized f x y at));
      }
    where
      h : Course
      h = level_course l cs s

      gone : Gone l h 0 (chunk_count l.grid) d e r t
      gone = (goes.moved h (stands-first l cs s coded)).on r t is

      sized : (f x y : ℕ) → In l.grid f x y → length (block_at l.grid (shades l) (chunks_here l h) f x y) ≡ l.grid.bytes
      sized f x y at = ap length (sym (block-at l h f x y at)) ∙ block_size l cs s fit.bytes gone.state f x y at

  pub early : {x : Stop} → w ≡ Err x → Early l cs s x d e
  early {x} is =
      let halted = (goes.moved (level_course l cs s) (stands-first l cs s coded)).stop x is in
      record { runs = level-refused l cs s halted.why; rest = halted.rest }
