-- Where a level is read through, each block of its grid has a block's bytes.
use Prim.Native.Nat.{ℕ, ◌*◌, ◌/◌, ◌<◌}
use mathlib.Core.List.{List, []}
use mathlib.Core.Path.{◌≡◌, refl, sym, ap, ◌∙◌, subst}
use native.Mathlib.Omega.{arith}
use lib.ListN.{length, length-replicate}
use Rattle.crn_format.specs.Reading.{answer, Step, got, refused, then, Source, run}
use Rattle.crn_format.specs.Level.{Plane, Running, Chunk, chunks, level, fresh}
use Rattle.crn_format.specs.Grid.{Shade, chunk_count, inside, insides, position_of, block_at}
use Rattle.crn_format.specs.Grid as grid
use Rattle.crn_format.specs.declared.Grid.{Grid}
use Rattle.crn_format.proofs.Steps.{run-next, answered}
use Rattle.crn_blocks.specs.Sheet.{In}
use Rattle.crn_blocks.proofs.Turns.{chunk-below}
use Rattle.crn_unpacker.specs.States.{state_to, chunks_to}
use Rattle.crn_unpacker.proofs.States.{chunks-run, chunk-at}
use Rattle.crn_chunk_blocks.proofs.Shapes.{Shaped, block-long}
use Rattle.crn_unpacker.proofs.Shapes.{Sized, chunk_shaped}

-- ---- the chunks

four : (g : Grid) (n : ℕ) → length (inside g n) ≡ 4
unfolding inside
four g n = refl

fresh-sized : (ps : List Plane) → Sized (length ps) (fresh ps)
fresh-sized ps = record { endpoint = length-replicate (length ps) 0; selector = length-replicate (length ps) 0 }

module _ {S : Type 0} (src : Source S) (ls : List ℕ) (ps : List Plane) (g : Grid) (w : S) where
  abbrev state : ℕ → Step S Running
  state n = state_to src ls ps (inside g) (fresh ps) w n

  -- a level that is read through: its last state, and its chunks
  pub record Through (n : ℕ) (cs : List Chunk) : Type 0 where
    pub last : Running
    pub place : S
    pub reached : state n ≡ got last place
    pub chunks : cs ≡ chunks_to src ls ps (inside g) (fresh ps) w n

  pub through : (n : ℕ) {cs : List Chunk} {v : S} → run src (level ls ps (insides g 0 n)) w ≡ got cs v → Through n cs
  unfolding level
  through n {cs} {v} e = by (state n) refl (sym here ∙ e)
    where
      here : run src (level ls ps (insides g 0 n)) w
          ≡ then {A = List Chunk × Running} (then (state n) (λ q v. got (chunks_to src ls ps (inside g) (fresh ps) w n, q) v))
          (λ a v. run src (answer a.0) v)
      here =
          run-next src (chunks ls ps (insides g 0 n) (fresh ps) []) (λ a. answer a.0) w
          ∙ ap (λ (y : Step S (List Chunk × Running)). then y (λ a v. run src (answer a.0) v)) (chunks-run src ls ps g (fresh ps) w n)

      by : (y : Step S Running) → state n ≡ y
          → then {A = List Chunk × Running} (then y (λ q v. got (chunks_to src ls ps (inside g) (fresh ps) w n, q) v))
          (λ a v. run src (answer a.0) v) ≡ got cs v
          → Through n cs
      by (got q u) is e =
          let z : ◌≡◌ {A = Step S (List Chunk)} (got (chunks_to src ls ps (inside g) (fresh ps) w n) u) (got cs v) =
          sym (answered src (chunks_to src ls ps (inside g) (fresh ps) w n) u) ∙ (unfold then in e) in
          let c : cs ≡ chunks_to src ls ps (inside g) (fresh ps) w n = cc in
          record { last = q; place = u; reached = is; chunks = c }
      by (refused x u) is e =
          let z : ◌≡◌ {A = Step S (List Chunk)} (refused x u) (got cs v) = (unfold then in e) in let y : ◌≡◌ {A = ℕ} 0 1 = cc in absurd
          (omega arith)

  -- a chunk of the level
  chunk-fits : {cs : List Chunk} → Through (chunk_count g) cs → (f x y : ℕ) → In g f x y → Shaped (length ps)
      (grid.chunk_at cs (grid.chunk_of g f x y))
  chunk-fits {cs} t f x y at =
      let below : grid.chunk_of g f x y < chunk_count g =
      chunk-below g f (x / 2) (y / 2) (record { face = at.face; column = omega (arith, at.column); row = omega (arith, at.row) }) in
      subst (Shaped (length ps))
      (sym (ap (λ (l : List Chunk). grid.chunk_at l (grid.chunk_of g f x y)) t.chunks
      ∙ chunk-at src ls ps (inside g) (fresh ps) w (chunk_count g) (grid.chunk_of g f x y) below))
      (chunk_shaped ls ps src (inside g) (four g) (fresh ps) w (fresh-sized ps) (chunk_count g) (grid.chunk_of g f x y) below t.reached)

  pub block-sized : {cs : List Chunk} → Through (chunk_count g) cs → (ss : List Shade) → length ps ≡ length ss
      → (f x y : ℕ) → In g f x y → length (block_at g ss cs f x y) ≡ 8 * length ss
  unfolding block_at
  block-sized {cs} t ss same f x y at =
      block-long ss (grid.chunk_at cs (grid.chunk_of g f x y)) (position_of x y)
      (subst (λ (m : ℕ). Shaped m (grid.chunk_at cs (grid.chunk_of g f x y))) same (chunk-fits t f x y at)) (omega arith)
