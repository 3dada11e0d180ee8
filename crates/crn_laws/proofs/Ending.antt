-- How a level's run ends, whatever its budget: a run that accepts took a script, and a script is what a run takes.
use Prim.Native.Nat.{ℕ, ◌-◌, ◌≤◌, ◌<◌}
use mathlib.Core.Path.{◌≡◌, ap, ◌∙◌}
use mathlib.Core.Bool.{true}
use mathlib.Core.List.{List}
use native.Mathlib.Omega.{arith}
use lib.ListN.{length}
use borrow.Author.Tests.{lt-ltb, le-leb, ltb-true, leb-true}
use Rattle.crn_format.specs.Reading.{Reading, Step, got, refused, run, Place, start, from_bits, budgeted}
use Rattle.crn_format.specs.Script.{taken, Accepts}
use Rattle.crn_format.specs.Level.{Chunk, fresh}
use Rattle.crn_format.specs.Grid.{chunk_count, insides, block_at, painted, blank}
use Rattle.crn_format.specs.Unpacking.{lengths_of, tables_hold, planes_of, Unpacking, unpacked, declined, cutout_count, ended, level_reading, drawn_level, unpacking}
use Rattle.crn_format.proofs.Passing.{accepted-passed}
use Rattle.crn_format.proofs.Scripts.{replayed, spending, laid, followed}
use Rattle.crn_format.proofs.Writing.{laid_out_lem}
use Rattle.crn_laws.specs.Scripts.{Draws, symbols, level_sent, chunks_by}
use Rattle.crn_laws.specs.Levels.{Given, grid_in, kind_in, shades_in, segment_in, unpacking_in, Passes, ScriptOf, symbols_of, allowed, Accepted}
use Rattle.crn_laws.proofs.Following.{follow_run, follow_bits, follow_writable, follow_starts}
use Rattle.crn_laws.proofs.Fitting.{level_follows}
use Rattle.crn_laws.proofs.Taking.{level-taken}
use Rattle.crn_laws.proofs.Trying.{tried, fewer, leaving, enough, short}
use Rattle.crn_laws.proofs.Bounding.{within-tried, within-refused, level-within}
use Rattle.crn_laws.proofs.Coding.{script_in_lem}

-- ---- the level's run without a budget

abbrev pub reading : Given → Reading (List Chunk)
reading v = level_reading v.opened (grid_in v)

abbrev pub ran : Given → Step Place (List Chunk)
ran v = run (from_bits (segment_in v)) (reading v) start

-- how many symbols it draws, and how many draws it tries
abbrev pub drawn_in : Given → ℕ
drawn_in v = length (taken (from_bits (segment_in v)) (reading v) start)

abbrev pub tried_in : Given → ℕ
tried_in v = tried (from_bits (segment_in v)) (reading v) start

-- what is answered by how it ended
abbrev pub answered : Given → Step Place (List Chunk) → Unpacking
answered v (got cs w) =
    unpacked (drawn_in v) (cutout_count (kind_in v) (grid_in v) (block_at (grid_in v) (shades_in v) cs))
    (painted (grid_in v) (block_at (grid_in v) (shades_in v) cs) (grid_in v).faces v.destination)
answered v (refused n w) = declined n (drawn_in v) w.blamed (painted (grid_in v) (blank (grid_in v)) (grid_in v).faces v.destination)

-- ---- the checks

-- a refusal is no blocks
pub never : {n s t x d : ℕ} {e f : List ℕ} → declined n s t e ≡ unpacked x d f → ⊥
never e = let z : ◌≡◌ {A = ℕ} 0 1 = cc in omega arith

-- a level that is accepted has passed them
pub accepted-passes : (v : Given) (b : ℕ) → Accepted (unpacking_in v b) → Passes v
accepted-passes v b h =
    let a = accepted-passed v.opened v.file v.palettes v.number v.pitch v.distance b v.destination h.3 in
    record {
      limits = a.limits;
      tables = a.tables;
      number = ltb-true _ _ a.number;
      segment = a.stands;
      palettes = a.palettes;
      grid = a.grid;
      room = leb-true _ _ a.room;
    }

module _ (v : Given) (c : Passes v) where
  drawn-level : (b : ℕ) → unpacking_in v b ≡ drawn_level v.opened (segment_in v) v.palettes (grid_in v) b v.destination
  unfolding unpacking
  drawn-level b = rw (c.limits, c.tables, lt-ltb _ _ c.number, c.segment, c.palettes, c.grid, le-leb _ _ c.room)

  ended-level : (b : ℕ) → unpacking_in v b
      ≡ ended (kind_in v) (grid_in v) (shades_in v) b v.destination
      (run (budgeted (from_bits (segment_in v))) (reading v) (spending start b))
  unfolding drawn_level
  ended-level b = drawn-level b

  pub with_enough : (b : ℕ) → tried_in v ≤ b → unpacking_in v b ≡ answered v (ran v)
  with_enough b h =
      ended-level b ∙ ap (ended (kind_in v) (grid_in v) (shades_in v) b v.destination)
      (enough (from_bits (segment_in v)) (reading v) start b h) ∙ by (ran v)
    where
      back : b - (b - drawn_in v) ≡ drawn_in v
      back = omega (arith, fewer (from_bits (segment_in v)) (reading v) start)

      by : (y : Step Place (List Chunk)) → ended (kind_in v) (grid_in v) (shades_in v) b v.destination (leaving (b - drawn_in v) y) ≡
          answered v y
      by (got cs w) = unfold ended leaving in rw back
      by (refused n w) = unfold ended leaving in rw back

  pub with_less : (b : ℕ) → b < tried_in v
      → (bit : ℕ) × (unpacking_in v b ≡ declined 15 b bit (painted (grid_in v) (blank (grid_in v)) (grid_in v).faces v.destination))
  unfolding ended
  with_less b h =
      let s = short (from_bits (segment_in v)) (reading v) start b h in
      let e : b - 0 ≡ b = omega arith in
      (s.0, rw e at (ended-level b ∙ ap (ended (kind_in v) (grid_in v) (shades_in v) b v.destination) s.1))

-- ---- from a run to its script, and back

module _ (v : Given) where
  abbrev pub table : List ℕ
  table = lengths_of v.opened.tables.chunk_encoding

  -- what a run that accepts took is a script
  pub script-of : {cs : List Chunk} {w : Place} → ran v ≡ got cs w → (ds : List Draws) × ScriptOf v ds
  script-of {cs} e =
      let t = level-taken table (planes_of v.opened) (insides (grid_in v) 0 (chunk_count (grid_in v)))
      (taken (from_bits (segment_in v)) (reading v) start) cs
      (replayed (from_bits (segment_in v)) (reading v) start e) in
      let s = level_sent table (planes_of v.opened) t.0 in
      let f = level_follows table (planes_of v.opened) (insides (grid_in v) 0 (chunk_count (grid_in v))) t.0 t.1 in
      let b = follow_starts (segment_in v) (reading v) s _ 0 f (rw t.2 at (laid (segment_in v) (reading v) start e)) (omega arith) in
      (t.0, record { fits = t.1; coded = b.1; laid = b.0 })

  abbrev pub chunks_in : List Draws → List Chunk
  chunks_in ds = chunks_by (planes_of v.opened) (fresh (planes_of v.opened)) ds

  -- a script is what the run takes
  pub took : (ds : List Draws) → tables_hold v.opened.tables ≡ true → ScriptOf v ds
      → Accepts (from_bits (segment_in v)) (reading v) start (chunks_in ds) (symbols_of v ds)
  took ds tables s =
      let f = level_follows table (planes_of v.opened) (insides (grid_in v) 0 (chunk_count (grid_in v))) ds s.fits in
      let ss = level_sent table (planes_of v.opened) ds in
      let w = follow_writable (reading v) ss _ f (script_in_lem v.opened ds tables s.coded) in
      followed (segment_in v) (reading v) (symbols ss) start (chunks_in ds) (follow_run (reading v) ss _ f)
      (laid_out_lem (segment_in v) (reading v) (symbols ss) 0 w (rw (follow_bits (reading v) ss _ f) s.laid))

  -- however the run ends
  pub few-tried : tried_in v ≤ allowed v
  few-tried =
      within-tried (from_bits (segment_in v)) (reading v) (allowed v) (λ a j. Unit {0}) start
      (level-within table (planes_of v.opened) (grid_in v) (chunk_count (grid_in v)))

  pub not_15 : {w : Place} → ran v ≡ refused 15 w → ⊥
  not_15 e =
      let z = within-refused (segment_in v) (reading v) (allowed v) (λ a j. Unit {0}) start
      (level-within table (planes_of v.opened) (grid_in v) (chunk_count (grid_in v))) e in
      omega (arith, z)
