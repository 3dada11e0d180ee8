-- What a level that passes its checks answers: its blocks by the script where it has one, and a script where it is accepted.
use Prim.Native.Nat.{ℕ, ◌+◌, ◌*◌, ◌≤◌}
use mathlib.Core.Path.{◌≡◌, refl, sym, ap, ap₂, subst, ◌∙◌}
use mathlib.Core.List.{List, [], ◌∷◌}
use native.Mathlib.Omega.{arith}
use native.Mathlib.Decide.{dec_le}
use lib.ListN.{length, length-append}
use Rattle.crn_format.specs.Reading.{Step, got, refused, Place, start, from_bits}
use Rattle.crn_format.specs.declared.Kind.{Kind}
use Rattle.crn_format.specs.declared.Kind.TheVariants.{DXT1, DXT5, DXT5A, DXN, Unknown}
use Rattle.crn_format.specs.Level.{Chunk}
use Rattle.crn_format.specs.Grid.{Shade, color, alpha, half, block_at, painted}
use Rattle.crn_format.specs.Unpacking.{planes_of, grid_of, unpacked, declined, cutout_count}
use Rattle.crn_format.specs.declared.Grid.{Grid}
use Rattle.crn_format.proofs.Planes.{planes-long, planes-bytes}
use Rattle.crn_blocks.specs.Sheet.{In}
use Rattle.crn_blocks.proofs.Whole.{painted_same, cutouts-same}
use Rattle.crn_chunk_blocks.proofs.Shapes.{half-long}
use Rattle.crn_laws.specs.Scripts.{Draws}
use Rattle.crn_laws.specs.Levels.{Given, grid_in, kind_in, shades_in, segment_in, unpacking_in, Passes, ScriptOf, symbols_of, Accepted, RefusedBy}
use Rattle.crn_laws.specs.Blocks.{halves_by, block_by, blocks_by}
use Rattle.crn_laws.proofs.Trying.{as_many}
use Rattle.crn_laws.proofs.Placing.{block-is}
use Rattle.crn_laws.proofs.Ending.{reading, ran, tried_in, answered, never, with_enough, with_less, script-of, chunks_in, took, not_15}

cutouts_by : (k : Kind) {g : Grid} (block other : ℕ → ℕ → ℕ → List ℕ) → ((f x y : ℕ) → In g f x y → block f x y ≡ other f x y)
    → cutout_count k g block ≡ cutout_count k g other
unfolding cutout_count
cutouts_by DXT1 block other same = cutouts-same block other same
cutouts_by DXT5 block other same = refl
cutouts_by DXT5A block other same = refl
cutouts_by DXN block other same = refl
cutouts_by Unknown block other same = refl

-- a block by its position and the script has a block's bytes
halves_long : (ss : List Shade) (e s : ℕ → ℕ) (k : ℕ) → length (halves_by ss e s k) ≡ 8 * length ss
unfolding halves_by
halves_long [] e s k = refl
halves_long (p ∷ ps) e s k =
    length-append (half p (e k) (s k)) (halves_by ps e s (k + 1)) ∙ omega (arith, half-long p (e k) (s k), halves_long ps e s (k + 1))

pub blocks-long : (v : Given) (ds : List Draws) (f x y : ℕ) → length (blocks_by v ds f x y) ≡ (grid_in v).bytes
unfolding block_by grid_of
blocks-long v ds f x y =
    halves_long (shades_in v) _ _ 0 ∙ planes-bytes (kind_in v) (color v.palettes.color_ends v.palettes.color_sels)
    (alpha v.palettes.alpha_ends v.palettes.alpha_sels)

module _ (v : Given) (c : Passes v) where
  module _ (ds : List Draws) (s : ScriptOf v ds) where
    pub tried-script : tried_in v ≡ length (symbols_of v ds)
    tried-script =
        let t = took v ds c.tables s in as_many (from_bits (segment_in v)) (reading v) start t.answers ∙ ap length t.takes

    abbrev read : ℕ → ℕ → ℕ → List ℕ
    read = block_at (grid_in v) (shades_in v) (chunks_in v ds)

    -- the blocks of the chunks that are read
    by_chunks : (budget : ℕ) → length (symbols_of v ds) ≤ budget
        → unpacking_in v budget
        ≡ unpacked (length (symbols_of v ds)) (cutout_count (kind_in v) (grid_in v) read)
        (painted (grid_in v) read (grid_in v).faces v.destination)
    by_chunks budget h =
        let t = took v ds c.tables s in
        with_enough v c budget (rw tried-script h) ∙ ap (answered v) t.answers
        ∙ ap (λ (n : ℕ). unpacked n (cutout_count (kind_in v) (grid_in v) read) (painted (grid_in v) read (grid_in v).faces v.destination))
        (ap length t.takes)

    -- are those that the script gives
    pub by_script : (budget : ℕ) → length (symbols_of v ds) ≤ budget
        → unpacking_in v budget
        ≡ unpacked (length (symbols_of v ds)) (cutout_count (kind_in v) (grid_in v) (blocks_by v ds))
        (painted (grid_in v) (blocks_by v ds) (grid_in v).faces v.destination)
    by_script budget h =
        by_chunks budget h
        ∙ ap₂ (unpacked (length (symbols_of v ds))) (cutouts_by (kind_in v) read (blocks_by v ds) same)
        (painted_same read (blocks_by v ds) same v.destination)
      where
        same : (f x y : ℕ) → In (grid_in v) f x y → read f x y ≡ blocks_by v ds f x y
        same = block-is (grid_in v) (shades_in v) (planes_of v.opened) (planes-long (kind_in v) _ _ _ _) ds s.fits

  -- a level that is accepted has a script
  pub accepted-script : (budget : ℕ) → Accepted (unpacking_in v budget) → (ds : List Draws) × ScriptOf v ds
  accepted-script budget a = by (dec_le (tried_in v) budget)
    where
      whole : (y : Step Place (List Chunk)) → ran v ≡ y → answered v y ≡ unpacked a.0 a.1 a.2 → (ds : List Draws) × ScriptOf v ds
      whole (got cs w) is e = script-of v is
      whole (refused n w) is e = absurd (never e)

      by : Dec (tried_in v ≤ budget) → (ds : List Draws) × ScriptOf v ds
      by (yes h) = whole (ran v) refl (sym (with_enough v c budget h) ∙ a.3)
      by (no h) = absurd (never (sym (with_less v c budget (omega arith)).1 ∙ a.3))

  -- a level is refused by 15 only where its budget is too small
  pub not-refused_15 : RefusedBy 15 (unpacking_in v (tried_in v)) → ⊥
  not-refused_15 a = by (ran v) refl (sym (with_enough v c (tried_in v) (omega arith)) ∙ a.3)
    where
      by : (y : Step Place (List Chunk)) → ran v ≡ y → answered v y ≡ declined 15 a.0 a.1 a.2 → ⊥
      by (got cs w) is e = never (sym e)
      by (refused x w) is e = let z : x ≡ 15 = cc in not_15 v (subst (λ (k : ℕ). ran v ≡ refused k w) z is)
