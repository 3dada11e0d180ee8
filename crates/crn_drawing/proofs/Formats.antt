-- The planes of each kind of format, as the code goes over them, are those of the definition.
use Prim.Native.Nat.{ℕ, ◌≤◌, ◌<◌}
use mathlib.Core.Bool.{Bool, true, false, false≢true}
use mathlib.Core.List.{List}
use mathlib.Core.Path.{◌≡◌, refl}
use native.Mathlib.Omega.{arith}
use Rattle.std.proofs.Math.Nat.{mul-le-mul_left}
use lib.ListN.{length}
use Rattle.crn_format.specs.Choice.{pick}
use Rattle.crn_format.specs.declared.Kind.{Kind}
use Rattle.crn_format.specs.declared.Kind.TheVariants.{DXT1, DXT5, DXT5A, DXN, Unknown}
use Rattle.crn_format.specs.Header.{known, has_color, has_alpha, block_bytes}
use Rattle.crn_format.specs.Grid.{nth_list}
use Rattle.crn_format.specs.Opening.{Palettes}
use Rattle.crn_format.specs.Unpacking.{lengths_of, per_plane, color_plane, alpha_plane, shades_of, cutout_count}
use Rattle.crn_format.specs.declared.Tables.{Tables}
use Rattle.crn_format.specs.declared.Record.{Record}
use Rattle.crn_format.specs.declared.Grid.{Grid}
use Rattle.crn_chunks.specs.Meaning.{row, plane_of, planes as planes_of, Named, Small, Served}
use Rattle.crn_chunks.specs.declared.Side.{Side}
use Rattle.crn_chunks.specs.declared.Planes.{Planes}
use Rattle.crn_chunk_blocks.specs.Blocks.{shade_of}
use Rattle.crn_decoders.specs.declared.decoders.Sizes.{Sizes}
use Rattle.crn_decoders.specs.Tables.{Able, CodedTo, codes_by, codes_of, tables_in}
use Rattle.crn_decoders.specs.Planning.{color_side, alpha_side, planes_by}
use Rattle.crn_formats.proofs.Limited.{Limited}

pub chunk-code : (alpha : Bool) (t : Tables) → codes_of alpha t 0 ≡ lengths_of t.chunk_encoding
unfolding codes_by nth_list
chunk-code alpha t = refl

-- the planes of a kind, their palettes, and a block's bytes
pub record AsKind (r : Record) (s : Sizes) (k : Kind) : Type 0 where
  pub planes : planes_of (codes_of (has_alpha k) r.tables) (planes_by k r.header s) ≡ per_plane k (color_plane r) (alpha_plane r)
  pub shades : (p : Palettes)
      → row (planes_by k r.header s).two (shade_of p (planes_by k r.header s).first) (shade_of p (planes_by k r.header s).second)
      ≡ shades_of k p
  pub bytes : block_bytes k ≡ pick (planes_by k r.header s).two 16 8

module _ (r : Record) (s : Sizes) where
  pub as_kind : (k : Kind) → known k ≡ true → AsKind r s k
  unfolding planes_by plane_of codes_by nth_list per_plane shade_of
  as_kind DXT1 e = record { planes = refl; shades = λ p. refl; bytes = refl }
  as_kind DXT5 e = record { planes = refl; shades = λ p. refl; bytes = refl }
  as_kind DXT5A e = record { planes = refl; shades = λ p. refl; bytes = refl }
  as_kind DXN e = record { planes = refl; shades = λ p. refl; bytes = refl }
  as_kind Unknown e = absurd (false≢true e)

  -- ---- the tables serve the planes

  module _ (lookup sorted : List ℕ) (few : Limited r.header) (able : Able s (length lookup) (length sorted)) where
    abbrev planes_with : Bool → Side → Side → ℕ → Planes
    planes_with two first second n =
        record { two = two; first = first; second = second; tables = n; lookup_step = s.lookup_step; sorted_step = s.sorted_step }

    -- of planes that name tables of which there are n
    served_of : (cs : ℕ → List ℕ) {two : Bool} {first second : Side} {n : ℕ} → (0 < n) × (n ≤ 5)
        → Named (planes_with two first second n) first × Named (planes_with two first second n) second → Small first × Small second
        → CodedTo cs n s lookup sorted → Served (planes_with two first second n) lookup sorted
    served_of cs {two} {first} {second} {n} some named small coded =
        record {
          some = some.0;
          first = named.0;
          second = named.1;
          small = small;
          lookups = omega (arith, mul-le-mul_left s.lookup_step some.1, able.lookups);
          sorteds = omega (arith, mul-le-mul_left s.sorted_step some.1, able.sorteds);
          codes = cs;
          coded = coded.each;
        }

    colors : (alpha : Bool) → Small (color_side r.header alpha)
    colors alpha = record { endpoints = few.color_ends; selectors = few.color_sels }

    alphas : Small (alpha_side r.header)
    alphas = record { endpoints = few.alpha_ends; selectors = few.alpha_sels }

    pub served_by : (k : Kind) → known k ≡ true → CodedTo (codes_of (has_alpha k) r.tables) (tables_in (has_color k) (has_alpha k)) s lookup
        sorted
        → Served (planes_by k r.header s) lookup sorted
    unfolding planes_by
    served_by DXT1 e = served_of (codes_of false r.tables) (omega arith, omega arith)
        (record { ends = omega arith; sels = omega arith }, record { ends = omega arith; sels = omega arith }) (colors false, colors false)
    served_by DXT5 e = served_of (codes_of true r.tables) (omega arith, omega arith)
        (record { ends = omega arith; sels = omega arith }, record { ends = omega arith; sels = omega arith }) (alphas, colors true)
    served_by DXT5A e = served_of (codes_of true r.tables) (omega arith, omega arith)
        (record { ends = omega arith; sels = omega arith }, record { ends = omega arith; sels = omega arith }) (alphas, alphas)
    served_by DXN e = served_of (codes_of true r.tables) (omega arith, omega arith)
        (record { ends = omega arith; sels = omega arith }, record { ends = omega arith; sels = omega arith }) (alphas, alphas)
    served_by Unknown e = absurd (false≢true e)

-- only DXT1 has cut-outs
pub no-cutouts : (g : Grid) (block : ℕ → ℕ → ℕ → List ℕ) (k : Kind) → (k ≡ DXT1 → ⊥) → 0 ≡ cutout_count k g block
unfolding cutout_count
no-cutouts g block DXT1 ne = absurd (ne refl)
no-cutouts g block DXT5 ne = refl
no-cutouts g block DXT5A ne = refl
no-cutouts g block DXN ne = refl
no-cutouts g block Unknown ne = refl
