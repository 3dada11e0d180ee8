-- "Counted over the bytes left": where blocks are left in their places, they stand there, and their cut-outs are those of what stands.
use Prim.Native.Nat.{ℕ, ◌<◌}
use mathlib.Core.List.{List}
use mathlib.Core.Path.{◌≡◌, refl, sym, ◌∙◌}
use native.Mathlib.Omega.{arith}
use lib.ListN.{length, get_or, drop, length-drop}
use lib.Seq.{length-take-le, get_or-take, get_or-drop, ext_get_or}
use Rattle.crn_format.specs.declared.Kind.{Kind}
use Rattle.crn_format.specs.declared.Kind.TheVariants.{DXT1, DXT5, DXT5A, DXN, Unknown}
use Rattle.crn_format.specs.Grid.{place_of}
use Rattle.crn_format.specs.Unpacking.{cutout_count}
use Rattle.crn_format.specs.declared.Grid.{Grid}
use Rattle.crn_blocks.specs.Sheet.{In, standing}
use Rattle.crn_blocks.proofs.Whole.{cutouts-same}
use Rattle.crn_laws_total.specs.Leaves.{Leaves}

module _ {g : Grid} {b a : List ℕ} (block : ℕ → ℕ → ℕ → List ℕ) (l : Leaves g (λ f x y k. get_or (block f x y) k 0) b a)
    (sized : (f x y : ℕ) → In g f x y → length (block f x y) ≡ g.bytes) where
  -- what stands in a block's place is the block
  pub stands : (f x y : ℕ) → In g f x y → standing g a f x y ≡ block f x y
  stands f x y at =
      ext_get_or 0 (standing g a f x y) (block f x y) (long ∙ sym (sized f x y at))
      (λ i h. let lt : i < g.bytes = omega (arith, long) in
      get_or-take g.bytes (drop (place_of g f x y) a) i 0 lt ∙ get_or-drop (place_of g f x y) a i 0 ∙ l.blocks f x y i at lt)
    where
      long : length (standing g a f x y) ≡ g.bytes
      long = length-take-le g.bytes (drop (place_of g f x y) a) (rw length-drop (omega (arith, l.long, l.fits f x y at)))

  pub same_count : (k : Kind) → cutout_count k g (standing g a) ≡ cutout_count k g block
  unfolding cutout_count
  same_count DXT1 = cutouts-same (standing g a) block stands
  same_count DXT5 = refl
  same_count DXT5A = refl
  same_count DXN = refl
  same_count Unknown = refl
