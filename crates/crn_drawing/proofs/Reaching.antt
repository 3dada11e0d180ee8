-- The lent palettes have as many entries as each plane of the format says, once the level's checks have passed.
use Prim.Native.Nat.{ℕ, ◌≤◌}
use mathlib.Core.Bool.{Bool, true, false≢true}
use mathlib.Core.Path.{◌≡◌, refl}
use borrow.Author.Tests.{leb-true}
use lib.Dec.{leb}
use lib.ListN.{length}
use Rattle.crn_format.specs.Choice.{pick}
use Rattle.crn_format.specs.declared.Kind.{Kind}
use Rattle.crn_format.specs.declared.Kind.TheVariants.{DXT1, DXT5, DXT5A, DXN, Unknown}
use Rattle.crn_format.specs.Header.{kind_of, known, has_color, has_alpha}
use Rattle.crn_format.specs.Grid.{color, alpha}
use Rattle.crn_format.specs.Opening.{Palettes}
use Rattle.crn_format.specs.Unpacking.{palettes_reach}
use Rattle.crn_format.specs.declared.Header.{Header}
use Rattle.crn_format.proofs.Choices.{both_hold}
use Rattle.crn_blocks.specs.Halves.{Reach}
use Rattle.crn_chunk_blocks.specs.Blocks.{shade_of, Reaches}
use Rattle.crn_decoders.specs.declared.decoders.Sizes.{Sizes}
use Rattle.crn_decoders.specs.Planning.{planes_by}

-- of the planes that a kind has
pub record Lent (k : Kind) (h : Header) (p : Palettes) : Type 0 where
  pub colors : has_color k ≡ true → Reach (color p.color_ends p.color_sels) h.color_endpoints.count h.color_selectors.count
  pub alphas : has_alpha k ≡ true → Reach (alpha p.alpha_ends p.alpha_sels) h.alpha_endpoints.count h.alpha_selectors.count

needed : (uses : Bool) (m n : ℕ) → pick uses (leb m n) true ≡ true → uses ≡ true → m ≤ n
needed uses m n e is = leb-true m n (rw is at e)

pub lent : (h : Header) (p : Palettes) → palettes_reach h p ≡ true → Lent (kind_of h.format) h p
unfolding palettes_reach
lent h p e =
    let p0 = both_hold (pick colored (leb h.color_endpoints.count (length p.color_ends)) true) _ e in
    let p1 = both_hold (pick colored (leb h.color_selectors.count (length p.color_sels)) true) _ p0.1 in
    let p2 = both_hold (pick masked (leb h.alpha_endpoints.count (length p.alpha_ends)) true) _ p1.1 in
    record {
      colors = λ is. (needed colored _ _ p0.0 is, needed colored _ _ p1.0 is);
      alphas = λ is. (needed masked _ _ p2.0 is, needed masked _ _ p2.1 is);
    }
  where
    colored : Bool
    colored = has_color (kind_of h.format)

    masked : Bool
    masked = has_alpha (kind_of h.format)

pub reach_by : (h : Header) (s : Sizes) (p : Palettes) (k : Kind) → known k ≡ true → Lent k h p
    → Reaches p (planes_by k h s).first × Reaches p (planes_by k h s).second
unfolding planes_by shade_of
reach_by h s p DXT1 e l = (l.colors refl, l.colors refl)
reach_by h s p DXT5 e l = (l.alphas refl, l.colors refl)
reach_by h s p DXT5A e l = (l.alphas refl, l.alphas refl)
reach_by h s p DXN e l = (l.alphas refl, l.alphas refl)
reach_by h s p Unknown e l = absurd (false≢true e)
