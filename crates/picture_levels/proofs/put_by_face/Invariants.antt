-- The invariant: with the levels so far in their places, the definition goes on to where it goes from the start.
use Prim.Native.Nat.{ℕ, ◌+◌, ◌*◌, ◌-◌, ◌≤◌}
use mathlib.Core.Path.{◌≡◌}
use mathlib.Core.List.{List}
use lib.ListN.{length}
use Rattle.crn_format.specs.Opening.{Palettes}
use Rattle.crn_format.specs.declared.Header.{Header}
use Rattle.crn_format.specs.declared.Tables.{Tables}
use Rattle.crn_formats.specs.Lent.{lent}
use Rattle.crn_decoders.specs.declared.decoders.Sizes.{Sizes}
use Rattle.crn_drawing.specs.Levels.{record_with, Made}
use Rattle.crn_sizes.proofs.Counts.{most_cutouts, most_symbols}
use Rattle.picture.specs.Surfaces.{picture_of, chain_to, by_face}
use Rattle.picture.specs.Writing.{nothing, put_from}
use Rattle.picture_levels.proofs.put_by_face.Given as goal

pub record Going (h : Header) (s : Sizes) (lookup sorted file : List ℕ) (p : Palettes) (head : ℕ) (dst₀ dst : List ℕ)
    (level from symbols cutouts : ℕ) : Type 0 where
  pub place : from ≡ head + chain_to (picture_of h) level
  pub long : length dst ≡ length dst₀
  pub drawn : symbols ≤ most_symbols * level
  pub cut : cutouts ≤ most_cutouts * level
  pub goes : (t : Tables) → Made (record_with h t) s lookup sorted
      → put_from (h.levels - level) (by_face head (picture_of h)) (record_with h t) file p level
      (record { symbols = symbols; cutouts = cutouts }) dst
      ≡ put_from h.levels (by_face head (picture_of h)) (record_with h t) file p 0 nothing dst₀

abbrev pub invariant-loop-level : goal.invariant-loop-level
invariant-loop-level l =
    Going l.h l.made.sizes l.made.lookup.now l.made.sorted.now l.file (lent l.palettes) l.head l.initial.dst l.dst l.level
    l.from l.symbols l.cutouts
