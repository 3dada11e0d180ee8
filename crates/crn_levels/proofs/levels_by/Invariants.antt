-- The invariant: from how far it has come, the definition goes on to where it goes from the start.
use Prim.Native.Nat.{◌*◌, ◌-◌, ◌≤◌}
use mathlib.Core.Path.{◌≡◌}
use lib.ListN.{length}
use Rattle.crn_format.specs.declared.Tables.{Tables}
use Rattle.crn_formats.specs.Lent.{lent}
use Rattle.crn_drawing.specs.Levels.{record_with, Made}
use Rattle.crn_levels.specs.Several.{begun, several_from}
use Rattle.crn_sizes.proofs.Counts.{most_cutouts}
use Rattle.crn_levels.proofs.Steps.{far}
use Rattle.crn_levels.proofs.levels_by.Given as goal

abbrev pub invariant-loop-level : goal.invariant-loop-level
invariant-loop-level l = record {
  within : l.level - l.first ≤ l.h.levels - l.first;
  place : l.from ≤ length l.dst;
  long : length l.dst ≡ length l.initial.dst;
  left : l.budget ≤ l.all;
  cut : l.cutouts ≤ most_cutouts * (l.level - l.first);
  goes : (t : Tables) → Made (record_with l.h t) l.made.sizes l.made.lookup.now l.made.sorted.now
      → several_from (l.h.levels - l.level) (record_with l.h t) l.file
      (lent l.palettes) (far l.first l.level l.from l.all l.budget l.cutouts) l.dst
      ≡ several_from (l.h.levels - l.first) (record_with l.h t) l.file
      (lent l.palettes) (begun l.first l.all) l.initial.dst;
}
