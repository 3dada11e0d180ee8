-- The planes of a format, as the code goes over them.
use Rattle.std.specs.Prelude.{ℕ, ◌+◌, Bool, true, false, eqb}
use Rattle.crn_format.specs.Choice.{pick}
use Rattle.crn_format.specs.declared.Kind.{Kind}
use Rattle.crn_format.specs.Header.{kind_of, has_color, has_alpha, block_bytes}
use Rattle.crn_format.specs.declared.Part.{Part}
use Rattle.crn_format.specs.declared.Header.{Header}
use Rattle.crn_chunks.specs.declared.Side.{Side}
use Rattle.crn_chunks.specs.declared.Planes.{Planes}
use Rattle.crn_decoders.specs.declared.decoders.Sizes.{Sizes}
use Rattle.crn_decoders.specs.Tables.{tables_in}

-- a plane whose two tables are of the numbers k and k + 1
abbrev pub side_of : ℕ → Part → Part → Bool → Side
side_of k ends sels is_alpha = record { ends = k; sels = k + 1; endpoints = ends.count; selectors = sels.count; alpha = is_alpha }

-- the colour plane's tables come after the alpha plane's
abbrev pub color_tables : Bool → ℕ
color_tables alpha = pick alpha 3 1

abbrev pub color_side : Header → Bool → Side
color_side h alpha = side_of (color_tables alpha) h.color_endpoints h.color_selectors false

abbrev pub alpha_side : Header → Side
alpha_side h = side_of 1 h.alpha_endpoints h.alpha_selectors true

unfoldable pub planes_by : Kind → Header → Sizes → Planes
planes_by kind h s =
    record {
      two = eqb (block_bytes kind) 16;
      first = pick (has_alpha kind) (alpha_side h) (color_side h (has_alpha kind));
      second = pick (has_color kind) (color_side h (has_alpha kind)) (alpha_side h);
      tables = tables_in (has_color kind) (has_alpha kind);
      lookup_step = s.lookup_step;
      sorted_step = s.sorted_step;
    }

abbrev pub planes_for : Header → Sizes → Planes
planes_for h s = planes_by (kind_of h.format) h s
