-- The look at this file, and then its header against the record: the derived equality's chain of tests is the definition's groups.
use mathlib.Core.Path.{sym, ap, ◌∙◌}
use Rattle.crn_format.specs.Look.{looked}
use Rattle.crn_format.specs.Loading.{same_part, same_sizes, same_kind, same_parts, same_levels, same_header, agrees}
use Rattle.crn_format.proofs.Numbers.{number-some}
use Rattle.crn_formats.proofs.Joined.{grouped}
use Rattle.crn_decomp.proofs.Compared.{pairs, joined}
use Rattle.crn_decomp.proofs.agreeing.agrees.Goals as goal

pub returns-in-Ok : goal.returns-in-Ok
unfolding agrees same_header same_sizes same_kind same_parts same_part same_levels
returns-in-Ok c =
    let seen = sym c.look.ensures ∙ ap looked c.in-Ok.is in
    simp (grouped, joined, pairs, seen, c.eq.ensures)

pub returns-in-Err : goal.returns-in-Err
unfolding agrees
returns-in-Err c =
    let seen = sym c.look.ensures ∙ ap looked c.in-Err.is in
    simp (seen, number-some)
