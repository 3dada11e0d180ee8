-- The four lent palettes, as a function's parameters bring them.
use Rattle.std.specs.Prelude.{ℕ, List}
use Rattle.crn_format.specs.Opening.{Palettes}
use Rattle.crn_formats.specs.declared.records.Palettes.{Palettes as Lending}

abbrev pub lent_of : List ℕ → List ℕ → List ℕ → List ℕ → Palettes
lent_of color_ends color_sels alpha_ends alpha_sels =
    record { color_ends = color_ends; color_sels = color_sels; alpha_ends = alpha_ends; alpha_sels = alpha_sels }

-- those that a struct lends
abbrev pub lent : Lending → Palettes
lent p = lent_of p.color_endpoints.now p.color_selectors.now p.alpha_endpoints.now p.alpha_selectors.now
