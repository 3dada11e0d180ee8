-- What a host needs to size its buffers: the words of each palette, which opening fills, and a level of the format reads.
use Rattle.std.specs.Prelude.{ℕ, ◌*◌, ltb}
use Rattle.crn_format.specs.Choice.{pick}
use Rattle.crn_format.specs.declared.Header.{Header}
use Rattle.crunch_abi.specs.declared.sizes.PaletteWords.{PaletteWords}

-- so many words, none where the plane has no endpoints
abbrev pub words_where : ℕ → ℕ → ℕ
words_where endpoints words = pick (ltb 0 endpoints) words 0

abbrev pub palette_words : Header → PaletteWords
palette_words h =
    record {
      color_endpoints = h.color_endpoints.count;
      color_selectors = words_where h.color_endpoints.count h.color_selectors.count;
      alpha_endpoints = h.alpha_endpoints.count;
      alpha_selectors = words_where h.alpha_endpoints.count (3 * h.alpha_selectors.count);
    }
