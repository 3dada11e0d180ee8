-- The entries of a colour selector palette. The invariant: those so far are in the buffer, and what is left of them ends as all of them do.
use Rattle.std.proofs.Common.{ℕ, List, false}
use Rattle.crn_format.specs.Palettes.{changed, color_selector_words}
use Rattle.crn_symbol_codec.specs.Decoders.{Decodes}
use Rattle.crn_palettes.proofs.Entering.{Filling}
use Rattle.crn_selectors.specs.Selectors.{values_of, Pairs}
use Rattle.crn_selectors.proofs.color_words.Given as goal

abbrev pub invariant-loop-word : goal.invariant-loop-word
invariant-loop-word l = Filling (λ (t : List ℕ). Decodes t l.fn.code.lookup.now l.fn.code.sorted.now) l.seg
    (λ t. changed 3 t 8 0) color_selector_words l.count l.initial.word-items (values_of l.initial.pairs) l.initial.at l.word-index
    l.word-index l.word-items (values_of l.pairs) l.at
    × Pairs false l.pairs
