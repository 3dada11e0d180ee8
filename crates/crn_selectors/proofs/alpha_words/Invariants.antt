-- The entries of an alpha selector palette, three words each. The invariant: those before i are in the buffer, and what is left of them
-- ends as all of them do.
use Rattle.std.proofs.Common.{ℕ, ◌*◌, List, true}
use Rattle.crn_format.specs.Palettes.{changed, alpha_selector_words}
use Rattle.crn_symbol_codec.specs.Decoders.{Decodes}
use Rattle.crn_palettes.proofs.Entering.{Filling}
use Rattle.crn_selectors.specs.Selectors.{values_of, Pairs}
use Rattle.crn_selectors.proofs.alpha_words.Given as goal

abbrev pub invariant-loop-i : goal.invariant-loop-i
invariant-loop-i l = Filling (λ (t : List ℕ). Decodes t l.fn.code.lookup.now l.fn.code.sorted.now) l.seg
    (λ t. changed 7 t 8 0) alpha_selector_words l.count l.initial.out (values_of l.initial.pairs) l.initial.at l.i (3 * l.i) l.out
    (values_of l.pairs) l.at
    × Pairs true l.pairs
