-- The entries of a colour endpoint palette. The invariant: those so far are in the buffer, and what is left of them ends as all of them do.
use Rattle.std.proofs.Common.{◌≡◌, ℕ, List, length}
use Rattle.crn_format.specs.Palettes.{summed, color_sums, color_word}
use Rattle.crn_symbol_codec.specs.Decoders.{Decodes}
use Rattle.crn_palettes.proofs.Entering.{Filling}
use Rattle.crn_endpoints.proofs.color_words.Given as goal

abbrev pub invariant-loop-word : goal.invariant-loop-word
invariant-loop-word l = Filling
    (λ (t : List ℕ × List ℕ). Decodes t.0 l.fn.five.lookup.now l.fn.five.sorted.now × Decodes t.1 l.fn.six.lookup.now l.fn.six.sorted.now)
    l.seg (λ t. summed (color_sums t.0 t.1) 0) color_word l.count l.initial.word-items l.initial.values l.initial.at l.word-index
    l.word-index l.word-items l.values l.at
    × (length l.values ≡ 6)
