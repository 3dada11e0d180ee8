-- The entries of an alpha endpoint palette. The invariant: those so far are in the buffer, and what is left of them ends as all of them do.
use Rattle.std.proofs.Common.{◌≡◌, ℕ, List, length}
use Rattle.crn_format.specs.Palettes.{summed, alpha_sums, alpha_word}
use Rattle.crn_symbol_codec.specs.Decoders.{Decodes}
use Rattle.crn_palettes.proofs.Entering.{Filling}
use Rattle.crn_endpoints.proofs.alpha_words.Given as goal

abbrev pub invariant-loop-word : goal.invariant-loop-word
invariant-loop-word l = Filling (λ (t : List ℕ). Decodes t l.fn.code.lookup.now l.fn.code.sorted.now) l.seg
    (λ t. summed (alpha_sums t) 0) alpha_word l.count l.initial.word-items l.initial.values l.initial.at l.word-index l.word-index
    l.word-items l.values l.at
    × (length l.values ≡ 2)
