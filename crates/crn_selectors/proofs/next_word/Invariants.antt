-- Eight symbols change the pairs. The invariant: what is left of them, run from here, ends as all of them do, and the pairs so far are
-- written.
use Rattle.std.proofs.Common.{ℕ, ◌*◌, Bool, List}
use Rattle.crn_format.specs.Reading.{run, from_bits, spot}
use Rattle.crn_format.specs.Palettes.{changed}
use Rattle.crn_symbol_codec.specs.Cursors.{place, Holds}
use Rattle.crn_symbol_codec.specs.Decoders.{Decodes}
use Rattle.crn_symbol_codec.specs.declared.Cursor.{Cursor}
use Rattle.crn_selectors.specs.Selectors.{top_of, bits_of, values_of, Pairs}
use Rattle.crn_selectors.proofs.Changing.{Changed}
use Rattle.crn_selectors.proofs.Packing.{Packed}
use Rattle.crn_selectors.proofs.next_word.Given as goal

-- at the cursor `at`, after j of the pairs that are changed from c on
pub record State (alpha : Bool) (lookup sorted seg : List ℕ) (c : Cursor) (before pairs : List ℕ) (at : Cursor) (word shift j : ℕ) : Type 0
  where
    pub holds : Holds seg at
    pub eight : Pairs alpha pairs
    pub packs : Packed (top_of alpha) (bits_of alpha) (values_of pairs) word (2 * j) shift
    pub changes : (t : List ℕ) → Decodes t lookup sorted → (b : ℕ) → Changed seg (top_of alpha) t j (values_of pairs) at
        (run (from_bits seg) (changed (top_of alpha) t 8 0 (values_of before)) (spot (place c) b))

abbrev pub invariant-loop-pair : goal.invariant-loop-pair
invariant-loop-pair g l = State g.K.Kind.alpha l.fn.code.lookup.now l.fn.code.sorted.now l.seg l.fn.c l.initial.pairs l.pairs l.at l.word
    l.shift l.pair-index
