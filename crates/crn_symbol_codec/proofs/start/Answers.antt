-- At the segment's first bit the buffer is empty.
use mathlib.Core.Path.{sym}
use native.Mathlib.Omega.{arith}
use borrow.Author.Rules.{rules}
use Rattle.crn_symbol_codec.proofs.Cut.{cut_zero}
use Rattle.crn_symbol_codec.proofs.start.Goals as goal

pub returns : goal.returns
returns c = (
  record {
    some = search rules;
    within = search rules;
    behind = search rules;
    end = 0;
    after = search rules;
    before = search rules;
    same = sym (cut_zero c.args.seg.now 0 0 64 (omega arith));
  },
  search rules,
)
