-- The tables, then the palettes.
use Rattle.crn_format.proofs.Results.{passed}
use Rattle.crn_opening.proofs.Checks.{tables-inside}
use Rattle.crn_opening.proofs.Streams.{tables-stop, streams-told}
use Rattle.crn_opening.proofs.opening.tables_and_palettes.Goals as goal

pub segment-requires : goal.segment-requires
segment-requires c = tables-inside c.requires.passed

pub returns-in_err-counts-clause-opens : goal.returns-in_err-counts-clause-opens
returns-in_err-counts-clause-opens c =
    rw (passed c.from_residual.ensures.1) (tables-stop _ _ _ _ (rw c.segment.ensures.0 at c.in_err-counts.ensures.tells))

pub returns-in_err-read_palettes-clause-opens : goal.returns-in_err-read_palettes-clause-opens
returns-in_err-read_palettes-clause-opens c =
    rw (passed c.from_residual-in_err-read_palettes.ensures.1)
    (streams-told _ _ _ _ _ (rw c.segment.ensures.0 at c.in_ok-counts.ensures.tells) c.in_err-read_palettes.ensures.ends)

pub returns-clause-opens : goal.returns-clause-opens
returns-clause-opens c = streams-told _ _ _ _ _ (rw c.segment.ensures.0 at c.in_ok-counts.ensures.tells) c.in_ok-read_palettes.ensures.ends
