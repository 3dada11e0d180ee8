-- The tables segment: the chunk table, then the planes' tables.
use Rattle.crn_format.proofs.Results.{passed}
use Rattle.crn_opening.proofs.SentTables.{told-refused, chunk-refused, color-refused, alpha-refused, all-sent}
use Rattle.crn_opening.proofs.tables_segment.read_tables.Goals as goal

pub returns-in_err-chunk-clause-tells : goal.returns-in_err-chunk-clause-tells
returns-in_err-chunk-clause-tells c =
    rw (passed c.from_residual.ensures.1) (told-refused _ (chunk-refused _ _ _ c.start.ensures.1 c.in_err-chunk.ensures))

pub returns-in_err-color_ends-clause-tells : goal.returns-in_err-color_ends-clause-tells
returns-in_err-color_ends-clause-tells c =
    rw (passed c.from_residual-in_err-color_ends.ensures.1)
    (told-refused _ (color-refused _ _ _ c.start.ensures.1 c.in_ok-chunk.ensures c.in_err-color_ends.ensures))

pub returns-in_err-alpha_ends-clause-tells : goal.returns-in_err-alpha_ends-clause-tells
returns-in_err-alpha_ends-clause-tells c =
    rw (passed c.from_residual-in_err-alpha_ends.ensures.1)
    (told-refused _
    (alpha-refused _ _ _ c.start.ensures.1 c.in_ok-chunk.ensures c.in_ok-color_ends.ensures c.in_err-alpha_ends.ensures))

pub returns-clause-tells : goal.returns-clause-tells
returns-clause-tells c = all-sent _ _ _ c.start.ensures.1 c.in_ok-chunk.ensures c.in_ok-color_ends.ensures c.in_ok-alpha_ends.ensures
