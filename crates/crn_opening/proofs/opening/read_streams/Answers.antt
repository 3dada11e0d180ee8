-- The streams, and what a refusal in them clears.
use mathlib.Core.Path.{sym}
use native.Mathlib.Omega.{arith}
use Rattle.crn_opening.proofs.Opens.{streams-read, streams-refused}
use Rattle.crn_opening.proofs.opening.read_streams.Goals as goal

pub returns-then-is_err-clause-opens : goal.returns-then-is_err-clause-opens
returns-then-is_err-clause-opens c =
    streams-refused _ _ _ _ (sym c.if-is_err.ensures.value) c.tables_and_palettes-opened.ensures.opens c.clear.ensures.zero
    (omega arith) (omega arith) (omega arith) (omega arith) c.clear-then-is_err.ensures.zero

pub returns-else-is_err-clause-opens : goal.returns-else-is_err-clause-opens
returns-else-is_err-clause-opens c = streams-read _ _ _ _ (sym c.if-is_err.ensures.value) c.tables_and_palettes-opened.ensures.opens
