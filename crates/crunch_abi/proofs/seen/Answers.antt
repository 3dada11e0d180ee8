-- A look's answer as one struct.
use Rattle.crunch_abi.proofs.Empty.{header_empty}
use Rattle.crunch_abi.proofs.seen.Goals as goal

pub returns-in-Err : goal.returns-in-Err
returns-in-Err c = rw (c.in-Err.is, c.into.ensures, header_empty _ c.default.ensures)
