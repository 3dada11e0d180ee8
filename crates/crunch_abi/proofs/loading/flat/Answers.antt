-- An opening's answer as one struct.
use Rattle.crunch_abi.proofs.Empty.{header_empty, no_counts_empty}
use Rattle.crunch_abi.proofs.loading.flat.Goals as goal

pub returns-in-Err : goal.returns-in-Err
returns-in-Err c =
    rw (c.in-Err.is, c.into.ensures, header_empty _ c.default.ensures, no_counts_empty _ c.default-in-Err.ensures)
