-- A file opened: what the callee ensures, of its answer as one struct.
use Rattle.crunch_abi.proofs.Flat.{opens_flat}
use Rattle.crunch_abi.proofs.crunch_open_parts.Goals as goal

pub returns : goal.returns
returns c = rw c.flat.ensures (opens_flat _ _ _ _ _ _ c.open_into.ensures)
