-- A file's palettes loaded: what the callee ensures, of its answer as one struct.
use Rattle.crunch_abi.proofs.Flat.{loads_flat}
use Rattle.crunch_abi.proofs.loading.crunch_load_parts.Goals as goal

pub returns : goal.returns
returns c = rw c.flat.ensures (loads_flat c.load_into.ensures)
