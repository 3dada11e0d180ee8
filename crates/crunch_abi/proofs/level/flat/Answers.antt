-- An answer as one struct.
use Rattle.crunch_abi.proofs.level.flat.Goals as goal

pub returns-in-Err : goal.returns-in-Err
returns-in-Err c = rw c.in-Err.is (cc)
