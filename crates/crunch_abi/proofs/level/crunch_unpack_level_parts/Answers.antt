-- A level unpacked: the callee's answer, flat.
use Rattle.crunch_abi.proofs.level.crunch_unpack_level_parts.Goals as goal

pub returns : goal.returns
returns c = record { told = c.unpack_level_by.result; unpacks = c.unpack_level_by.ensures; same = c.flat.ensures }
