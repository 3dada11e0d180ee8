-- `read_full` stays in its buffer. Invariant: no more bytes are read than it has room for.
use Rattle.std.proofs.Common.{◌≤◌, length}
use Rattle.crn_tables.proofs.read_full.Given as goal

abbrev pub invariant-reads : goal.invariant-reads
invariant-reads g l = l.done ≤ length l.initial.buffer
