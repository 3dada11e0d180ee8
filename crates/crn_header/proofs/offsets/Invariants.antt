-- The offsets so far, and those that remain to be read, are the whole list.
use Rattle.std.proofs.Common.{◌≡◌, ◌-◌, ◌++◌, length, take}
use Rattle.crn_format.specs.Limits.{max_levels}
use Rattle.crn_format.specs.Header.{offsets_from}
use Rattle.crn_header.proofs.offsets.Given as goal

abbrev pub invariant-loop-i : goal.invariant-loop-i
invariant-loop-i l = (length l.offset-items ≡ max_levels)
    × (take l.i l.offset-items ++ offsets_from l.file l.levels l.i (max_levels - l.i) ≡ offsets_from l.file l.levels 0 max_levels)
