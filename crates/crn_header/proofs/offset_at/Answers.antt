-- A level's offset, zero where the file has no such level.
use Rattle.std.proofs.Common.{◌<◌, ◌≤◌, arith}
use borrow.Author.Tests.{lt-ltb, le-ltb}
use Rattle.crn_header.proofs.offset_at.Goals as goal

pub returns-then-i-levels : goal.returns-then-i-levels
returns-then-i-levels c =
    let there : c.args.i < c.args.levels = omega arith in
    simp (lt-ltb _ _ there, c.big32.ensures, c.from-i.ensures)

pub returns-else-i-levels : goal.returns-else-i-levels
returns-else-i-levels c = let past : c.args.levels ≤ c.args.i = omega arith in simp (le-ltb _ _ past)
