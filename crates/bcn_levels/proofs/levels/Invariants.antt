-- The levels before the loop's are in their places, and the others are bytes.
use Rattle.std.proofs.Common.{◌≡◌, ℕ, ◌+◌, ◌*◌, ◌<◌, ◌≤◌, get_or}
use Rattle.bcn_format.specs.Channels.{byte}
use Rattle.bcn_format.specs.Blocks.{level}
use Rattle.bcn_levels.proofs.levels.Given as goal

abbrev pub invariant-loop-level : goal.invariant-loop-level
invariant-loop-level l = record {
  placed : (k : ℕ) → k < l.level-index → get_or l.level-items k 0 ≡ byte (level l.a l.b k) * l.scale + l.more;
  left : (k : ℕ) → l.level-index ≤ k → k < 8 → get_or l.level-items k 0 ≡ byte (level l.a l.b k);
}
