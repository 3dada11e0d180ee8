-- A refill gives more bits than are wanted.
use native.Mathlib.Omega.{arith}
use Rattle.crn_short_draw.proofs.filling.filled.Goals as goal

pub returns-then-c-lt16 : goal.returns-then-c-lt16
returns-then-c-lt16 c = let f = c.refill.ensures in record { holds = f.holds; stays = f.stays; enough = λ l. f.enough (omega arith) }
