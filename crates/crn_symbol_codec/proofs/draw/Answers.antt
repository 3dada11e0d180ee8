-- A symbol, after a refill where it may need one.
use Prim.Native.Nat.{◌<◌}
use native.Mathlib.Omega.{arith}
use Rattle.crn_symbol_codec.proofs.Taking.{takes_at}
use Rattle.crn_symbol_codec.proofs.draw.Goals as goal

pub draw_ready-requires : goal.draw_ready-requires
draw_ready-requires c =
    let r = c.refill.ensures in
    record { holds = r.holds; enough = (λ (few : c.refill.result.have < 16). r.enough (omega arith)); usable = c.requires.usable }

pub returns-then-c-lt16 : goal.returns-then-c-lt16
returns-then-c-lt16 c = λ ls d. takes_at c.refill.ensures.stays (c.draw_ready.ensures.0 ls d)
