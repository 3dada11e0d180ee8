-- A number, after a refill where it may need one.
use Prim.Native.Nat.{◌<◌}
use native.Mathlib.Omega.{arith}
use borrow.Author.Rules.{rules}
use Rattle.crn_symbol_codec.proofs.Taking.{takes_at}
use Rattle.crn_symbol_codec.proofs.number.Goals as goal

pub number_ready-requires : goal.number_ready-requires
number_ready-requires c =
    let r = c.refill.ensures in
    record { holds = r.holds; enough = (λ (few : c.refill.result.have < 16). r.enough (omega arith)); n_in = search rules }

pub returns-then-c-lt16 : goal.returns-then-c-lt16
returns-then-c-lt16 c = takes_at c.refill.ensures.stays c.number_ready.ensures
