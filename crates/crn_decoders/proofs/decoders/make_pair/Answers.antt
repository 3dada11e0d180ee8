-- A plane's two tables, one after the other.
use native.Mathlib.Omega.{arith}
use Rattle.crn_decoders.proofs.Made.{coded-at}
use Rattle.crn_decoders.proofs.decoders.make_pair.Goals as goal

pub returns : goal.returns
returns c = λ cs e₁ e₂ coded. coded-at (omega arith) (c.make-2.ensures cs e₂ (c.make.ensures cs e₁ coded))
