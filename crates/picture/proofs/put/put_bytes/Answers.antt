use native.Mathlib.Omega.{arith}
use Rattle.std.proofs.lemmas.Grind.{common_steps}
use Rattle.picture.proofs.Setting.{copied}
use Rattle.picture.proofs.put.put_bytes.Goals as goal

pub returns : goal.returns
returns c = grind (arith, common_steps, copied)
