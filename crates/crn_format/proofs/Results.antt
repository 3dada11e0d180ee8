-- What `?` hands on.
use Rattle.std.specs.Prelude.{Err}
use Rattle.std.specs.Result.{IsErrAnd}
use Rattle.std.specs.declared.result.Result.{Result}
use Rattle.std.proofs.lemmas.Result.{err_from_is_err_and}
use mathlib.Core.Path.{◌≡◌, ap, ◌∙◌}

pub passed : {X E : Type 0} {e : E} {r : Result X E} → IsErrAnd r (λ x. x ≡ e) → r ≡ Err e
passed {r = r} h = let p = err_from_is_err_and r h in p.1 ∙ ap Err p.2
