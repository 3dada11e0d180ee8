-- A table is received; a fault clears the lent lengths.
use Prim.Native.Nat.{ℕ}
use mathlib.Core.Path.{◌≡◌, sym, ap, ◌∙◌}
use native.Mathlib.Omega.{arith}
use lib.ListN.{length, replicate}
use Rattle.crn_format.specs.Limits.{max_symbols}
use Rattle.crn_code_tables.proofs.Telling.{received, declined}
use Rattle.crn_code_tables.proofs.receive.Goals as goal

pub returns-then-is_err : goal.returns-then-is_err
returns-then-is_err c =
    let long : length c.sent_table-received.new.out ≡ max_symbols = omega arith in
    declined _ (sym c.if-is_err.ensures.value) c.sent_table-received.ensures
    (c.fill.ensures.after (λ y h. h) ∙ ap (λ (n : ℕ). replicate n 0) long)

pub returns-else-is_err : goal.returns-else-is_err
returns-else-is_err c = received _ (sym c.if-is_err.ensures.value) c.sent_table-received.ensures
