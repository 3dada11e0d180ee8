-- The count of symbols, 0 to 8,192, and what follows it.
use native.Mathlib.Omega.{arith}
use Rattle.crn_symbol_codec.specs.Cursors.{place}
use mathlib.Core.Path.{refl}
use Rattle.crn_code_tables.proofs.Telling.{serves, serves_none, tells_fault, tells_same}
use Rattle.crn_code_tables.proofs.Putting.{table_none}
use Rattle.crn_code_tables.proofs.Receiving.{table-failed, reads_none, table-many, table-some}
use Rattle.crn_code_tables.proofs.parts.sent_table.Goals as goal

pub returns-in-Err : goal.returns-in-Err
returns-in-Err c =
    let count = serves_none {d = c.args.c} refl c.in-Err.ensures in
    rw c.fault.ensures (λ b. tells_fault (table-failed b count))

pub returns-then-count-eq0 : goal.returns-then-count-eq0
returns-then-count-eq0 c =
    let count = serves {d = c.args.c} refl c.in-Ok.ensures in
    λ b.
    record {
      blamed = place c.args.c;
      same = reads_none b count (omega arith);
      goes = record { holds = count.holds; whole = table_none c.requires.out_zero };
    }

pub returns-then-count-gt8192 : goal.returns-then-count-gt8192
returns-then-count-gt8192 c =
    let count = serves {d = c.args.c} refl c.in-Ok.ensures in
    rw c.fault-then-count-gt8192.ensures (λ b. tells_fault (table-many b count (λ z. omega arith) (omega arith)))

pub returns : goal.returns
returns c =
    let count = serves {d = c.args.c} refl c.in-Ok.ensures in
    λ b. tells_same (table-some b count (λ z. omega arith) (omega arith)) (c.counted_table.ensures _)
