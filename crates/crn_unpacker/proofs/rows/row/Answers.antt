use mathlib.Core.Path.{refl}
use native.Mathlib.Omega.{arith}
use Rattle.crn_blocks.proofs.Rows.{row_next}
use Rattle.crn_unpacker.proofs.Steps.{carry_chunk, stop-early, respell}
use Rattle.crn_unpacker.proofs.rows.row.Goals as goal

pub chunk-requires-clause-onward : goal.chunk-requires-clause-onward
chunk-requires-clause-onward c = c.loop-k.invariant.onward _ _ refl

pub returns-in_err-m : goal.returns-in_err-m
returns-in_err-m c =
    let a = c.args in
    stop-early (omega (arith, row_next a.level.now.grid a.face a.cy, c.loop-k-test.true)) c.in_err-m.was c.from_residual.ensures.1
    (carry_chunk a.face c.loop-k.k a.cy _ a.turned c.requires.fit.room c.requires.row_in.2 c.loop-k-test.true c.column.ensures
    c.loop-k.invariant c.chunk.ensures)

pub loop-k-preserved : goal.loop-k-preserved
loop-k-preserved c =
    let a = c.args in
    respell refl refl c.in_ok-m.was
    (carry_chunk a.face c.loop-k.k a.cy _ a.turned c.requires.fit.room c.requires.row_in.2 c.loop-k-test.true c.column.ensures
    c.loop-k.invariant c.chunk.ensures)

pub returns : goal.returns
returns c =
    respell refl (omega (arith, row_next c.args.level.now.grid c.args.face c.args.cy, c.loop-k-test.false)) refl c.loop-k.invariant
