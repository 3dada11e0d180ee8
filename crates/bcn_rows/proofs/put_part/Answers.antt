-- One texel after another, as many as there are. Assumes nothing.
use mathlib.Core.Path.{◌≡◌}
use native.Mathlib.Omega.{arith}
use Rattle.bcn_rows.proofs.Laws.{first-texel, next-texel}
use Rattle.bcn_rows.proofs.put_part.Goals as goal

pub returns-then-n-eq0 : goal.returns-then-n-eq0
returns-then-n-eq0 c = rw c.if-n-eq0.true

pub returns-then-n-eq1 : goal.returns-then-n-eq1
returns-then-n-eq1 c =
    let a = c.args in
    rw c.if-n-eq1.true (first-texel a.r a.dst.now a.at c.texel.ensures c.put_four.ensures)

pub returns-then-n-eq2 : goal.returns-then-n-eq2
returns-then-n-eq2 c =
    let a = c.args in
    rw c.if-n-eq2.true
    (next-texel a.r a.dst.now a.at 1 (omega arith)
    (first-texel a.r a.dst.now a.at c.texel.ensures c.put_four.ensures)
    c.texel-2.ensures c.put_four-2.ensures)

pub returns : goal.returns
returns c =
    let a = c.args in
    let all : a.n ≡ 3 = omega arith in
    rw all
    (next-texel a.r a.dst.now a.at 2 (omega arith)
    (next-texel a.r a.dst.now a.at 1 (omega arith)
    (first-texel a.r a.dst.now a.at c.texel.ensures c.put_four.ensures)
    c.texel-2.ensures c.put_four-2.ensures)
    c.texel-3.ensures c.put_four-3.ensures)
