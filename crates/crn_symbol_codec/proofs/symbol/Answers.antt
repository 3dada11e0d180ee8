-- A sorted symbol is the list's, or 0 past its end.
use mathlib.Core.Path.{sym}
use native.Mathlib.Omega.{arith}
use lib.ListN.{get_or-eq_default}
use borrow.Author.Rules.{rules}
use Rattle.crn_symbol_codec.proofs.symbol.Goals as goal

pub returns-then-sorted-i : goal.returns-then-sorted-i
returns-then-sorted-i c =
    let a = c.args in
    (sym (get_or-eq_default a.sorted.now 0 c.if-sorted-i.true), omega arith)

pub overflow_cast-result : goal.overflow_cast-result
overflow_cast-result c = omega (arith, c.type_inv.sorted c.args.i)

pub returns : goal.returns
returns c = (search rules, omega (arith, c.type_inv.sorted c.args.i))
