use mathlib.Core.Path.{refl, sym, ap, ◌∙◌}
use native.Mathlib.Nat.{sub-zero}
use native.Mathlib.Omega.{arith}
use lib.ListN.{length, length-set}
use Rattle.crn_symbol_codec.proofs.Serving.{number_small}
use Rattle.crn_code_tables.proofs.Telling.{serves, serves_none}
use Rattle.crn_code_tables.proofs.Sending.{sent-more, sent-failed, sent_done}
use Rattle.crn_code_tables.proofs.parts.sent_lengths.Goals as goal

pub loop-i-init : goal.loop-i-init
loop-i-init c =
    let zero = c.requires.lengths_zero in
    record { long = ap length zero; holds = c.requires.holds; same = λ b. rw (zero, sub-zero) refl }

pub returns-in-Err : goal.returns-in-Err
returns-in-Err c =
    let a = c.loop-i in
    let l = serves_none {d = a.at} c.ready.ensures.1 c.in-Err.ensures in
    rw c.fault.ensures
    (record {
      same = λ b. sym (a.invariant.same b) ∙ sent-failed _ a.i a.lengths b (omega arith) (omega arith) l;
      long = a.invariant.long;
      holds = tt;
    })

pub overflow_cast-lengths : goal.overflow_cast-lengths
overflow_cast-lengths c = omega (arith, number_small c.in-Ok.ensures refl)

pub loop-i-preserved : goal.loop-i-preserved
loop-i-preserved c =
    let a = c.loop-i in
    let l = serves {d = a.at} c.ready.ensures.1 c.in-Ok.ensures in
    record {
      long = simp length-set a.invariant.long;
      holds = l.holds;
      same = λ b. rw c.length_symbol.ensures.0 (sym (sent-more _ a.i a.lengths b (omega arith) (omega arith) l) ∙ a.invariant.same b);
    }

pub returns : goal.returns
returns c =
    let a = c.loop-i in
    record {
      same = λ b. sym (a.invariant.same b) ∙ sent_done _ _ a.i a.lengths _ b (omega arith);
      long = a.invariant.long;
      holds = a.invariant.holds;
    }
