-- A run is told by its symbol and the number after it.
use Prim.Native.Nat.{ℕ}
use mathlib.Core.List.{List}
use mathlib.Core.Path.{◌≡◌, ap, ◌∙◌}
use native.Mathlib.Omega.{arith}
use Rattle.std.specs.Prelude.{Ok, Err}
use Rattle.crn_format.specs.Reading.{a_symbol}
use Rattle.crn_format.specs.declared.Fault.{Fault}
use Rattle.crn_format.specs.declared.Refusal.{Refusal}
use Rattle.crn_symbol_codec.specs.Cursors.{place}
use Rattle.crn_symbol_codec.specs.Decoders.{Decodes}
use Rattle.crn_symbol_codec.specs.Taking.{Taken, refusal_of, Takes}
use Rattle.crn_symbol_codec.specs.declared.Cursor.{Cursor}
use Rattle.crn_code_tables.specs.Parts.{fault_at}
use Rattle.crn_code_tables.proofs.Telling.{Serves, serves, serves_none}
use Rattle.crn_code_tables.proofs.Running.{symbol-failed, one-run, number-failed, zeros-run, again-none, again-run}
use Rattle.crn_code_tables.proofs.parts.run_at.Goals as goal

-- the symbol, drawn from where the cursor is made ready
drawn : {lookup sorted seg : List ℕ} {near at : Cursor} {t : ℕ × Cursor} → place near ≡ place at
    → ((cl : List ℕ) → Decodes cl lookup sorted → Takes seg (a_symbol cl) near (Ok t))
    → (cl : List ℕ) → Decodes cl lookup sorted → Serves seg (a_symbol cl) at (Ok t)
drawn e t cl d = serves e (t cl d)

-- the fault of an answer without a value
faulted : {t : Taken} {n k : Refusal} {f : Fault} {p : ℕ} → f ≡ fault_at k p → k ≡ refusal_of t → t ≡ Err n → f ≡ fault_at n p
faulted {p = p} f k is = f ∙ ap (λ (n : Refusal). fault_at n p) (k ∙ ap refusal_of is)

pub returns-in_default : goal.returns-in_default
returns-in_default c =
    rw (faulted c.fault.ensures c.refusal.ensures c.in_default.is)
    (record { same = λ cl d. symbol-failed _ _ (serves_none {d = c.args.at} c.ready.ensures.1 (c.in_default.ensures cl d)); goes = tt })

pub returns-then-s-le16 : goal.returns-then-s-le16
returns-then-s-le16 c =
    let s = drawn {at = c.args.at} c.ready.ensures.1 c.in-Ok.ensures in
    let code = c.requires.some_code in
    record {
      same = λ cl d. one-run _ _ (s cl d) c.if-s-le16.true;
      goes = (c.if-s-le16.true, omega arith, (s code.code code.decodes).holds);
    }

pub returns-in_default-counted : goal.returns-in_default-counted
returns-in_default-counted c =
    let s = drawn {at = c.args.at} c.ready.ensures.1 c.in-Ok.ensures in
    let x = serves_none {d = c.in-Ok.close} c.ready-2.ensures.1 c.in_default-counted.ensures in
    rw (faulted c.fault-in_default-counted.ensures c.refusal-in_default-counted.ensures c.in_default-counted.is)
    (record {
      same = λ cl d.
          number-failed _ _ (s cl d) c.if-s-le16.false c.run_by-extra.ensures.extra.0 x;
      goes = tt;
    })

pub returns-then-s-le18 : goal.returns-then-s-le18
returns-then-s-le18 c =
    let s = drawn {at = c.args.at} c.ready.ensures.1 c.in-Ok.ensures in
    let x = serves {d = c.in-Ok.close} c.ready-2.ensures.1 c.in-Ok-counted.ensures in
    let by = c.run_by-extra.ensures in
    record {
      same = λ cl d.
          zeros-run _ _ (s cl d) c.if-s-le16.false by.extra.0 x by.least.0 c.if-s-le18.true;
      goes = (omega arith, omega arith, x.holds);
    }

pub returns-then-last-eq0 : goal.returns-then-last-eq0
returns-then-last-eq0 c =
    let s = drawn {at = c.args.at} c.ready.ensures.1 c.in-Ok.ensures in
    let x = serves {d = c.in-Ok.close} c.ready-2.ensures.1 c.in-Ok-counted.ensures in
    let by = c.run_by-extra.ensures in
    rw c.fault-then-last-eq0.ensures
    (record {
      same = λ cl d.
          again-none _ _ (s cl d) c.if-s-le16.false by.extra.0 x by.least.0 c.if-s-le18.false
          (omega arith);
      goes = tt;
    })

pub returns : goal.returns
returns c =
    let s = drawn {at = c.args.at} c.ready.ensures.1 c.in-Ok.ensures in
    let x = serves {d = c.in-Ok.close} c.ready-2.ensures.1 c.in-Ok-counted.ensures in
    let by = c.run_by-extra.ensures in
    record {
      same = λ cl d.
          again-run _ _ (s cl d) c.if-s-le16.false by.extra.0 x by.least.0 c.if-s-le18.false
          (λ z. omega arith);
      goes = (c.requires.last_short, omega arith, x.holds);
    }
