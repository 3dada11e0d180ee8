-- A draw under the budget.
use Prim.Native.Nat.{ℕ}
use mathlib.Core.List.{List}
use mathlib.Core.Path.{refl, sym}
use native.Mathlib.Omega.{arith}
use Rattle.crn_format.specs.Reading.{a_symbol}
use Rattle.crn_symbol_codec.specs.Taking.{Takes}
use Rattle.crn_chunks.specs.Meaning.{Coded}
use Rattle.crn_chunks.proofs.Drawing.{symbol-spent, symbol-charged, symbol-on}
use Rattle.crn_chunks.proofs.budgeted_draw.Goals as goal

pub returns-then-s-eq0 : goal.returns-then-s-eq0
returns-then-s-eq0 c =
    record { same = λ cs k. sym (symbol-spent _ _ c.args.s c.if-s-eq0.true refl); on = tt }

pub draw-requires-clause-usable : goal.draw-requires-clause-usable
draw-requires-clause-usable c =
    rw (c.decoder.ensures.lookup, c.decoder.ensures.sorted) (c.requires.ready.served.coded c.args.which c.requires.which_in).usable

pub returns : goal.returns
returns c =
    let g = c.args.supply.now in
    let v = c.requires.ready.served in
    let some = c.if-s-eq0.false in
    let k = c.args.which in
    let d : (cs : ℕ → List ℕ) → Coded cs g.planes g.lookup.now g.sorted.now
    → Takes g.seg.now (a_symbol (cs k)) c.args.s.cursor c.draw.result =
    λ cs h. c.draw.ensures (cs k) (rw (c.decoder.ensures.lookup, c.decoder.ensures.sorted) (h k c.requires.which_in)) in
    record {
      same = λ cs h. symbol-charged c.args.s (d cs h) some;
      on = symbol-on g.seg.now c.args.s.left c.draw.result (omega (arith, some)) (d v.codes v.coded).holds;
    }
