-- A symbol by the entry of the next bits; where there is none, as `crn_symbol_codec::draw` finds it.
use mathlib.Core.Path.{refl}
use native.Mathlib.Omega.{arith}
use Rattle.crn_symbol_codec.specs.Cursors.{Enough}
use Rattle.crn_symbol_codec.proofs.Seeking.{entries-length}
use Rattle.crn_symbol_codec.proofs.Drawing.{in_entries, entry_length, entry_found}
use Rattle.crn_symbol_codec.proofs.Taking.{takes-symbol}
use Rattle.crn_short_draw.proofs.draw.Goals as goal

pub offset_bounds-entries-i : goal.offset_bounds-entries-i
offset_bounds-entries-i c =
    let some : Enough c.args.seg.now c.args.c 16 = λ few. omega (arith, c.if-c-lt16.false) in
    omega (arith, in_entries c.requires.holds some c.requires.usable)

pub bounds-entries-i : goal.bounds-entries-i
bounds-entries-i c =
    let some : Enough c.args.seg.now c.args.c 16 = λ few. omega (arith, c.if-c-lt16.false) in
    omega (arith, in_entries c.requires.holds some c.requires.usable, entries-length c.args.code.lookup.now)

pub overflow_sub-have : goal.overflow_sub-have
overflow_sub-have c =
    let some : Enough c.args.seg.now c.args.c 16 = λ few. omega (arith, c.if-c-lt16.false) in
    omega (arith, entry_length c.requires.holds some c.requires.usable _ refl c.if-e-eq0.false, c.requires.usable.few, c.if-c-lt16.false)

pub returns : goal.returns
returns c =
    let some : Enough c.args.seg.now c.args.c 16 = λ few. omega (arith, c.if-c-lt16.false) in
    let l = entry_length c.requires.holds some c.requires.usable _ refl c.if-e-eq0.false in
    let r = entry_found c.requires.holds some c.requires.usable _ refl c.if-e-eq0.false
    (omega (arith, l, c.requires.usable.few, c.if-c-lt16.false)) in
    λ ls d. takes-symbol r d
