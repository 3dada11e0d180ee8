-- The code that the bits begin with, by the entry of the first of them, or the long way where that is 0.
use mathlib.Core.Path.{sym, ◌∙◌}
use native.Mathlib.Omega.{arith}
use Rattle.crn_symbol_codec.proofs.Seeking.{entries-length, within-entries, entry-short, short-found}
use Rattle.crn_symbol_codec.proofs.entry.Goals as goal

pub offset_bounds-entries-i : goal.offset_bounds-entries-i
offset_bounds-entries-i c = omega (arith, within-entries c.requires c.args.bits c.ranges.bits.fits)

pub bounds-entries-i : goal.bounds-entries-i
bounds-entries-i c = omega (arith, within-entries c.requires c.args.bits c.ranges.bits.fits, entries-length c.args.code.lookup.now)

pub long_entry-requires : goal.long_entry-requires
long_entry-requires c =
    record { usable = c.requires; not_short = sym (entry-short c.requires c.args.bits c.ranges.bits.fits) ∙ c.if-e-eq0.true }

pub returns : goal.returns
returns c =
    let short = entry-short c.requires c.args.bits c.ranges.bits.fits in
    short ∙ short-found c.requires c.args.bits (λ z. c.if-e-eq0.false (short ∙ z))
