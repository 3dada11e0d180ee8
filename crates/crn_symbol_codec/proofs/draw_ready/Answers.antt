-- A symbol by the code that the bits begin with.
use mathlib.Core.Path.{sym, ◌∙◌}
use native.Mathlib.Omega.{arith}
use Rattle.crn_symbol_codec.proofs.Drawing.{found-length, found-ended, found-drawn, none-short, none_begins}
use Rattle.crn_symbol_codec.proofs.Taking.{takes-symbol}
use Rattle.crn_symbol_codec.proofs.draw_ready.Goals as goal

pub returns-then-c-code : goal.returns-then-c-code
returns-then-c-code c =
    let r = none-short c.requires.holds c.requires.enough c.requires.usable (sym c.entry-e.ensures ∙ c.if-e-eq0.true) (omega arith) in
    ((λ ls d. takes-symbol r d), r.near)

pub returns-then-e-eq0 : goal.returns-then-e-eq0
returns-then-e-eq0 c =
    let r = none_begins c.requires.holds c.requires.enough c.requires.usable (sym c.entry-e.ensures ∙ c.if-e-eq0.true) (omega arith) in
    ((λ ls d. takes-symbol r d), r.near)

pub returns-then-c-l : goal.returns-then-c-l
returns-then-c-l c =
    let r = found-ended c.requires.holds c.requires.enough c.requires.usable _ c.entry-e.ensures c.if-e-eq0.false (omega arith) in
    ((λ ls d. takes-symbol r d), r.near)

pub skip-requires : goal.skip-requires
skip-requires c =
    (omega arith, found-length c.requires.holds c.requires.enough c.requires.usable _ c.entry-e.ensures c.if-e-eq0.false)

pub returns : goal.returns
returns c =
    let r = found-drawn c.requires.holds c.requires.enough c.requires.usable _ c.entry-e.ensures c.if-e-eq0.false (omega arith) in
    rw c.skip.ensures ((λ ls d. takes-symbol r d), r.near)
