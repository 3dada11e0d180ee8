-- A load: the record against the file, and then the rest.
use mathlib.Core.Path.{sym, ◌∙◌}
use Rattle.std.proofs.Common.{rules}
use Rattle.crn_opening.proofs.Opens.{loads_apart, agreed, loads_on, loads_lent}
use Rattle.crn_opening.proofs.opening.load_into.Goals as goal

pub returns-then-not-agrees : goal.returns-then-not-agrees
returns-then-not-agrees c = loads_apart _ _ _ (sym c.agrees.ensures ∙ c.if-not-agrees.true) c.refused.ensures

pub after_look-requires : goal.after_look-requires
after_look-requires c = agreed _ _ (sym c.agrees.ensures ∙ c.if-not-agrees.false)

pub returns : goal.returns
returns c =
    loads_lent c.after_look.new.lengths (search rules) (search rules) (search rules) (search rules) (search rules) c.after_look.new.lent
    (search rules) (search rules) (search rules) (search rules)
    (loads_on _ _ (sym c.agrees.ensures ∙ c.if-not-agrees.false) _ c.after_look.ensures.opens)
