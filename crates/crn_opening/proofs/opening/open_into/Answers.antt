-- Opening: the look, and then the rest.
use Rattle.std.proofs.Common.{rules}
use Rattle.crn_opening.proofs.Opens.{closed_by, look-refused, look-passed, then_opens, none_lent, opens_lent}
use Rattle.crn_opening.proofs.opening.open_into.Goals as goal

pub returns-in-Err : goal.returns-in-Err
returns-in-Err c =
    look-refused _ _ _ c.in-Err.ensures
    (closed_by c.refused.ensures
    (none_lent c.clear.new.self (search rules) (search rules) (search rules) (search rules) (search rules) c.clear.ensures.zero))

pub after_look-requires : goal.after_look-requires
after_look-requires c = look-passed _ _ c.in-Ok.ensures

pub returns-in-Ok : goal.returns-in-Ok
returns-in-Ok c =
    opens_lent c.after_look.new.lengths (search rules) (search rules) (search rules) (search rules) (search rules) c.after_look.new.lent
    (search rules) (search rules) (search rules) (search rules) _ (then_opens _ _ c.in-Ok.ensures _ c.after_look.ensures.opens)
