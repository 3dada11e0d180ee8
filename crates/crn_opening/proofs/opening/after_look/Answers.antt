-- The checks from 4 on, and then the streams, by the checks that led to each return.
use mathlib.Core.Path.{sym, ◌∙◌}
use Rattle.crn_opening.proofs.Opens.{closed_by, no-segment, no_room, then-streams}
use Rattle.crn_opening.proofs.opening.after_look.Goals as goal

pub returns-then-not-segments_stand-clause-opens : goal.returns-then-not-segments_stand-clause-opens
returns-then-not-segments_stand-clause-opens c =
    no-segment _ _ _ (sym c.segments_stand.ensures ∙ c.if-not-segments_stand.true) (closed_by c.refused.ensures c.clear.ensures.zero)

pub returns-then-not-has_room-clause-opens : goal.returns-then-not-has_room-clause-opens
returns-then-not-has_room-clause-opens c =
    no_room _ _ _ (sym c.segments_stand.ensures ∙ c.if-not-segments_stand.false) (sym c.has_room.ensures ∙ c.if-not-has_room.true)
    (closed_by c.refused-then-not-has_room.ensures c.clear.ensures.zero)

pub read_streams-requires : goal.read_streams-requires
read_streams-requires c =
    record {
      passed = record {
        seen = c.requires;
        stand = sym c.segments_stand.ensures ∙ c.if-not-segments_stand.false;
        room = sym c.has_room.ensures ∙ c.if-not-has_room.false;
      };
      all_zero = c.clear.ensures.zero;
    }

pub returns-clause-opens : goal.returns-clause-opens
returns-clause-opens c =
    then-streams _ _ _ (sym c.segments_stand.ensures ∙ c.if-not-segments_stand.false) (sym c.has_room.ensures ∙ c.if-not-has_room.false)
    c.read_streams.ensures.opens
