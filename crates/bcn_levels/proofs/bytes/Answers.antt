-- Each level by its place on the ramp, in the mode that the order of the ends has.
use Rattle.bcn_levels.proofs.Eight.{eight_met, six_met}
use Rattle.bcn_levels.proofs.bytes.Goals as goal

pub returns-then-b-a : goal.returns-then-b-a
returns-then-b-a c =
    eight_met c.args.a c.args.b c.requires.a_in c.requires.b_in c.if-b-a.true c.partway.ensures c.partway-then-b-a.ensures
    c.partway-then-b-a-2.ensures c.partway-then-b-a-3.ensures c.partway-then-b-a-4.ensures c.partway-then-b-a-5.ensures

pub returns : goal.returns
returns c =
    six_met c.args.a c.args.b c.requires.a_in c.requires.b_in c.if-b-a.false c.partway-2.ensures c.partway-3.ensures c.partway-4.ensures
    c.partway-5.ensures
