-- All four buffers zero.
use Rattle.crn_opening.proofs.Streams.{all-zero}
use Rattle.crn_opening.proofs.lent.PalettesMut.clear.Goals as goal

pub returns-clause-zero : goal.returns-clause-zero
returns-clause-zero c =
    all-zero _ _ _ _ (c.fill.ensures.after (λ y h. h)) (c.fill-2.ensures.after (λ y h. h)) (c.fill-3.ensures.after (λ y h. h))
    (c.fill-4.ensures.after (λ y h. h))
