-- A load, with the record put together.
use mathlib.Core.Path.{refl}
use Rattle.crn_format.proofs.Results.{passed}
use Rattle.crunch.proofs.Zeroed.{loads_whole, refused_whole}
use Rattle.crunch.proofs.whole.load.Goals as goal

pub returns-in_err-opened : goal.returns-in_err-opened
returns-in_err-opened c =
    rw (passed c.from_residual.ensures.1)
    (refused_whole _ _ _ _ _ _
    (loads_whole _ _ _ _ _ _ _ c.in_err-opened.ensures
    (record { first = refl; color_e = refl; color_s = refl; alpha_e = refl; alpha_s = refl })))

pub returns : goal.returns
returns c =
    loads_whole _ _ _ _ _ _ _ c.in_ok-opened.ensures
    (record { first = refl; color_e = refl; color_s = refl; alpha_e = refl; alpha_s = refl })
