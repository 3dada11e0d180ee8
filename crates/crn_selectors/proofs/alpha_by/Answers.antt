use Rattle.crn_selectors.proofs.alpha_by.Goals as goal

pub returns : goal.returns
returns g c = c.alpha_words.ensures _ c.build_decoder.ensures
