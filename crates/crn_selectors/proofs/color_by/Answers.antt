use Rattle.crn_selectors.proofs.color_by.Goals as goal

pub returns : goal.returns
returns g c = c.color_words.ensures _ c.build_decoder.ensures
