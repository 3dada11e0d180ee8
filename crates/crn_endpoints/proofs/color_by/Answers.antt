use Rattle.crn_endpoints.proofs.color_by.Goals as goal

pub returns : goal.returns
returns g c = c.color_words.ensures (_, _) (c.build_decoder.ensures, c.build_decoder-2.ensures)
