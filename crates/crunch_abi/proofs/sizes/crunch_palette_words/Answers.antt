-- The words of the four palettes.
use Rattle.crunch_abi.proofs.sizes.crunch_palette_words.Goals as goal

pub returns : goal.returns
returns c = rw (c.where_present.ensures, c.where_present-2.ensures)
