-- The words so far are set. Assumes nothing.
use mathlib.Core.Path.{◌≡◌}
use lib.ListN.{take}
use lib.Seq.{sets}
use Rattle.picture.specs.Words.{words_of}
use Rattle.picture.proofs.put.put_words.Given as goal

abbrev pub invariant-loop-i : goal.invariant-loop-i
invariant-loop-i l = l.dst ≡ sets l.initial.dst l.at (words_of (take l.i l.ws))
