use mathlib.Core.Path.{refl}
use Rattle.picture.specs.Words.{words_of}
use Rattle.picture.proofs.Setting.{one_word}
use Rattle.picture.proofs.put.put_words.Goals as goal

pub loop-i-init : goal.loop-i-init
unfolding words_of
loop-i-init c = refl

pub loop-i-preserved : goal.loop-i-preserved
loop-i-preserved c =
    one_word c.args.dst.now c.args.ws.now c.args.at c.loop-i.i c.loop-i-test.true c.loop-i.invariant c.put_bytes.ensures c.to_le_bytes.ensures
