-- All words are written.
use Rattle.ring.proofs.setup.Laws.{words-written-all}
use Rattle.ring.proofs.setup.fresh_words.Goals as goal

pub returns : goal.returns
returns c = words-written-all c.loop-i.invariant.1 c.loop-i-test.false
