-- `Ring::words_fit` is the definition. The loop's invariant: `ok` is the test of the words of the pages before `p`. Assumes nothing.
use Rattle.rules.specs.Shape.{word_fits_at}
use Rattle.ring.proofs.Loops.{Tested}
use Rattle.ring.proofs.state.Ring.words_fit.Given as goal

abbrev pub invariant-loop-p : goal.invariant-loop-p
invariant-loop-p l = Tested (word_fits_at l.self.words l.n) l.p l.ok
