-- `Ring::used_fit` is the definition. The loop's invariant: `ok` is the test of the used of the pages before `p`. Assumes nothing.
use Rattle.rules.specs.Shape.{used_fits_at}
use Rattle.ring.proofs.Loops.{Tested}
use Rattle.ring.proofs.state.Ring.used_fit.Given as goal

abbrev pub invariant-loop-p : goal.invariant-loop-p
invariant-loop-p l = Tested (used_fits_at l.self.used l.self.size.slots) l.p l.ok
