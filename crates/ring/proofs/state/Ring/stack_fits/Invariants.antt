-- `Ring::stack_fits` is the definition. The loop's invariant: `ok` is the test of the records below `i`. Assumes nothing.
use Rattle.rules.specs.Shape.{record_fits_at}
use Rattle.ring.proofs.Loops.{Tested}
use Rattle.ring.proofs.state.Ring.stack_fits.Given as goal

abbrev pub invariant-loop-i : goal.invariant-loop-i
invariant-loop-i l = Tested (record_fits_at l.self.stack l.self.size) l.i l.ok
