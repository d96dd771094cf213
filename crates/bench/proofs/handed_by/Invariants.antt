-- `handed_by` makes the actions of the definition: after i turns the step is that of the first i actions, whichever way they are made. Assumes nothing.
use Rattle.std.proofs.Common.{◌≡◌}
use Rattle.ring.specs.Ring.{outcome}
use Rattle.bench.specs.Loop.{looped}
use Rattle.bench.proofs.handed_by.Given as goal

abbrev pub invariant-loop-i : goal.invariant-loop-i
invariant-loop-i g l = outcome l.s ≡ looped l.i
