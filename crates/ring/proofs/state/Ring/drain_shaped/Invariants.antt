-- `Ring::drain_shaped` makes the Reads of a ring in shape. The loop keeps `Progress` (proofs/drain/Laws): a turn stores its pieces and lays its
-- Events, which is the Reads that the definition makes. The measure counts the buffer that is left, and the Reads before the next Event. Assumes
-- nothing.
use Rattle.std.proofs.Common.{suc, ◌+◌, ◌*◌, ◌-◌}
use Rattle.rules.specs.Limits.{most_in_row}
use Rattle.ring.specs.Ring.{state_of}
use Rattle.ring.proofs.drain.Laws.{Progress}
use Rattle.ring.proofs.state.Ring.drain_shaped.Given as goal

abbrev pub invariant-loop-at : goal.invariant-loop-at
invariant-loop-at l = Progress (state_of l.initial.self) l.initial.buffer (state_of l.self) l.buffer l.at l.left l.last

abbrev pub decreases-loop-at : goal.decreases-loop-at
decreases-loop-at l = (l.most - l.at) * suc most_in_row + l.left
