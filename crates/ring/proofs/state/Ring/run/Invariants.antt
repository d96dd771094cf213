-- `Ring::run` makes the actions of the bytes one by one. The loop keeps `Progress` (proofs/replay/Laws): a turn stores what the action leaves, which
-- is the action, and lays its answer; the ring of each turn is in shape, since it is reached from a set-up. The measure is how many bytes are left.
-- Assumes nothing.
use Rattle.std.proofs.Common.{◌-◌, length}
use Rattle.ring.specs.Ring.{state_of}
use Rattle.ring.proofs.replay.Laws.{Progress}
use Rattle.ring.proofs.state.Ring.run.Given as goal

abbrev pub invariant-loop-action : goal.invariant-loop-action
invariant-loop-action l = Progress (state_of l.initial.self) l.bytes l.initial.buffer (state_of l.self) l.buffer l.at l.made

abbrev pub decreases-loop-action : goal.decreases-loop-action
decreases-loop-action l = length l.bytes - l.at
