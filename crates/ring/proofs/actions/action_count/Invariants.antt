-- `actions::action_count` counts the whole actions from a place on. The loop keeps that those counted and those that are left are all of them, and
-- that each took a byte at least, so that the count fits. The measure is how many bytes are left. Assumes nothing.
use Rattle.std.proofs.Common.{◌≡◌, ◌+◌, ◌-◌, ◌≤◌, length}
use Rattle.rules.specs.Actions.{decoded_from}
use Rattle.ring.proofs.actions.action_count.Given as goal

abbrev pub invariant-loop-action : goal.invariant-loop-action
invariant-loop-action l = record {
  all : length (decoded_from l.bytes l.from).actions ≡ l.count + length (decoded_from l.bytes l.at).actions;
  bytes_enough : l.count + l.from ≤ l.at;
}

abbrev pub decreases-loop-action : goal.decreases-loop-action
decreases-loop-action l = length l.bytes - l.at
