-- `setup::fresh_words` is the definition. The loop's invariant: the words before `i` are those of a fresh ring. Assumes nothing.
use Rattle.std.proofs.Common.{◌-◌, ◌≤◌}
use Rattle.rules.specs.Limits.{page_room}
use Rattle.ring.proofs.setup.Laws.{WordsWritten}
use Rattle.ring.proofs.setup.fresh_words.Given as goal

abbrev pub invariant-loop-i : goal.invariant-loop-i
invariant-loop-i l = (l.i ≤ page_room) × WordsWritten l.n l.words l.i

abbrev pub decreases-loop-i : goal.decreases-loop-i
decreases-loop-i l = page_room - l.i
