-- `Ring::find_header` is the definition. The loop's invariant: no page before `i`, the reader page left out, has a HEADER word.
-- Assumes nothing.
use Rattle.rules.specs.Words.{heads}
use Rattle.ring.proofs.Loops.{Unseen}
use Rattle.ring.proofs.state.Ring.find_header.Given as goal

abbrev pub invariant-loop-i : goal.invariant-loop-i
invariant-loop-i l = Unseen (heads l.self.words l.self.places.reader) l.i
