-- `Ring::lay_events` stores the readings of the slots one after the other: after i turns the first i of them stand in the buffer. Assumes nothing.
use Rattle.std.proofs.Common.{◌≡◌}
use Rattle.std.proofs.lemmas.List.Edits.{sets}
use Rattle.ring.specs.Turn.{events_from}
use Rattle.ring.proofs.state.Ring.lay_events.Given as goal

abbrev pub invariant-loop-i : goal.invariant-loop-i
invariant-loop-i l = l.buffer ≡ sets l.initial.buffer l.at (events_from l.self.numbers l.self.values l.from l.i)
