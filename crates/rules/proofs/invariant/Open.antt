-- The fifth part of the invariant: with no writer at work every number given is committed. A commit and the outermost writer's drop make it so.
-- Assumes nothing.
use mathlib.Core.Path.{◌≡◌}
use Rattle.rules.specs.State.{State}

abbrev pub NoneOpen : State → Type 0
NoneOpen s = s.depth ≡ 0 → s.counts.committed ≡ s.counts.taken
