-- A turn is the action that the definition chooses, made as `makes` says.
use Rattle.std.proofs.Common.{ap, ◌∙◌}
use Rattle.rules.specs.Act.{act}
use Rattle.ring.specs.Ring.{state_of}
use Rattle.bench.specs.Loop.{looped}
use Rattle.bench.proofs.Loop.{looped-next}
use Rattle.bench.proofs.handed_by.Goals as goal

pub loop-i-init : goal.loop-i-init
unfolding looped
loop-i-init g c = c.fresh-s.ensures

pub loop-i-preserved : goal.loop-i-preserved
loop-i-preserved g c =
    looped-next c.loop-i.i c.loop-i.invariant
    (c.requires.makes _ _ _ c.make.ensures ∙ ap (act (state_of c.loop-i.s.ring)) c.next_action-action.ensures)
