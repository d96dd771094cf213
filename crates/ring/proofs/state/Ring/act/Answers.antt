-- `Ring::act` is the rule. In shape the action is made where the ring lies; out of shape it is refused, whatever it is. What the code tests is the
-- whole shape (proofs/shape/Laws). Assumes nothing.
use Rattle.ring.specs.Ring.{state_of}
use Rattle.ring.proofs.shape.Laws.{fitting}
use Rattle.ring.proofs.act.Laws.{out-of-shape}
use Rattle.ring.proofs.state.Ring.act.Goals as goal

pub make-answer-requires : goal.make-answer-requires
make-answer-requires c = fitting c.args.self _ c.well_formed.0 c.fits.ensures c.if-fits.true

pub returns-else-fits : goal.returns-else-fits
returns-else-fits c = out-of-shape (state_of c.args.self) (fitting c.args.self _ c.well_formed.0 c.fits.ensures c.if-fits.false) c.args.action
