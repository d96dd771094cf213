-- `Ring::write` is the rule. With no writer at work a Write is refused at once, in shape; else it is `act`. What the code tests is the whole shape
-- (proofs/shape/Laws). Assumes nothing.
use Rattle.std.proofs.Common.{refl}
use Rattle.ring.proofs.shape.Laws.{fitting}
use Rattle.ring.proofs.state.Ring.write.Goals as goal

pub returns-then-fits : goal.returns-then-fits
returns-then-fits c = rw (fitting c.args.self _ c.well_formed.0 c.fits.ensures c.if-fits.true, c.if-self-eq0.true) refl
