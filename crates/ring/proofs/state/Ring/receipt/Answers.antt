-- `Ring::receipt` is the rule: that of the counts in shape, and the refused one out of it. What the code tests is the whole shape
-- (proofs/shape/Laws). Assumes nothing.
use Rattle.ring.proofs.shape.Laws.{fitting}
use Rattle.ring.proofs.state.Ring.receipt.Goals as goal

pub returns-then-fits : goal.returns-then-fits
returns-then-fits c = rw (fitting c.args.self _ c.well_formed.0 c.fits.ensures c.if-fits.true) c.receipt_of.ensures

pub returns-else-fits : goal.returns-else-fits
returns-else-fits c = rw (fitting c.args.self _ c.well_formed.0 c.fits.ensures c.if-fits.false) c.refused_receipt.ensures
