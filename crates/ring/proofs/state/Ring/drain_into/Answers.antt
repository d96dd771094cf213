-- `Ring::drain_into` is the rule: the Reads of a ring in shape, and the refusal out of it. What the code tests is the whole shape
-- (proofs/shape/Laws). Assumes nothing.
use Rattle.std.proofs.Common.{refl}
use Rattle.ring.proofs.shape.Laws.{fitting}
use Rattle.ring.proofs.state.Ring.drain_into.Goals as goal

pub returns-then-not-fits : goal.returns-then-not-fits
returns-then-not-fits c =
    rw (fitting c.args.self _ c.well_formed.0 c.fits.ensures c.if-not-fits.true)
    (record { state = refl; last_answer = refl; tells = refl; count = refl }, refl)

pub drain_shaped-requires : goal.drain_shaped-requires
drain_shaped-requires c = fitting c.args.self _ c.well_formed.0 c.fits.ensures c.if-not-fits.false

pub returns : goal.returns
returns c = rw (fitting c.args.self _ c.well_formed.0 c.fits.ensures c.if-not-fits.false) c.drain_shaped.ensures
