-- What the code tests is the whole shape (proofs/shape/Laws). Assumes nothing.
use Rattle.std.proofs.Common.{refl, sym}
use Rattle.ring.proofs.shape.Laws.{fitting}
use Rattle.ring.proofs.state.Ring.in_shape.Goals as goal

pub returns : goal.returns
returns c = sym (fitting c.args.self _ c.well_formed.0 c.fits.ensures refl)
