-- The definition tests the size first, as the code does.
use Rattle.std.proofs.Common.{sym}
use Rattle.rules.specs.Shape.{layout_fits}
use Rattle.ring.proofs.state.Ring.layout_fits.Goals as goal

pub returns-then-size_fits : goal.returns-then-size_fits
unfolding layout_fits
returns-then-size_fits c = rw (sym c.if-size_fits.ensures) (cc)

pub returns-else-size_fits : goal.returns-else-size_fits
unfolding layout_fits
returns-else-size_fits c = rw (sym c.if-size_fits.ensures)
