-- What the code of `Ring::drain` does to the buffer: `drain_into` first, and then no more than `prefix`.
-- Assumes nothing.
use Rattle.std.proofs.Common.{refl}
use Rattle.ring.specs.Touches.{DrainsOnce}
use Rattle.ring.proofs.state.Ring.drain_into.Symbol as into
use Rattle.ring.proofs.drain_part.prefix.Symbol as prefix
use Rattle.ring.proofs.state.Ring.drain.Code as code

pub drains-once : DrainsOnce into.name prefix.name code.function
drains-once = record { rest = _; first = refl; then = record { stores = refl; calls = refl } }
