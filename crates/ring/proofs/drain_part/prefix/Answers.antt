-- The code of `prefix` stores to its own locals, and calls nothing.
-- Assumes nothing.
use Rattle.std.proofs.Common.{[], refl}
use Rattle.ring.specs.Touches.{Touches}
use Rattle.ring.proofs.drain_part.prefix.Code as code

pub prefix-touches : Touches [] (code.function).body
prefix-touches = record { stores = refl; calls = refl }
