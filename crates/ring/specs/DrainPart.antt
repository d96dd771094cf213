-- What a drain hands back in one call. Request E2: "The call hands back the part of the caller's buffer that it filled".
-- Assumes nothing.
use Rattle.std.specs.Prelude.{◌≡◌, List, ℕ}
use Rattle.std.specs.Borrow.{MutBor}
use Rattle.rules.specs.Drain.{DrainOutcome, told_last}
use Rattle.ring.specs.Ring.{state_of}
use Rattle.ring.specs.declared.drain_part.DrainPart.{DrainPart}

-- the ring, the last answer with what it tells, and the part of the buffer that holds the events and nothing else; it starts where the buffer starts. Of
-- the reference no more is said: its ghost name is left free.
pub record HandedBack (d : DrainOutcome) (buffer : MutBor (List ℕ)) (r : DrainPart) : Type 0 where
  pub state : state_of r.ring ≡ d.state
  pub last_answer : r.last ≡ d.last
  pub tells : told_last r.last ≡ d.tells
  pub events : r.part.now ≡ d.events
  pub start : r.part.ref_ptr ≡ buffer.ref_ptr
