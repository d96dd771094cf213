-- What `drain_into` gives back, in the rules' terms; the buffer that it leaves is `buffer_after` of the rules.
-- Assumes nothing.
use Rattle.std.specs.Prelude.{◌≡◌, length}
use Rattle.rules.specs.Drain.{DrainOutcome, told_last}
use Rattle.ring.specs.Ring.{state_of}
use Rattle.ring.specs.declared.state.DrainCount.{DrainCount}

-- the ring, the last answer with what it tells, and how many events were stored
pub record CountMatches (d : DrainOutcome) (r : DrainCount) : Type 0 where
  pub state : state_of r.ring ≡ d.state
  pub last_answer : r.last ≡ d.last
  pub tells : told_last r.last ≡ d.tells
  pub count : r.count ≡ length d.events
