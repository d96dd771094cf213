-- What request E3 is for: the exporter gets all. Of every ring that actions reach from an accepted set-up, while no writer is at work: a drain that is
-- lent more elements than there are readings waiting hands out each of these and ends with Empty, and then every number given was handed out or
-- overwritten.
-- Assumes nothing.
use Rattle.std.specs.Prelude.{◌≡◌, ℕ, ◌+◌, ◌<◌, length, Some}
use Rattle.rules.specs.State.{State}
use Rattle.rules.specs.Receipt.{waiting}
use Rattle.rules.specs.Replay.{Reached}
use Rattle.rules.specs.Drain.{DrainOutcome, drain_rule}
use Rattle.rules.specs.declared.state.Answer.TheVariants.{Empty}

-- d is what the drain of the ring r leaves
pub record Emptied (r : State) (d : DrainOutcome) : Type 0 where
  pub last : d.last ≡ Some Empty
  pub events : length d.events ≡ waiting r.counts
  pub all : d.state.counts.handed + d.state.counts.overwritten ≡ d.state.counts.taken

abbrev pub Empties : Type 0
Empties = (r : State) → Reached r → r.depth ≡ 0 → (space : ℕ) → waiting r.counts < space → Emptied r (drain_rule r space)
