-- The ring that has a state: `state_of` leaves nothing of a ring out, so that an equation of states is one of rings (`same-ring`).
-- Assumes nothing.
use mathlib.Core.Path.{◌≡◌, ap}
use Rattle.rules.specs.State.{State}
use Rattle.ring.specs.Ring.{state_of}
use Rattle.ring.specs.declared.state.Ring.{Ring}

abbrev pub ring_of : State → Ring
ring_of s =
    record {
      size = s.size;
      places = s.places;
      counts = s.counts;
      depth = s.depth;
      reader = s.reader;
      stack = s.stack;
      words = s.words;
      used = s.used;
      numbers = s.numbers;
      values = s.values;
    }

pub same-ring : (r : Ring) (s : State) → state_of r ≡ s → r ≡ ring_of s
same-ring r s e = ap ring_of e
