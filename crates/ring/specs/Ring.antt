-- The code's ring as a state of the rules: the one place where its fields are told. The promises of the code are equations about `state_of`.
-- Assumes nothing.
use Rattle.rules.specs.Answers.{Outcome, gives}
use Rattle.rules.specs.State.{State, state_with}
use Rattle.ring.specs.declared.state.Ring.{Ring}
use Rattle.ring.specs.declared.state.Step.{Step}

-- the state that a ring is
abbrev pub state_of : Ring → State
state_of r =
    state_with r.size r.places r.counts r.depth r.reader r.stack r.words r.used r.numbers r.values

-- the outcome that a step of the code is
abbrev pub outcome : Step → Outcome
outcome s = gives s.answer (state_of s.ring)
