-- One action of any kind, as a function of the ring and the action.
-- Assumes nothing.
use Rattle.rules.specs.Answers.{Outcome}
use Rattle.rules.specs.Begin.{begin_rule}
use Rattle.rules.specs.Write.{write_rule}
use Rattle.rules.specs.Read.{read_rule}
use Rattle.rules.specs.State.{State}
use Rattle.rules.specs.declared.state.Action.{Action}
use Rattle.rules.specs.declared.state.Action.TheVariants.{Begin, Write, Read}

abbrev pub act : State → Action → Outcome
act r (Begin v) = begin_rule r v
act r Write = write_rule r
act r Read = read_rule r
