-- Begin.
-- Assumes nothing.
use Rattle.std.specs.Prelude.{ℕ, ◌+◌}
use Rattle.rules.specs.State.{writer, with_begun, with_depth, set_record, State}
use Rattle.rules.specs.Answers.{Outcome, gives}
use Rattle.rules.specs.Refusals.{begin_verdict, judged}
use Rattle.rules.specs.Shape.{in_shape}
use Rattle.rules.specs.declared.state.WriterPhase.TheVariants.{Want}
use Rattle.rules.specs.declared.state.Answer.TheVariants.{Begun}

-- "Begin(v): begun + 1, a new record on top in phase WANT. Answer Begun(new depth)."
abbrev pub begin : ℕ → State → Outcome
begin v r =
    gives (Begun (r.depth + 1))
    (with_begun (r.counts.begun + 1) (with_depth (r.depth + 1) (set_record r.depth (writer v Want) r)))

abbrev pub begin_rule : State → ℕ → Outcome
begin_rule r v = judged (begin_verdict (in_shape r) r.depth r.counts.begun) r (begin v r)
