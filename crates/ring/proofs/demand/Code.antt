-- Demands 1 and 3 of the code. Demand 1 is that of the rules (`demand-1`), read off each function's promise. Demand 3: however a run begins (Start),
-- its calls are single actions (Singly), and these are a run of the rules (Runs). That there are such runs: CodeRuns. Assumes nothing.
use mathlib.Core.Path.{refl, ap, ◌∙◌}
use Rattle.rules.specs.Answers.{Outcome}
use Rattle.rules.specs.Listed.{listed}
use Rattle.ring.specs.Ring.{state_of}
use Rattle.ring.specs.Code.{StepAsListed, CodeDemand1, NoAction, CodeDemand3}
use Rattle.rules.specs.declared.state.Action.{Action}
use Rattle.rules.specs.declared.state.Action.TheVariants as action
use Rattle.rules.specs.declared.state.Receipt.{Receipt}
use Rattle.ring.specs.declared.state.Ring.{Ring}
use Rattle.ring.specs.declared.state.Step.{Step}
use Rattle.rules.proofs.demand.Refusals.{demand-1}
use Rattle.ring.proofs.Representation.{same-ring}
use Rattle.ring.proofs.demand.Promises.{promises}
use Rattle.ring.proofs.demand.Start.{plain-claim, fresh-claim, replay-claim}

-- ---- demand 1

step-listed : (r : Ring) (a : Action) (s : Step) → promises.act r a s → StepAsListed r (listed (state_of r) a) s
step-listed r a s g =
    let known = demand-1.states (state_of r) in
    record {
      refusal = ap (λ (o : Outcome). o.tells.refusal) g ∙ known.refusals a;
      same = λ n. same-ring s.ring (state_of r) (ap (λ (o : Outcome). o.state) g ∙ known.same a n);
    }

pub code-demand-1 : CodeDemand1 promises
code-demand-1 =
    record {
      begin = λ r v s g. step-listed r (action.Begin v) s g;
      write = λ r s g. step-listed r action.Write s g;
      read = λ r s g. step-listed r action.Read s g;
      act = step-listed;
      receipt = λ r c g. ap (λ (c : Receipt). c.refusal) g ∙ (demand-1.states (state_of r)).receipt;
      zero = λ r c g n. g ∙ (demand-1.states (state_of r)).zero n;
      set_up = λ pages slots mode s g. ap (λ (o : Outcome). o.tells.refusal) g ∙ (demand-1.set_ups pages slots mode).refusal;
      plain = λ pages slots mode s g n. ap (λ (o : Outcome). o.state) g ∙ (demand-1.set_ups pages slots mode).plain n;
    }

-- ---- demand 3

pub code-demand-3 : CodeDemand3 promises
code-demand-3 = record { fresh = fresh-claim; plain = λ r g. plain-claim NoAction r g refl; replay = replay-claim }
