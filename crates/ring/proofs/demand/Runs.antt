-- Single actions that follow one another from the ring of an accepted set-up are a run of the rules, since each step is the rule's; so the claim of
-- the rules holds of them (`singles-claim`), and of calls, which are single actions (`calls-claim`).
-- Assumes nothing.
use Rattle.std.specs.Prelude.{Option}
use mathlib.Core.Path.{◌≡◌, refl, sym, ap, ◌∙◌, subst}
use mathlib.Core.Logic.{◌≢◌}
use mathlib.Core.List.{List, [], ◌∷◌, ◌++◌}
use native.Mathlib.Omega.{arith}
use Prim.Native.Nat.{ℕ}
use lib.ListN.{length}
use Rattle.rules.specs.State.{size_of, State}
use Rattle.rules.specs.Answers as answers
use Rattle.rules.specs.Answers.{Outcome}
use Rattle.rules.specs.SetUp.{fresh_rule}
use Rattle.rules.specs.Receipt.{receipt_rule}
use Rattle.rules.specs.Replay.{state_after, Reached}
use Rattle.rules.specs.Drain.{told_last, drain_rule}
use Rattle.rules.specs.Remember.{History}
use Rattle.rules.specs.History.{Run, run_at, after, run_of, nothing, recall, value_in}
use Rattle.rules.specs.Demand.{Claim, CompleteClaim, Sound, RunClaim}
use Rattle.ring.specs.Ring.{state_of, outcome}
use Rattle.ring.specs.Calls.{Single, asked, last_ring, Call, begin, write, read, act, drain_into, drain, last_back, refusal_in, Gives, FollowSingly, Leads}
use Rattle.ring.specs.Code.{run_told, run_from, CodeClaim, AcceptedRing, ForCalls}
use Rattle.rules.specs.declared.state.Size.{Size}
use Rattle.rules.specs.declared.state.Action.{Action}
use Rattle.rules.specs.declared.state.Action.TheVariants as action
use Rattle.rules.specs.declared.state.Answer.TheVariants.{Accepted}
use Rattle.rules.specs.declared.state.Receipt.{Receipt}
use Rattle.ring.specs.declared.state.Ring.{Ring}
use Rattle.ring.specs.declared.state.Step.{Step}
use Rattle.rules.proofs.demand.Theorem.{demand-3}
use Rattle.rules.proofs.runs.Always.{accepted-fits, fresh-is}
use Rattle.rules.proofs.runs.Reached.{after-now}
use Rattle.rules.proofs.drain.Within.{drain-unrefused}
use Rattle.ring.proofs.demand.Promises.{promises}
use Rattle.ring.proofs.demand.Steps.{leads-append}
use Rattle.ring.proofs.demand.Singly.{calls-singly}
use Rattle.rules.specs.declared.state.Answer.{Answer}

-- the run that goes on by an outcome of action a
abbrev by : Run → Action → Outcome → Run
by r a o = run_at o.state (recall (value_in a) r.now o.answer r.past)

-- it ends in the state of the last ring
last-told : (r : Ring) (past : History) (l : List Single) → state_of (last_ring r l) ≡ (run_told (run_at (state_of r) past) l).now
last-told r past [] = refl
last-told r past (x ∷ rest) = last-told x.step.ring (by (run_at (state_of r) past) x.action (outcome x.step)).past rest

told-after :
    (r : Ring) (past : History) (l : List Single) →
    FollowSingly promises r l →
    run_told (run_at (state_of r) past) l ≡ after (run_at (state_of r) past) (asked l)
told-after r past [] f = refl
told-after r past (x ∷ rest) f =
    let here = run_at (state_of r) past in
    told-after x.step.ring (by here x.action (outcome x.step)).past rest f.1
    ∙ ap (λ (o : Outcome). after (by here x.action o) (asked rest)) f.0

-- no call on a ring that is sound and reached is refused with 1
module _ (last : Ring) (sound : Sound (state_of last)) (reached : Reached (state_of last)) where
  step-unbroken : (a : Action) (s : Step) → promises.act last a s → (answers.told s.answer).refusal ≢ 1
  step-unbroken a s g e = sound.unbroken a (sym (ap (λ (o : Outcome). o.tells.refusal) g) ∙ e)

  drain-unbroken : (space : ℕ) (l : Option Answer) → l ≡ (drain_rule (state_of last) space).last → (told_last l).refusal ≢ 1
  drain-unbroken space l same e =
      let none = ap (λ (l : Option Answer). (told_last l).refusal) same ∙ drain-unrefused (state_of last) space reached in
      omega arith

  next-unbroken : (c : Call) → Gives promises last c → refusal_in c ≢ 1
  next-unbroken (begin v s) g = step-unbroken (action.Begin v) s g
  next-unbroken (write s) g = step-unbroken action.Write s g
  next-unbroken (read s) g = step-unbroken action.Read s g
  next-unbroken (act a s) g = step-unbroken a s g
  next-unbroken (drain_into buffer d then) g = drain-unbroken (length buffer.now) d.last g.0.last_answer
  next-unbroken (drain buffer d) g = drain-unbroken (length buffer.now) d.last g.last_answer

module _ (first : Ring) (start : AcceptedRing promises first) where
  abbrev size : Size
  size = size_of start.pages start.slots start.mode

  accepts : (fresh_rule start.pages start.slots start.mode).answer ≡ Accepted
  accepts = sym (ap (λ (o : Outcome). o.answer) start.set_up.given) ∙ start.set_up.accepted

  begins : state_of first ≡ (fresh_rule start.pages start.slots start.mode).state
  begins = ap state_of (sym start.set_up.ring) ∙ ap (λ (o : Outcome). o.state) start.set_up.given

  module _ (l : List Single) (last : Ring) (leads : Leads promises first l last) where
    -- the run, whose state is that of the last ring, is the run of the rules
    abbrev told : Run
    told = run_from first l

    now-told : state_of last ≡ told.now
    now-told = ap state_of (sym leads.last) ∙ last-told first nothing l

    ruled : told ≡ run_of start.pages start.slots start.mode (asked l)
    ruled = told-after first nothing l leads.follow ∙ ap (λ (s : State). after (run_at s nothing) (asked l)) begins

    reached : Reached (state_of last)
    reached =
        let fits = accepted-fits start.pages start.slots start.mode accepts in
        record {
          size = size;
          fits = fits;
          actions = asked l;
          reached =
              now-told
              ∙ ap (λ (r : Run). r.now) ruled
              ∙ after-now (run_at (fresh_rule start.pages start.slots start.mode).state nothing) (asked l)
              ∙ ap (λ (s : State). state_after s (asked l)) (fresh-is start.pages start.slots start.mode fits);
        }

    singles-claim : (c : Receipt) → promises.receipt last c → CodeClaim promises last c told
    singles-claim c receipt =
        let whole : RunClaim told = subst RunClaim (sym ruled) (demand-3 start.pages start.slots start.mode accepts (asked l)) in
        let sound : Sound (state_of last) = subst Sound (sym now-told) whole.sound in
        let its : c ≡ receipt_rule told.now = receipt ∙ ap receipt_rule now-told in
        record {
          now = now-told;
          demand = subst (λ (c : Receipt). Claim c told) (sym its) whole.demand;
          complete = subst (λ (c : Receipt). CompleteClaim c told) (sym its) whole.complete;
          shape = sound.shape;
          unbroken = next-unbroken last sound reached;
          receipt = ap (λ (c : Receipt). c.refusal) receipt ∙ sound.receipt;
        }

  -- a run that began with the single actions `before`, which led to the ring `here`
  pub calls-claim : (Began : Ring → List Single → Type 0) (here : Ring) (before : List Single) → Began first before → Leads promises first before here → ForCalls promises Began here
  calls-claim Began here before began leads calls follows c receipt =
      let s = calls-singly here calls follows in
      record {
        first = first;
        set_up = start;
        before = before;
        began = began;
        leads = leads;
        singles = s.singles;
        are = s.are;
        claim = singles-claim (before ++ s.singles) (last_back here calls) (leads-append first before s.singles leads s.leads) c receipt;
      }
