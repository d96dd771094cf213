-- Every call is single actions: a call of a method for one action is that action, and a drain is so many Reads, as `drain-singly` of the rules has
-- it. So a list of calls is a list of single actions, call by call, that leads to the ring that the last call gave back.
-- Assumes nothing.
use Rattle.std.specs.Prelude.{Option, None}
use mathlib.Core.Path.{◌≡◌, refl, sym, ap, ◌∙◌, subst}
use mathlib.Core.List.{List, [], ◌∷◌, ◌++◌}
use Prim.Native.Nat.{ℕ}
use lib.ListN.{length, replicate}
use Rattle.rules.specs.State.{State}
use Rattle.rules.specs.Replay.{over}
use Rattle.rules.specs.Drain.{drain_rule, events_among, last_of, Singly}
use Rattle.ring.specs.Ring.{state_of}
use Rattle.ring.specs.Calls.{Single, single, Call, begin, write, read, act, drain_into, drain, ring_back, last_back, ReadsTold, events_told, Tells, Gives, Follow, Leads, Singles}
use Rattle.rules.specs.declared.state.Action.{Action}
use Rattle.rules.specs.declared.state.Action.TheVariants as action
use Rattle.ring.specs.declared.state.Ring.{Ring}
use Rattle.ring.specs.declared.state.Step.{Step}
use Rattle.rules.proofs.drain.Singly.{drain-singly}
use Rattle.ring.proofs.Representation.{ring_of}
use Rattle.ring.proofs.demand.Promises.{promises}
use Rattle.ring.proofs.demand.Steps.{makes, makes-asked, makes-answered, makes-leads, leads-append}
use Rattle.rules.specs.declared.state.Answer.{Answer}

-- ---- one call

record CallSingly (r : Ring) (c : Call) : Type 0 where
  pub singles : List Single
  pub leads : Leads promises r singles (ring_back c)
  pub tells : Tells c singles

-- a step that `Ring::act` may return leads to its own ring
one-leads : (r : Ring) (a : Action) (s : Step) → promises.act r a s → Leads promises r (single a s ∷ []) s.ring
one-leads r a s g = record { follow = (g, tt); last = refl }

-- the Reads of a drain
module _ (r : Ring) (space : ℕ) where
  abbrev state : State
  state = state_of r

  abbrev made : Singly state (drain_rule state space)
  made = drain-singly state space

  abbrev reads : List Single
  reads = makes state (replicate made.reads action.Read)

  reads-lead : (back : Ring) → state_of back ≡ (drain_rule state space).state → Leads promises r reads back
  reads-lead back e =
      subst (Leads promises r reads) (ap ring_of (sym (e ∙ made.state))) (makes-leads state (replicate made.reads action.Read))

  reads-told : (last : Option Answer) → last ≡ (drain_rule state space).last → ReadsTold reads last
  reads-told last e =
      record {
        reads = made.reads;
        all = makes-asked state (replicate made.reads action.Read);
        last_answer = e ∙ made.last ∙ ap (last_of None) (sym (makes-answered state (replicate made.reads action.Read)));
      }

  reads-events : (drain_rule state space).events ≡ events_told reads
  reads-events = made.events ∙ ap events_among (sym (makes-answered state (replicate made.reads action.Read)))

call-singly : (r : Ring) (c : Call) → Gives promises r c → CallSingly r c
call-singly r (begin v s) g = record { singles = single (action.Begin v) s ∷ []; leads = one-leads r (action.Begin v) s g; tells = refl }
call-singly r (write s) g = record { singles = single action.Write s ∷ []; leads = one-leads r action.Write s g; tells = refl }
call-singly r (read s) g = record { singles = single action.Read s ∷ []; leads = one-leads r action.Read s g; tells = refl }
call-singly r (act a s) g = record { singles = single a s ∷ []; leads = one-leads r a s g; tells = refl }
call-singly r (drain_into buffer d then) g =
    let space = length buffer.now in
    let events = reads-events r space in
    record {
      singles = reads r space;
      leads = reads-lead r space d.ring g.0.state;
      tells = (
        reads-told r space d.last g.0.last_answer,
        g.0.count ∙ ap length events,
        g.1 ∙ ap (λ (es : List ℕ). over es buffer.now) events,
      );
    }
call-singly r (drain buffer d) g =
    let space = length buffer.now in
    record {
      singles = reads r space;
      leads = reads-lead r space d.ring g.state;
      tells = (reads-told r space d.last g.last_answer, g.events ∙ reads-events r space);
    }

-- ---- a list of calls

pub record CallsSingly (r : Ring) (calls : List Call) : Type 0 where
  pub singles : List Single
  pub are : Singles promises r calls singles
  pub leads : Leads promises r singles (last_back r calls)

pub calls-singly : (r : Ring) (calls : List Call) → Follow promises r calls → CallsSingly r calls
calls-singly r [] f = record { singles = []; are = refl; leads = record { follow = tt; last = refl } }
calls-singly r (c ∷ calls) f =
    let one = call-singly r c f.0 in
    let rest = calls-singly (ring_back c) calls f.1 in
    record {
      singles = one.singles ++ rest.singles;
      are =
          record {
            here = one.singles;
            after = rest.singles;
            all = refl;
            leads = one.leads;
            tells = one.tells;
            rest = rest.are;
          };
      leads = leads-append r one.singles rest.singles one.leads rest.leads;
    }
