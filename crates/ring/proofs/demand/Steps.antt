-- The rules' own steps are steps that the functions may return: so a list of actions on a ring is a list of single actions that follow one another
-- (`makes`), from that ring to the one that the rules reach, with the rules' answers.
-- Assumes nothing.
use mathlib.Core.Path.{◌≡◌, refl, sym, ap, ◌∙◌, subst}
use mathlib.Core.List.{List, [], ◌∷◌, ◌++◌}
use Prim.Native.Nat.{suc}
use lib.ListN.{length}
use Rattle.rules.specs.State.{State}
use Rattle.rules.specs.Act.{act}
use Rattle.rules.specs.Replay.{state_after, answers_of}
use Rattle.ring.specs.Calls.{Single, single, asked, answered, last_ring, FollowSingly, Leads}
use Rattle.rules.specs.declared.state.Action.{Action}
use Rattle.rules.specs.declared.state.Answer.{Answer}
use Rattle.ring.specs.declared.state.Ring.{Ring}
use Rattle.ring.proofs.Representation.{ring_of}
use Rattle.ring.proofs.act.Laws.{step_of, act-plain}
use Rattle.ring.proofs.demand.Promises.{promises}

-- ---- a list of actions

abbrev pub makes : State → List Action → List Single
makes r [] = []
makes r (a ∷ rest) = single a (step_of (act r a)) ∷ makes (act r a).state rest

pub makes-asked : (r : State) (actions : List Action) → asked (makes r actions) ≡ actions
makes-asked r [] = refl
makes-asked r (a ∷ rest) = ap (λ (l : List Action). a ∷ l) (makes-asked (act r a).state rest)

pub makes-answered : (r : State) (actions : List Action) → answered (makes r actions) ≡ answers_of r actions
makes-answered r [] = refl
makes-answered r (a ∷ rest) = ap (λ (l : List Answer). (act r a).answer ∷ l) (makes-answered (act r a).state rest)

pub makes-length : (r : State) (actions : List Action) → length (makes r actions) ≡ length actions
makes-length r [] = refl
makes-length r (a ∷ rest) = ap suc (makes-length (act r a).state rest)

makes-follow : (r : State) (actions : List Action) → FollowSingly promises (ring_of r) (makes r actions)
makes-follow r [] = tt
makes-follow r (a ∷ rest) = (act-plain r a, makes-follow (act r a).state rest)

makes-last : (r : State) (actions : List Action) → last_ring (ring_of r) (makes r actions) ≡ ring_of (state_after r actions)
makes-last r [] = refl
makes-last r (a ∷ rest) = makes-last (act r a).state rest

pub makes-leads : (r : State) (actions : List Action) → Leads promises (ring_of r) (makes r actions) (ring_of (state_after r actions))
makes-leads r actions = record { follow = makes-follow r actions; last = makes-last r actions }

-- ---- single actions after others

follow-append : (r : Ring) (a b : List Single) → FollowSingly promises r a → FollowSingly promises (last_ring r a) b → FollowSingly promises r (a ++ b)
follow-append r [] b f g = g
follow-append r (x ∷ a) b f g = (f.0, follow-append x.step.ring a b f.1 g)

last-append : (r : Ring) (a b : List Single) → last_ring r (a ++ b) ≡ last_ring (last_ring r a) b
last-append r [] b = refl
last-append r (x ∷ a) b = last-append x.step.ring a b

pub leads-append : (r : Ring) (a b : List Single) {middle end : Ring} → Leads promises r a middle → Leads promises middle b end → Leads promises r (a ++ b) end
leads-append r a b {middle} {end} f g =
    record {
      follow = follow-append r a b f.follow (subst (λ (m : Ring). FollowSingly promises m b) (sym f.last) g.follow);
      last = last-append r a b ∙ ap (λ (m : Ring). last_ring m b) f.last ∙ g.last;
    }
