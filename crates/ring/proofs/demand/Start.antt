-- How a run of calls may begin: with a set-up, refused or not, since the plain ring is that of an accepted set-up too; with the plain ring; with a
-- replay, which is single actions on the ring of its set-up, or is refused and gives the plain ring. Assumes nothing.
use mathlib.Core.Path.{◌≡◌, refl, sym, ap, ◌∙◌, subst}
use mathlib.Core.Bool.{true}
use mathlib.Core.List.{List, []}
use Prim.Native.Nat.{ℕ}
use native.Mathlib.Omega.{arith}
use lib.ListN.{length}
use denote.Ref.{Bor, MutBor}
use Rattle.rules.specs.Limits.{plain_pages, plain_slots, plain_mode}
use Rattle.rules.specs.State.{size_of}
use Rattle.rules.specs.Answers.{Outcome}
use Rattle.rules.specs.Shape.{size_fits}
use Rattle.rules.specs.SetUp.{fresh_ring, plain_ring, fresh_rule}
use Rattle.rules.specs.Actions.{decoded}
use Rattle.rules.specs.Replay.{state_after, answers_of, laid, over, buffer_fits, refused_replay, ran, ReplayOutcome}
use Rattle.ring.specs.Ring.{state_of}
use Rattle.ring.specs.Replay.{replay_outcome}
use Rattle.ring.specs.Calls.{Single, Leads}
use Rattle.ring.specs.Code.{SetUp, AcceptedRing, ForCalls, NoAction, Replayed}
use Rattle.rules.specs.declared.state.Refusal.{Refusal}
use Rattle.rules.specs.declared.state.Refusal.TheVariants as refusal
use Rattle.rules.specs.declared.state.Action.{Action}
use Rattle.rules.specs.declared.state.Answer.{Answer}
use Rattle.rules.specs.declared.state.Answer.TheVariants.{Accepted, Refused}
use Rattle.ring.specs.declared.state.Ring.{Ring}
use Rattle.ring.specs.declared.state.Step.{Step}
use Rattle.ring.specs.declared.state.Replay.{Replay}
use Rattle.rules.proofs.Lists.{by_bool}
use Rattle.ring.proofs.Representation.{ring_of, same-ring}
use Rattle.ring.proofs.demand.Promises.{promises}
use Rattle.ring.proofs.act.Laws.{step_of, fresh-plain}
use Rattle.ring.proofs.demand.Steps.{makes, makes-asked, makes-answered, makes-length, makes-leads}
use Rattle.ring.proofs.demand.Runs.{calls-claim}

-- ---- the ring of a set-up

-- a ring that a set-up makes is accepted where its size is
pub set-up : (pages slots mode : ℕ) → size_fits (size_of pages slots mode) ≡ true → (r : Ring) → state_of r ≡ fresh_ring (size_of pages slots mode) → SetUp promises pages slots mode r
set-up pages slots mode fits r e =
    record {
      step = step_of (fresh_rule pages slots mode);
      given = fresh-plain pages slots mode;
      accepted = rw fits refl;
      ring = rw fits (sym (same-ring r (fresh_ring (size_of pages slots mode)) e));
    }

pub plain-accepted : (r : Ring) → state_of r ≡ plain_ring → AcceptedRing promises r
plain-accepted r e = record { pages = plain_pages; slots = plain_slots; mode = plain_mode; set_up = set-up plain_pages plain_slots plain_mode refl r e }

pub plain-claim : (Began : Ring → List Single → Type 0) (r : Ring) → state_of r ≡ plain_ring → Began r [] → ForCalls promises Began r
plain-claim Began r e began = calls-claim r (plain-accepted r e) Began r [] began (record { follow = tt; last = refl })

pub fresh-claim : (pages slots mode : ℕ) (s : Step) → promises.fresh pages slots mode s → ForCalls promises NoAction s.ring
fresh-claim pages slots mode s g =
    by_bool (size_fits (size_of pages slots mode))
    (λ fits.
    let its : AcceptedRing promises s.ring =
    record { pages = pages; slots = slots; mode = mode; set_up = set-up pages slots mode fits s.ring (ap (λ (o : Outcome). o.state) g ∙ rw fits refl) } in
    calls-claim s.ring its NoAction s.ring [] refl (record { follow = tt; last = refl }))
    (λ out. plain-claim NoAction s.ring (ap (λ (o : Outcome). o.state) g ∙ rw out refl) refl)

-- ---- a replay

-- a refusal is not Accepted
not-accepted : {P : Type 0} {a : Answer} {why : Refusal} → a ≡ Refused why → a ≡ Accepted → P
not-accepted r e = let z : ◌≡◌ {A = ℕ} 0 1 = cc in absurd (omega arith)

-- actions made one by one on the ring of a set-up, and what holds of the run that begins with them
module _ (pages slots mode : ℕ) (fits : size_fits (size_of pages slots mode) ≡ true) (actions : List Action) where
  abbrev pub fresh_of : Ring
  fresh_of = ring_of (fresh_ring (size_of pages slots mode))

  abbrev pub made_of : List Single
  made_of = makes (fresh_ring (size_of pages slots mode)) actions

  pub made-leads : (back : Ring) → state_of back ≡ state_after (fresh_ring (size_of pages slots mode)) actions → Leads promises fresh_of made_of back
  made-leads back e = subst (Leads promises fresh_of made_of) (ap ring_of (sym e)) (makes-leads (fresh_ring (size_of pages slots mode)) actions)

  pub made-claim :
      (Began : Ring → List Single → Type 0) (back : Ring) →
      state_of back ≡ state_after (fresh_ring (size_of pages slots mode)) actions →
      Began fresh_of made_of →
      ForCalls promises Began back
  made-claim Began back e began =
      let its : AcceptedRing promises fresh_of = record { pages = pages; slots = slots; mode = mode; set_up = set-up pages slots mode fits fresh_of refl } in
      calls-claim fresh_of its Began back made_of began (made-leads back e)

module _ (pages slots mode : ℕ) (bytes : Bor (List ℕ)) (buffer : MutBor (List ℕ)) (r : Replay) (then : List ℕ) where
  abbrev Began : Ring → List Single → Type 0
  Began = Replayed promises pages slots mode bytes buffer r then

  -- refused: no action was made
  refused-claim : (why : Refusal) → replay_outcome r ≡ refused_replay why → then ≡ buffer.now → ForCalls promises Began r.ring
  refused-claim why e kept =
      let answer = ap (λ (o : ReplayOutcome). o.answer) e in
      plain-claim Began r.ring (ap (λ (o : ReplayOutcome). o.state) e)
      (record {
        made = ap (λ (o : ReplayOutcome). o.made) e;
        answers = kept;
        set_up = λ a. not-accepted answer a;
        actions = λ a. not-accepted answer a;
        none = λ n. refl;
      })

  ran-claim :
      size_fits (size_of pages slots mode) ≡ true →
      replay_outcome r ≡ ran (fresh_ring (size_of pages slots mode)) (decoded bytes.now) →
      then ≡ over (laid (answers_of (fresh_ring (size_of pages slots mode)) (decoded bytes.now).actions)) buffer.now →
      ForCalls promises Began r.ring
  ran-claim fits e filled =
      let actions = (decoded bytes.now).actions in
      let fresh = fresh_ring (size_of pages slots mode) in
      made-claim pages slots mode fits actions Began r.ring (ap (λ (o : ReplayOutcome). o.state) e)
      (record {
        made = ap (λ (o : ReplayOutcome). o.made) e ∙ sym (makes-length fresh actions);
        answers = filled ∙ ap (λ (l : List Answer). over (laid l) buffer.now) (sym (makes-answered fresh actions));
        set_up = λ a. set-up pages slots mode fits (ring_of fresh) refl;
        actions = λ a. makes-asked fresh actions;
        none = λ n. absurd (n (ap (λ (o : ReplayOutcome). o.answer) e));
      })

  pub replay-claim : promises.replay pages slots mode bytes buffer r then → ForCalls promises Began r.ring
  replay-claim g =
      by_bool (size_fits (size_of pages slots mode))
      (λ fits.
      by_bool (buffer_fits (decoded bytes.now) (length buffer.now))
      (λ room. ran-claim fits (g.0 ∙ rw (fits, room) refl) (g.1 ∙ rw (fits, room) refl))
      (λ short. refused-claim refusal.Room (g.0 ∙ rw (fits, short) refl) (g.1 ∙ rw (fits, short) refl)))
      (λ out. refused-claim refusal.SetUp (g.0 ∙ rw out refl) (g.1 ∙ rw out refl))
