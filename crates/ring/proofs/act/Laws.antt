-- What an outcome tells is what its answer tells: so an action's outcome is that of a step of the code. And out of shape each action is refused with
-- SHAPE, and the ring stays. Assumes nothing.
use Rattle.std.specs.Prelude.{Result, Ok, Err}
use mathlib.Core.Path.{◌≡◌, refl}
use mathlib.Core.Bool.{false}
use Prim.Native.Nat.{ℕ}
use Rattle.rules.specs.State.{size_of, State}
use Rattle.rules.specs.Answers.{Outcome, gives}
use Rattle.rules.specs.Refusals.{begin_verdict, write_verdict, read_verdict, set_up_verdict, judged}
use Rattle.rules.specs.Shape.{size_fits, in_shape}
use Rattle.rules.specs.SetUp.{fresh_ring, plain_ring, fresh_rule}
use Rattle.rules.specs.Begin.{begin}
use Rattle.rules.specs.Write.{plan_write, moved}
use Rattle.rules.specs.Read.{plan_read, fetched}
use Rattle.rules.specs.Act.{act}
use Rattle.ring.specs.Ring.{outcome}
use Rattle.rules.specs.declared.state.Action.{Action}
use Rattle.rules.specs.declared.state.Action.TheVariants.{Begin, Write, Read}
use Rattle.rules.specs.declared.state.Answer.TheVariants.{Accepted, Refused}
use Rattle.rules.specs.declared.state.Refusal.{Refusal}
use Rattle.rules.specs.declared.state.Refusal.TheVariants.{Shape}
use Rattle.rules.specs.declared.moves.Move.{Move}
use Rattle.rules.specs.declared.moves.Move.TheVariants as move
use Rattle.rules.specs.declared.moves.Fetch.{Fetch}
use Rattle.rules.specs.declared.moves.Fetch.TheVariants as fetch
use Rattle.ring.specs.declared.state.Step.{Step}
use Rattle.ring.proofs.Representation.{ring_of}

-- the step with an outcome's ring and answer
abbrev pub step_of : Outcome → Step
step_of o = record { ring = ring_of o.state; answer = o.answer }

-- what an outcome tells is what its answer tells: so it is the outcome of that step
abbrev Plain : Outcome → Type 0
Plain o = outcome (step_of o) ≡ o

judged-plain : (v : Result (Unit {0}) Refusal) (r : State) (o : Outcome) → Plain o → Plain (judged v r o)
judged-plain (Ok tt) r o h = h
judged-plain (Err why) r o h = refl

moved_plain : (m : Move) (r : State) → Plain (moved m r)
moved_plain (move.Become next a) r = refl
moved_plain (move.Reserve t slot) r = refl
moved_plain move.Drop r = refl
moved_plain move.DropCommit r = refl
moved_plain (move.Mark t n) r = refl
moved_plain (move.Promote n next) r = refl
moved_plain (move.Clear t n) r = refl
moved_plain (move.Push n) r = refl
moved_plain (move.Fill p slot) r = refl
moved_plain move.Pend r = refl
moved_plain move.Commit r = refl

fetched-plain : (f : Fetch) (r : State) → Plain (fetched f r)
fetched-plain fetch.Event r = refl
fetched-plain fetch.Empty r = refl
fetched-plain fetch.Busy r = refl
fetched-plain (fetch.Find p h) r = refl
fetched-plain (fetch.Prepare p h) r = refl
fetched-plain (fetch.Swap p h) r = refl
fetched-plain fetch.Miss r = refl

pub act-plain : (r : State) (a : Action) → outcome (step_of (act r a)) ≡ act r a
act-plain r (Begin v) = judged-plain (begin_verdict (in_shape r) r.depth r.counts.begun) r (begin v r) refl
act-plain r Write = judged-plain (write_verdict (in_shape r) r.depth) r (moved (plan_write r) r) (moved_plain (plan_write r) r)
act-plain r Read = judged-plain (read_verdict (in_shape r)) r (fetched (plan_read r) r) (fetched-plain (plan_read r) r)

pub fresh-plain : (pages slots mode : ℕ) → outcome (step_of (fresh_rule pages slots mode)) ≡ fresh_rule pages slots mode
fresh-plain pages slots mode =
    let size = size_of pages slots mode in
    judged-plain (set_up_verdict (size_fits size)) plain_ring (gives Accepted (fresh_ring size)) refl

-- ---- out of shape

pub out-of-shape : (r : State) → in_shape r ≡ false → (a : Action) → gives (Refused Shape) r ≡ act r a
out-of-shape r h (Begin v) = rw h
out-of-shape r h Write = rw h
out-of-shape r h Read = rw h
