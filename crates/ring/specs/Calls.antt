-- The calls that a customer makes, each with what it was given and what came back, and the single actions that each is. A call of `begin`, `write`,
-- `read` or `act` is one action; a call of a drain is so many Reads. What the functions may return is a parameter here, `Promises`:
-- proofs/demand/Promises puts in what the checker proves of them.
-- Assumes nothing.
use Rattle.std.specs.Prelude.{◌≡◌, List, [], ◌∷◌, ◌++◌, ℕ, length, replicate, Option, None}
use Rattle.std.specs.Borrow.{Bor, MutBor}
use Rattle.rules.specs.Answers.{told}
use Rattle.rules.specs.Replay.{over}
use Rattle.rules.specs.Drain.{told_last, events_among, last_of}
use Rattle.rules.specs.declared.state.Action.{Action}
use Rattle.rules.specs.declared.state.Action.TheVariants as action
use Rattle.rules.specs.declared.state.Answer.{Answer}
use Rattle.rules.specs.declared.state.Receipt.{Receipt}
use Rattle.ring.specs.declared.state.Ring.{Ring}
use Rattle.ring.specs.declared.state.Step.{Step}
use Rattle.ring.specs.declared.state.Replay.{Replay}
use Rattle.ring.specs.declared.state.DrainCount.{DrainCount}
use Rattle.ring.specs.declared.drain_part.DrainPart.{DrainPart}

-- ---- what each function may return

pub record Promises : Type 1 where
  -- N, S and mode, and the step
  pub fresh : ℕ → ℕ → ℕ → Step → Type 0
  pub plain : Ring → Type 0
  -- N, S and mode, the bytes, the buffer lent, what came back, and what the buffer holds then
  pub replay : ℕ → ℕ → ℕ → Bor (List ℕ) → MutBor (List ℕ) → Replay → List ℕ → Type 0
  -- the ring, what was given beside it, and what came back
  pub begin : Ring → ℕ → Step → Type 0
  pub write : Ring → Step → Type 0
  pub read : Ring → Step → Type 0
  pub act : Ring → Action → Step → Type 0
  -- .. and what the buffer holds then
  pub drain_into : Ring → MutBor (List ℕ) → DrainCount → List ℕ → Type 0
  pub drain : Ring → MutBor (List ℕ) → DrainPart → Type 0
  pub receipt : Ring → Receipt → Type 0

-- ---- single actions

-- an action, and the step that `Ring::act` returned
pub record Single : Type 0 where
  pub action : Action
  pub step : Step

abbrev pub single : Action → Step → Single
single a s = record { action = a; step = s }

abbrev pub asked : List Single → List Action
asked [] = []
asked (x ∷ rest) = x.action ∷ asked rest

abbrev pub answered : List Single → List Answer
answered [] = []
answered (x ∷ rest) = x.step.answer ∷ answered rest

-- the ring that the last one returned
abbrev pub last_ring : Ring → List Single → Ring
last_ring r [] = r
last_ring r (x ∷ rest) = last_ring x.step.ring rest

-- ---- calls of a ring's methods

pub data Call : Type 0 where
  begin : ℕ → Step → Call
  write : Step → Call
  read : Step → Call
  act : Action → Step → Call
  -- the buffer lent, what came back, and what the buffer holds then
  drain_into : MutBor (List ℕ) → DrainCount → List ℕ → Call
  drain : MutBor (List ℕ) → DrainPart → Call

abbrev pub ring_back : Call → Ring
ring_back (begin v s) = s.ring
ring_back (write s) = s.ring
ring_back (read s) = s.ring
ring_back (act a s) = s.ring
ring_back (drain_into buffer d then) = d.ring
ring_back (drain buffer d) = d.ring

-- the ring that the last call gave back
abbrev pub last_back : Ring → List Call → Ring
last_back r [] = r
last_back r (c ∷ rest) = last_back (ring_back c) rest

-- the number of the refusal that it gave, 0 for none: that of its answer, and of a drain that of its last answer
abbrev pub refusal_in : Call → ℕ
refusal_in (begin v s) = (told s.answer).refusal
refusal_in (write s) = (told s.answer).refusal
refusal_in (read s) = (told s.answer).refusal
refusal_in (act a s) = (told s.answer).refusal
refusal_in (drain_into buffer d then) = (told_last d.last).refusal
refusal_in (drain buffer d) = (told_last d.last).refusal

-- ---- what a call gave back, in single actions

-- a drain's last answer is theirs, and they are Reads
pub record ReadsTold (l : List Single) (last : Option Answer) : Type 0 where
  pub reads : ℕ
  pub all : asked l ≡ replicate reads action.Read
  pub last_answer : last ≡ last_of None (answered l)

abbrev pub events_told : List Single → List ℕ
events_told l = events_among (answered l)

abbrev pub Tells : Call → List Single → Type 0
Tells (begin v s) l = l ≡ single (action.Begin v) s ∷ []
Tells (write s) l = l ≡ single action.Write s ∷ []
Tells (read s) l = l ≡ single action.Read s ∷ []
Tells (act a s) l = l ≡ single a s ∷ []
-- .. its count and its buffer are those of their Events
Tells (drain_into buffer d then) l = ReadsTold l d.last × (d.count ≡ length (events_told l)) × (then ≡ over (events_told l) buffer.now)
-- .. its part holds their Events
Tells (drain buffer d) l = ReadsTold l d.last × (d.part.now ≡ events_told l)

module _ (p : Promises) where
  -- what the call gave back is what its function may return of the ring r
  abbrev pub Gives : Ring → Call → Type 0
  Gives r (begin v s) = p.begin r v s
  Gives r (write s) = p.write r s
  Gives r (read s) = p.read r s
  Gives r (act a s) = p.act r a s
  Gives r (drain_into buffer d then) = p.drain_into r buffer d then
  Gives r (drain buffer d) = p.drain r buffer d

  -- "Each action gets the ring that the last one returned": so does each call
  abbrev pub Follow : Ring → List Call → Type 0
  Follow r [] = Unit {0}
  Follow r (c ∷ rest) = Gives r c × Follow (ring_back c) rest

  abbrev pub FollowSingly : Ring → List Single → Type 0
  FollowSingly r [] = Unit {0}
  FollowSingly r (x ∷ rest) = p.act r x.action x.step × FollowSingly x.step.ring rest

  -- single actions that lead from the ring r to the ring `back`
  pub record Leads (r : Ring) (l : List Single) (back : Ring) : Type 0 where
    pub follow : FollowSingly r l
    pub last : last_ring r l ≡ back

  -- l begins with the single actions of the call c on the ring r, and of what follows them `Rest` holds
  pub record CallFirst (r : Ring) (c : Call) (Rest : List Single → Type 0) (l : List Single) : Type 0 where
    pub here : List Single
    pub after : List Single
    pub all : l ≡ here ++ after
    pub leads : Leads r here (ring_back c)
    pub tells : Tells c here
    pub rest : Rest after

  -- l is the single actions of the calls, call by call
  abbrev pub Singles : Ring → List Call → List Single → Type 0
  Singles r [] l = l ≡ []
  Singles r (c ∷ rest) l = CallFirst r c (Singles (ring_back c) rest) l
