-- Demands 1 and 3 of the code: of whatever the ring's functions may return, in any order of calls. What a call did is told by single actions
-- (specs/Calls), each a step that `Ring::act` may return, and the history is that of these steps' own answers: no rule of an action says what
-- happened. What is named of the rules is the claim (Demand), how an answer adds to a history (History), what an answer tells (Answers), in shape
-- (Shape), the table of refusals (Listed) with the plain ring, and how actions, answers and events stand in bytes and buffers (Actions, Replay,
-- Drain).
-- Assumes nothing.
use Rattle.std.specs.Prelude.{◌≡◌, true, ◌≢◌, List, [], ◌∷◌, ◌++◌, ℕ, length}
use Rattle.std.specs.Borrow.{Bor, MutBor}
use Rattle.rules.specs.Answers.{told}
use Rattle.rules.specs.Shape.{in_shape}
use Rattle.rules.specs.SetUp.{plain_ring}
use Rattle.rules.specs.Listed.{listed, listed_receipt, listed_set_up, zeros}
use Rattle.rules.specs.History.{Run, run_at, recall, value_in, nothing}
use Rattle.rules.specs.Demand.{Claim, CompleteClaim}
use Rattle.rules.specs.Actions.{decoded}
use Rattle.rules.specs.Replay.{laid, over}
use Rattle.ring.specs.Ring.{state_of}
use Rattle.ring.specs.Calls.{Promises, Single, asked, answered, Call, last_back, refusal_in, Gives, Follow, Leads, Singles}
use Rattle.rules.specs.declared.state.Action.{Action}
use Rattle.rules.specs.declared.state.Action.TheVariants as action
use Rattle.rules.specs.declared.state.Answer.TheVariants.{Accepted}
use Rattle.rules.specs.declared.state.Receipt.{Receipt}
use Rattle.ring.specs.declared.state.Ring.{Ring}
use Rattle.ring.specs.declared.state.Step.{Step}
use Rattle.ring.specs.declared.state.Replay.{Replay}
use Rattle.ring.specs.declared.state.DrainCount.{DrainCount}
use Rattle.ring.specs.declared.drain_part.DrainPart.{DrainPart}

-- ---- the run that single actions tell: the state of the last ring, and the history of their answers

abbrev pub run_told : Run → List Single → Run
run_told r [] = r
run_told r (x ∷ rest) =
    run_told (run_at (state_of x.step.ring) (recall (value_in x.action) r.now x.step.answer r.past)) rest

abbrev pub run_from : Ring → List Single → Run
run_from first l = run_told (run_at (state_of first) nothing) l

-- a run may begin with no action
abbrev pub NoAction : Ring → List Single → Type 0
NoAction first l = l ≡ []

-- the number of a refusal, and the same ring with it
pub record StepAsListed (r : Ring) (number : ℕ) (s : Step) : Type 0 where
  pub refusal : (told s.answer).refusal ≡ number
  pub same : number ≢ 0 → s.ring ≡ r

module _ (p : Promises) where
  -- ---- demand 1: of every ring that may be handed in, and every set-up

  pub record CodeDemand1 : Type 0 where
    pub begin : (r : Ring) (v : ℕ) (s : Step) → p.begin r v s → StepAsListed r (listed (state_of r) (action.Begin v)) s
    pub write : (r : Ring) (s : Step) → p.write r s → StepAsListed r (listed (state_of r) action.Write) s
    pub read : (r : Ring) (s : Step) → p.read r s → StepAsListed r (listed (state_of r) action.Read) s
    pub act : (r : Ring) (a : Action) (s : Step) → p.act r a s → StepAsListed r (listed (state_of r) a) s
    pub receipt : (r : Ring) (c : Receipt) → p.receipt r c → c.refusal ≡ listed_receipt (state_of r)
    pub zero : (r : Ring) (c : Receipt) → p.receipt r c → listed_receipt (state_of r) ≢ 0 → c ≡ zeros
    pub set_up : (pages slots mode : ℕ) (s : Step) → p.fresh pages slots mode s → (told s.answer).refusal ≡ listed_set_up pages slots mode
    pub plain : (pages slots mode : ℕ) (s : Step) → p.fresh pages slots mode s → listed_set_up pages slots mode ≢ 0 → state_of s.ring ≡ plain_ring

  -- ---- demand 3

  -- the whole claim of the rules' specs/Demand, of the ring that the last call gave back, the receipt c of it, and whatever call comes next
  pub record CodeClaim (last : Ring) (c : Receipt) (r : Run) : Type 0 where
    pub now : state_of last ≡ r.now
    pub demand : Claim c r
    pub complete : CompleteClaim c r
    pub shape : in_shape (state_of last) ≡ true
    pub unbroken : (next : Call) → Gives p last next → refusal_in next ≢ 1
    pub receipt : c.refusal ≡ 0

  -- "It starts from the ring that an accepted set-up gives"
  pub record SetUp (pages slots mode : ℕ) (first : Ring) : Type 0 where
    pub step : Step
    pub given : p.fresh pages slots mode step
    pub accepted : step.answer ≡ Accepted
    pub ring : step.ring ≡ first

  pub record AcceptedRing (first : Ring) : Type 0 where
    pub pages : ℕ
    pub slots : ℕ
    pub mode : ℕ
    pub set_up : SetUp pages slots mode first

  -- a run: on the ring of an accepted set-up, single actions that `Began` knows of and that lead to the ring `here`, then those of the calls on it; c
  -- is the receipt after them
  pub record CallsClaim (Began : Ring → List Single → Type 0) (here : Ring) (calls : List Call) (c : Receipt) : Type 0 where
    pub first : Ring
    pub set_up : AcceptedRing first
    pub before : List Single
    pub began : Began first before
    pub leads : Leads p first before here
    pub singles : List Single
    pub are : Singles p here calls singles
    pub claim : CodeClaim (last_back here calls) c (run_from first (before ++ singles))

  -- for every list of calls, and the receipt of the ring that the last one gave back
  abbrev pub ForCalls : (Ring → List Single → Type 0) → Ring → Type 0
  ForCalls Began here = (calls : List Call) → Follow p here calls → (c : Receipt) → p.receipt (last_back here calls) c → CallsClaim Began here calls c

  -- a run may begin with the actions of a replay: its answers, in the buffer, are theirs
  pub record Replayed (pages slots mode : ℕ) (bytes : Bor (List ℕ)) (buffer : MutBor (List ℕ)) (r : Replay) (then : List ℕ) (first : Ring) (l : List Single) : Type 0 where
    pub made : r.made ≡ length l
    pub answers : then ≡ over (laid (answered l)) buffer.now
    -- where it is not refused: all the actions of the bytes, on the ring of its set-up
    pub set_up : r.answer ≡ Accepted → SetUp pages slots mode first
    pub actions : r.answer ≡ Accepted → asked l ≡ (decoded bytes.now).actions
    -- .. and else none
    pub none : r.answer ≢ Accepted → l ≡ []

  -- a run may begin with a set-up, refused or not, with the plain ring, and with a replay, refused or not
  pub record CodeDemand3 : Type 0 where
    pub fresh : (pages slots mode : ℕ) (s : Step) → p.fresh pages slots mode s → ForCalls NoAction s.ring
    pub plain : (r : Ring) → p.plain r → ForCalls NoAction r
    pub replay :
        (pages slots mode : ℕ) (bytes : Bor (List ℕ)) (buffer : MutBor (List ℕ)) (r : Replay) (then : List ℕ) →
        p.replay pages slots mode bytes buffer r then →
        ForCalls (Replayed pages slots mode bytes buffer r then) r.ring

  -- ---- such runs there are: whatever is asked, of whichever ring, there is something that the function may return; so there is for every list of calls

  pub record CodeRuns : Type 0 where
    pub fresh : (pages slots mode : ℕ) → (s : Step) × p.fresh pages slots mode s
    pub plain : (r : Ring) × p.plain r
    pub replay :
        (pages slots mode : ℕ) (bytes : Bor (List ℕ)) (buffer : MutBor (List ℕ)) → (r : Replay) × (then : List ℕ) × p.replay pages slots mode bytes buffer r then
    pub begin : (r : Ring) (v : ℕ) → (s : Step) × p.begin r v s
    pub write : (r : Ring) → (s : Step) × p.write r s
    pub read : (r : Ring) → (s : Step) × p.read r s
    pub act : (r : Ring) (a : Action) → (s : Step) × p.act r a s
    pub drain_into : (r : Ring) (buffer : MutBor (List ℕ)) → (d : DrainCount) × (then : List ℕ) × p.drain_into r buffer d then
    pub drain : (r : Ring) (buffer : MutBor (List ℕ)) → (d : DrainPart) × p.drain r buffer d
    pub receipt : (r : Ring) → (c : Receipt) × p.receipt r c
