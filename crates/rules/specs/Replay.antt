-- Replay: actions that stand one after the other in some bytes, made one by one on the ring of a set-up. Request E1: "Replay equals the actions one by one".
-- Assumes nothing.
use Rattle.std.specs.Prelude.{◌≡◌, Bool, true, cond, not, List, [], ◌∷◌, ◌++◌, ℕ, ◌*◌, eqb, leb, length, drop}
use Rattle.rules.specs.Lists.{first}
use Rattle.rules.specs.State.{size_of, State}
use Rattle.rules.specs.Answers.{refusal_number, Told, tells_of, told}
use Rattle.rules.specs.Codes.{numbers_of}
use Rattle.rules.specs.Shape.{size_fits}
use Rattle.rules.specs.SetUp.{fresh_ring, plain_ring}
use Rattle.rules.specs.Act.{act}
use Rattle.rules.specs.Actions.{Decoded, decoded}
use Rattle.rules.specs.declared.state.Size.{Size}
use Rattle.rules.specs.declared.state.Refusal.{Refusal}
use Rattle.rules.specs.declared.state.Refusal.TheVariants as refusal
use Rattle.rules.specs.declared.state.Answer.{Answer}
use Rattle.rules.specs.declared.state.Answer.TheVariants.{Accepted, Refused}
use Rattle.rules.specs.declared.state.Action.{Action}

-- ---- the actions one by one, each on the ring that the last one returned. The ring is that of the run that demand 3 speaks of (`after-now`, proofs/runs/Reached)

abbrev pub state_after : State → List Action → State
state_after r [] = r
state_after r (a ∷ rest) = state_after (act r a).state rest

abbrev pub answers_of : State → List Action → List Answer
answers_of r [] = []
answers_of r (a ∷ rest) = (act r a).answer ∷ answers_of (act r a).state rest

-- ---- answers in a buffer that is lent: three numbers each, the code of its kind and its values

abbrev pub numbers_per_answer : ℕ
numbers_per_answer = 3

abbrev pub laid : List Answer → List ℕ
laid [] = []
laid (a ∷ rest) = (numbers_of a).code ∷ (numbers_of a).first ∷ (numbers_of a).second ∷ laid rest

-- the prefix of the buffer filled, the rest kept
abbrev pub over : List ℕ → List ℕ → List ℕ
over prefix old = prefix ++ drop (length prefix) old

abbrev pub ran_buffer : State → Decoded → List ℕ → List ℕ
ran_buffer r d buffer = over (laid (answers_of r d.actions)) buffer

-- in the buffer lent, of which the length is given, there is a place for the answer of each whole action
abbrev pub buffer_fits : Decoded → ℕ → Bool
buffer_fits d len = leb (numbers_per_answer * length d.actions) len

-- ---- what a replay comes to

pub record ReplayOutcome : Type 0 where
  -- after the last action made; the plain ring where the replay was refused before the first
  pub state : State
  -- Accepted, or why the replay was refused
  pub answer : Answer
  -- what that tells: its number and its values
  pub tells : Told
  -- how many actions were made, and the place of the first byte after them; 0 where the replay was refused before the first
  pub made : ℕ
  pub stop : ℕ

-- what the answer tells, and "9 ... with the offset of that action's first byte": the place where the actions stop
abbrev pub told_replay : Answer → ℕ → Told
told_replay a stop =
    tells_of (told a).refusal (cond (eqb (told a).refusal (refusal_number refusal.Action)) (stop ∷ []) (told a).values)

abbrev pub replay_with : State → Answer → ℕ → ℕ → ReplayOutcome
replay_with r a made stop = record { state = r; answer = a; tells = told_replay a stop; made = made; stop = stop }

-- refused before the first action: the plain ring
abbrev pub refused_replay : Refusal → ReplayOutcome
refused_replay why = replay_with plain_ring (Refused why) 0 0

-- all of them made, from ring r; that the bytes may break off is told by the stop alone
abbrev pub ran : State → Decoded → ReplayOutcome
ran r d = replay_with (state_after r d.actions) Accepted (length d.actions) d.stop

-- refused with SETUP where the set-up is, then with ROOM where the buffer is too short for the answers of the actions that the bytes hold
abbrev pub replay_rule : ℕ → ℕ → ℕ → List ℕ → List ℕ → ReplayOutcome
replay_rule pages slots mode bytes buffer =
    first
    ((not (size_fits (size_of pages slots mode)), refused_replay refusal.SetUp)
    ∷ (not (buffer_fits (decoded bytes) (length buffer)), refused_replay refusal.Room)
    ∷ [])
    (ran (fresh_ring (size_of pages slots mode)) (decoded bytes))

-- what the buffer holds then: as before where the replay is refused
abbrev pub buffer_rule : ℕ → ℕ → ℕ → List ℕ → List ℕ → List ℕ
buffer_rule pages slots mode bytes buffer =
    first
    ((not (size_fits (size_of pages slots mode)), buffer)
    ∷ (not (buffer_fits (decoded bytes) (length buffer)), buffer)
    ∷ [])
    (ran_buffer (fresh_ring (size_of pages slots mode)) (decoded bytes) buffer)

-- ---- the rings that are reached

-- a ring that some actions reach from an accepted set-up
pub record Reached (r : State) : Type 0 where
  pub size : Size
  pub fits : size_fits size ≡ true
  pub actions : List Action
  pub reached : r ≡ state_after (fresh_ring size) actions
