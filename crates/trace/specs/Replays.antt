-- The replay of a trace: its header, then the actions from a place on, one by one. Request E1: "9 an unknown or cut action, with the offset of that
-- action's first byte. On 9 the state is that after the last whole action; on the others it is the plain ring. ... Replay equals the actions one by
-- one".
-- Assumes nothing.
use Rattle.std.specs.Prelude.{◌≡◌, cond, List, [], ◌∷◌, ℕ, ◌+◌, min, eqb, length, drop, Result, Ok, Err}
use Rattle.rules.specs.State.{State}
use Rattle.rules.specs.Answers.{tells_of}
use Rattle.rules.specs.SetUp.{fresh_ring}
use Rattle.rules.specs.Actions.{Decoded, coded_at, decoded_from}
use Rattle.rules.specs.Replay.{state_after, ran_buffer, buffer_fits, replay_with, refused_replay, ReplayOutcome}
use Rattle.trace.specs.Header.{header_of}
use Rattle.rules.specs.declared.state.Size.{Size}
use Rattle.rules.specs.declared.state.Refusal.{Refusal}
use Rattle.rules.specs.declared.state.Refusal.TheVariants as refusal
use Rattle.rules.specs.declared.state.Answer.{Answer}
use Rattle.rules.specs.declared.state.Answer.TheVariants as answer
use Rattle.rules.specs.declared.actions.Coded.TheVariants.{Broken}

-- where a walk begins: a place past the end is the end
abbrev pub walk_place : ℕ → ℕ → ℕ
walk_place len at = min at len

-- the bytes from there on, the whole actions among them, and the offset where these stop
abbrev pub walk_bytes : List ℕ → ℕ → List ℕ
walk_bytes bytes at = drop (walk_place (length bytes) at) bytes

abbrev pub walk_actions : List ℕ → ℕ → Decoded
walk_actions bytes at = decoded_from bytes (walk_place (length bytes) at)

-- refused with 9 where whole actions stop before the end: there is an unknown or cut action (`NineRight`)
abbrev pub whole_to : ℕ → ℕ → Answer
whole_to len stop = cond (eqb stop len) answer.Accepted (answer.Refused refusal.Action)

-- the actions made one by one from ring r; the stop is "the offset of that action's first byte"
abbrev pub walked : ℕ → State → Decoded → ReplayOutcome
walked len r d = replay_with (state_after r d.actions) (whole_to len d.stop) (length d.actions) d.stop

-- a run of the bytes from a place on, told as one of all of them
abbrev pub told_from : ℕ → ℕ → ReplayOutcome → ReplayOutcome
told_from len from run = replay_with run.state (whole_to len (from + run.stop)) run.made (from + run.stop)

-- by what the header says: a refusal, with the plain ring; or the actions on the fresh ring of its set-up, where the buffer lent has a place for the
-- answer of each, and else 10. So the order is 6, 7, 8, 10, 9: where answers have no place no action is made, and 9 is told with the ring that the
-- actions before it leave
abbrev pub replayed_by : Result Size Refusal → List ℕ → ℕ → List ℕ → ReplayOutcome
replayed_by (Err why) bytes at buffer = refused_replay why
replayed_by (Ok size) bytes at buffer =
    cond (buffer_fits (walk_actions bytes at) (length buffer))
    (walked (length bytes) (fresh_ring size) (walk_actions bytes at))
    (refused_replay refusal.Room)

-- what the buffer holds then: the answers at its start, and as before where the replay was refused before the first action
abbrev pub buffer_by : Result Size Refusal → List ℕ → ℕ → List ℕ → List ℕ
buffer_by (Err why) bytes at buffer = buffer
buffer_by (Ok size) bytes at buffer =
    cond (buffer_fits (walk_actions bytes at) (length buffer)) (ran_buffer (fresh_ring size) (walk_actions bytes at) buffer) buffer

unfoldable pub replayed_from : List ℕ → ℕ → List ℕ → ReplayOutcome
replayed_from bytes at buffer = replayed_by (header_of bytes) bytes at buffer

unfoldable pub buffer_from : List ℕ → ℕ → List ℕ → List ℕ
buffer_from bytes at buffer = buffer_by (header_of bytes) bytes at buffer

-- whatever the bytes are: where a replay is refused with 9, an unknown or cut action stands at its stop; where it is not refused, it made all actions
-- to the end
pub record NineRight (bytes : List ℕ) (r : ReplayOutcome) : Type 0 where
  pub nine : r.answer ≡ answer.Refused refusal.Action → coded_at bytes r.stop ≡ Broken
  -- .. and the refusal tells that offset
  pub told : r.answer ≡ answer.Refused refusal.Action → r.tells ≡ tells_of 9 (r.stop ∷ [])
  pub whole : r.answer ≡ answer.Accepted → r.stop ≡ length bytes
