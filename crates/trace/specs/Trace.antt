-- A whole trace, and the round trip: what is written is what is read.
-- Assumes nothing.
use Rattle.std.specs.Prelude.{◌≡◌, true, List, [], ◌∷◌, ◌++◌, ℕ, ◌*◌, ◌≤◌, length, Result, Ok, Err}
use Rattle.rules.specs.Limits.{most_count}
use Rattle.rules.specs.State.{size_of}
use Rattle.rules.specs.Shape.{size_fits}
use Rattle.rules.specs.Actions.{decoded_from, encoded}
use Rattle.rules.specs.SetUp.{fresh_ring}
use Rattle.rules.specs.Replay.{state_after, answers_of, numbers_per_answer, laid, over, replay_with}
use Rattle.trace.specs.Header.{most_length, first_action, header_of}
use Rattle.trace.specs.Replays.{replayed_from, buffer_from}
use Rattle.trace.specs.Encode.{header_bytes, header_place, header_put, action_place, action_put}
use Rattle.rules.specs.declared.state.Refusal.{Refusal}
use Rattle.rules.specs.declared.state.Answer.TheVariants.{Accepted}
use Rattle.rules.specs.declared.state.Action.{Action}
use Rattle.rules.specs.declared.state.Action.TheVariants.{Begin, Write, Read}

-- "four value bytes": the value of a Begin fits them. That of an action of the code always does.
abbrev pub ValueFits : Action → Type 0
ValueFits (Begin v) = v ≤ most_count
ValueFits Write = Unit {0}
ValueFits Read = Unit {0}

abbrev pub ValuesFit : List Action → Type 0
ValuesFit [] = Unit {0}
ValuesFit (a ∷ rest) = ValueFits a × ValuesFit rest

-- "the mark "PTR", version 1 .., then N, S and mode .. Then actions"
abbrev pub trace_of : ℕ → ℕ → ℕ → List Action → List ℕ
trace_of pages slots mode actions = header_bytes pages slots mode ++ encoded actions

-- ---- the calls of the encoder

-- what some calls leave: the last one's answer, and the bytes
pub record Written : Type 0 where
  pub place : Result ℕ Refusal
  pub out : List ℕ

-- `put_action` for each action in turn, at the place that the call before it gave; after a refusal there is no call
abbrev pub written_from : Result ℕ Refusal → List ℕ → List Action → Written
written_from p out [] = record { place = p; out = out }
written_from (Err why) out (a ∷ rest) = record { place = Err why; out = out }
written_from (Ok at) out (a ∷ rest) = written_from (action_place (length out) at a) (action_put out at a) rest

-- `put_header` first
abbrev pub written : ℕ → ℕ → ℕ → List Action → List ℕ → Written
written pages slots mode actions out = written_from (header_place (length out) pages slots mode) (header_put out pages slots mode) actions

-- ---- the round trip

-- the header of the trace says the set-up, and then come all the actions, to the trace's end
pub record ReadBack (pages slots mode : ℕ) (actions : List Action) : Type 0 where
  pub header : header_of (trace_of pages slots mode actions) ≡ Ok (size_of pages slots mode)
  pub then : decoded_from (trace_of pages slots mode actions) first_action ≡ record { actions = actions; stop = length (trace_of pages slots mode actions) }

-- where no call was refused, the trace stands at the start of the bytes lent, the rest kept, and it is one that is read back
pub record WrittenOut (pages slots mode : ℕ) (actions : List Action) (out : List ℕ) (end : ℕ) : Type 0 where
  pub stop : end ≡ length (trace_of pages slots mode actions)
  pub holds : (written pages slots mode actions out).out ≡ over (trace_of pages slots mode actions) out
  pub reads : ReadBack pages slots mode actions

-- the trace replayed, with a buffer for its answers: the actions one by one on the fresh ring, all of them, and their answers at the start of the buffer
pub record ReplayedBack (pages slots mode : ℕ) (actions : List Action) (buffer : List ℕ) : Type 0 where
  pub replays :
      replayed_from (trace_of pages slots mode actions) first_action buffer
      ≡ replay_with (state_after (fresh_ring (size_of pages slots mode)) actions) Accepted (length actions) (length (trace_of pages slots mode actions))
  pub answers : buffer_from (trace_of pages slots mode actions) first_action buffer ≡ over (laid (answers_of (fresh_ring (size_of pages slots mode)) actions)) buffer

pub record RoundTrip : Type 0 where
  -- every trace of an accepted set-up that is not too long is read back
  pub read :
      (pages slots mode : ℕ) (actions : List Action) →
      ValuesFit actions →
      size_fits (size_of pages slots mode) ≡ true →
      length (trace_of pages slots mode actions) ≤ most_length →
      ReadBack pages slots mode actions
  -- it is written by the calls where the bytes lent have room for it
  pub write :
      (pages slots mode : ℕ) (actions : List Action) (out : List ℕ) →
      size_fits (size_of pages slots mode) ≡ true →
      length (trace_of pages slots mode actions) ≤ most_length →
      length (trace_of pages slots mode actions) ≤ length out →
      (written pages slots mode actions out).place ≡ Ok (length (trace_of pages slots mode actions))
  -- whatever the calls are given: if none is refused, they have written the trace
  pub wrote :
      (pages slots mode : ℕ) (actions : List Action) (out : List ℕ) (end : ℕ) →
      ValuesFit actions →
      (written pages slots mode actions out).place ≡ Ok end →
      WrittenOut pages slots mode actions out end
  -- and a trace that is read back is replayed as its actions one by one, where the buffer lent has a place for the answer of each
  pub replayed :
      (pages slots mode : ℕ) (actions : List Action) (buffer : List ℕ) →
      ReadBack pages slots mode actions →
      numbers_per_answer * length actions ≤ length buffer →
      ReplayedBack pages slots mode actions buffer
