-- Demand 3 of a run that begins with the replay of a trace, by `trace::replay` or by a reader, and goes on with any calls of the ring's methods (the
-- ring's specs/Calls and specs/Code). What the replay did is told by single actions: those of the trace, each a step that `Ring::act` may return, on
-- the ring of the set-up that its header says; its answers, in the buffer, are theirs.
-- What the functions may return are parameters here: proofs/Runs puts in what the checker proves of them.
-- Assumes nothing.
use Rattle.std.specs.Prelude.{◌≡◌, ◌≢◌, List, [], ℕ, length, Ok, Err}
use Rattle.std.specs.Borrow.{Bor, MutBor}
use Rattle.rules.specs.State.{size_of}
use Rattle.rules.specs.Replay.{laid, over}
use Rattle.ring.specs.Calls.{Promises, Single, asked, answered}
use Rattle.ring.specs.Code.{SetUp, ForCalls}
use Rattle.trace.specs.Header.{first_action, header_of}
use Rattle.trace.specs.Replays.{walk_actions}
use Rattle.rules.specs.declared.state.Refusal.{Refusal}
use Rattle.rules.specs.declared.state.Refusal.TheVariants.{Room}
use Rattle.rules.specs.declared.state.Answer.TheVariants as answer
use Rattle.ring.specs.declared.state.Ring.{Ring}
use Rattle.ring.specs.declared.state.Replay.{Replay}
use Rattle.trace.specs.declared.reader.TraceReader.{TraceReader}

-- the bytes, the place where the walk began, the buffer lent, what came back, and what the buffer holds then; the run's first ring, and its single actions
pub record TraceReplayed (p : Promises) (bytes : List ℕ) (at : ℕ) (buffer : List ℕ) (r : Replay) (then : List ℕ) (first : Ring) (l : List Single) : Type 0 where
  pub made : r.made ≡ length l
  pub answers : then ≡ over (laid (answered l)) buffer
  -- not refused, or refused with 9: all the whole actions from there on, on the ring of the header's set-up
  pub set_up : (pages slots mode : ℕ) → header_of bytes ≡ Ok (size_of pages slots mode) → r.answer ≢ answer.Refused Room → SetUp p pages slots mode first
  pub actions : (pages slots mode : ℕ) → header_of bytes ≡ Ok (size_of pages slots mode) → r.answer ≢ answer.Refused Room → asked l ≡ (walk_actions bytes at).actions
  -- refused with 6, 7 or 8, or with 10: none
  pub unmade : (why : Refusal) → header_of bytes ≡ Err why → l ≡ []
  pub unplaced : r.answer ≡ answer.Refused Room → l ≡ []

-- whatever the bytes are, and whichever calls follow: `trace::replay` begins at the first action, a reader's replay at the reader's place
pub record TraceDemand3 (p : Promises) (ReplayGives : Bor (List ℕ) → MutBor (List ℕ) → Replay → List ℕ → Type 0) (ReaderGives : TraceReader → MutBor (List ℕ) → Replay → List ℕ → Type 0) : Type 0 where
  pub replay :
      (bytes : Bor (List ℕ)) (buffer : MutBor (List ℕ)) (r : Replay) (then : List ℕ) →
      ReplayGives bytes buffer r then →
      ForCalls p (TraceReplayed p bytes.now first_action buffer.now r then) r.ring
  pub reader :
      (t : TraceReader) (buffer : MutBor (List ℕ)) (r : Replay) (then : List ℕ) →
      ReaderGives t buffer r then →
      ForCalls p (TraceReplayed p t.bytes.now t.at buffer.now r then) r.ring
