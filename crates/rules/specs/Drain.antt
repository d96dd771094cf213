-- Drain: Reads made one after the other, and their Events laid in a buffer that is lent. Request E2: "Ring, events and last answer are those
-- of the same Reads made singly." A `DrainOutcome` is what some Reads leave; `drain_reads` makes them, in rows; `drain_rule` is the call.
-- Assumes nothing.
use Rattle.std.specs.Prelude.{◌≡◌, false, cond, List, [], ◌∷◌, ℕ, zero, suc, ◌+◌, ◌*◌, ◌^◌, ◌≤◌, replicate, Option, Some, None}
use Rattle.rules.specs.Limits.{most_in_row}
use Rattle.rules.specs.State.{State}
use Rattle.rules.specs.Answers.{Told, says, told, Outcome}
use Rattle.rules.specs.Shape.{in_shape}
use Rattle.rules.specs.Read.{read_rule}
use Rattle.rules.specs.Replay.{state_after, answers_of, over}
use Rattle.rules.specs.declared.state.ReadingNo.{ReadingNo}
use Rattle.rules.specs.declared.state.Refusal.TheVariants.{Shape}
use Rattle.rules.specs.declared.state.Answer.{Answer}
use Rattle.rules.specs.declared.state.Answer.TheVariants as answer
use Rattle.rules.specs.declared.state.Action.TheVariants.{Read}

-- ---- what an answer is to a drain

-- "number × 2^32 + value"
abbrev pub event_number : ReadingNo → ℕ → ℕ
event_number n v = n.0 * 2 ^ 32 + v

-- an Event, as the number that is stored; "Empty, Busy or a refusal"; and what is none of these, after which the Reads go on
pub data DrainKind : Type 0 where
  event : ℕ → DrainKind
  ending : DrainKind
  quiet : DrainKind

abbrev pub drain_kind : Answer → DrainKind
drain_kind (answer.Event n v) = event (event_number n v)
drain_kind answer.Empty = ending
drain_kind answer.Busy = ending
drain_kind (answer.Refused why) = ending
drain_kind answer.Found = quiet
drain_kind answer.Prepared = quiet
drain_kind answer.Swapped = quiet
drain_kind answer.Missed = quiet
-- no Read answers these
drain_kind answer.Accepted = quiet
drain_kind (answer.Begun depth) = quiet
drain_kind (answer.Reserved n) = quiet
drain_kind answer.Looked = quiet
drain_kind answer.Dropped = quiet
drain_kind answer.Marked = quiet
drain_kind answer.Shared = quiet
drain_kind answer.Retry = quiet
drain_kind answer.Promoted = quiet
drain_kind answer.Standing = quiet
drain_kind answer.Cleared = quiet
drain_kind answer.Pushed = quiet
drain_kind answer.Passed = quiet
drain_kind answer.Filled = quiet
drain_kind (answer.Committed count) = quiet
drain_kind answer.Pending = quiet

-- ---- the Reads

-- what some Reads leave: the ring, the events that they told, in the order of the Reads and each as it is stored, and the last answer
pub record DrainOutcome : Type 0 where
  pub state : State
  pub events : List ℕ
  pub last : Option Answer
  -- what that tells: its number and its values
  pub tells : Told

-- what the last answer tells; "none" tells nothing
abbrev pub told_last : Option Answer → Told
told_last None = says []
told_last (Some a) = told a

abbrev pub drain_with : State → List ℕ → Option Answer → Told → DrainOutcome
drain_with r events last tells = record { state = r; events = events; last = last; tells = tells }

abbrev pub drain_ends : State → Option Answer → DrainOutcome
drain_ends r last = drain_with r [] last (told_last last)

-- one event before others
abbrev pub event_first : ℕ → DrainOutcome → DrainOutcome
event_first e d = drain_with d.state (e ∷ d.events) d.last d.tells

-- after a Read: its event with what comes `later`; the end; or, after a quiet answer, `on`
abbrev pub by_kind : DrainKind → DrainOutcome → DrainOutcome → DrainOutcome → DrainOutcome
by_kind (event e) later end on = event_first e later
by_kind ending later end on = end
by_kind quiet later end on = on

-- after a Read with this outcome; both go on from its ring and its answer
abbrev pub after_read : (State → Option Answer → DrainOutcome) → (State → Option Answer → DrainOutcome) → Outcome → DrainOutcome
after_read later on o =
    by_kind (drain_kind o.answer)
    (later o.state (Some o.answer))
    (drain_ends o.state (Some o.answer))
    (on o.state (Some o.answer))

-- Reads in a row, at most `left` of them, until one is not quiet; after an Event the drain goes on as `later` says
abbrev pub reads_in_row : (State → Option Answer → DrainOutcome) → ℕ → State → Option Answer → DrainOutcome
reads_in_row later zero r last = drain_ends r last
reads_in_row later (suc left) r last = after_read later (reads_in_row later left) (read_rule r)

-- "Reads are made until the buffer is full", of which `space` elements are left, "or an answer is Empty, Busy or a refusal, or" `most` "Reads
-- in a row have brought none of these and no Event"
abbrev pub drain_reads : ℕ → ℕ → State → Option Answer → DrainOutcome
drain_reads most zero r last = drain_ends r last
drain_reads most (suc space) r last = reads_in_row (drain_reads most space) most r last

-- "A ring out of shape gets 1, whatever the buffer's length, with nothing stored and an empty part handed back. Otherwise length 0 means no
-- Read, the same ring, last answer "none"."
abbrev pub drain_rule : State → ℕ → DrainOutcome
drain_rule r space = cond (in_shape r) (drain_reads most_in_row space r None) (drain_ends r (Some (answer.Refused Shape)))

-- the buffer that the events are laid in: "the rest keeps its old contents"
abbrev pub buffer_after : DrainOutcome → List ℕ → List ℕ
buffer_after d buffer = over d.events buffer

-- ---- the same as single actions

abbrev event_then : DrainKind → List ℕ → List ℕ
event_then (event e) es = e ∷ es
event_then ending es = es
event_then quiet es = es

-- the events that some answers tell
abbrev pub events_among : List Answer → List ℕ
events_among [] = []
events_among (a ∷ rest) = event_then (drain_kind a) (events_among rest)

-- the last of some answers, after the one before them
abbrev pub last_of : Option Answer → List Answer → Option Answer
last_of last [] = last
last_of last (a ∷ rest) = last_of (Some a) rest

-- "the same Reads made singly": so many Reads, one after the other on the ring r, leave what a drain leaves (`drain-singly`, proofs/drain/Singly)
pub record Singly (r : State) (d : DrainOutcome) : Type 0 where
  pub reads : ℕ
  pub state : d.state ≡ state_after r (replicate reads Read)
  pub events : d.events ≡ events_among (answers_of r (replicate reads Read))
  pub last : d.last ≡ last_of None (answers_of r (replicate reads Read))
  -- "A ring out of shape gets 1, whatever the buffer's length": the one Read that gets it
  pub refused : in_shape r ≡ false → reads ≡ 1

-- ---- that eight in a row never end a drain of a ring that is reached from a fresh one

-- an Event, Empty or Busy
pub data Brought : Option Answer → Type 0 where
  an_event : (n : ReadingNo) (v : ℕ) → Brought (Some (answer.Event n v))
  an_empty : Brought (Some answer.Empty)
  a_busy : Brought (Some answer.Busy)

-- "a Read sequence brings Event, Empty or Busy within 6"
abbrev pub enough : ℕ
enough = 6

-- one drain of one element, with at most six Reads in a row, ends with one of the three; so does every drain into a buffer that has an element; and
-- any limit of six or more gives what eight give
pub record Brings (r : State) : Type 0 where
  pub within : Brought (drain_reads enough 1 r None).last
  pub ends : (space : ℕ) → Brought (drain_rule r (suc space)).last
  pub same_above : (most space : ℕ) → enough ≤ most → drain_reads most space r None ≡ drain_reads most_in_row space r None
