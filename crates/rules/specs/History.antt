-- What a list of actions did: a record that grows by each action's value, its answer and the ring just before it. Section "Receipt", from "Demand 3 is one
-- claim about the whole list" on. Nothing in it is read off the ring after the list.
-- Assumes nothing.
use Rattle.std.specs.Prelude.{true, false, cond, List, [], ◌∷◌, ◌++◌, ℕ, ◌+◌, ◌-◌, eqb, length, get_or, take}
use Rattle.rules.specs.State.{top, State}
use Rattle.rules.specs.Words.{same_page}
use Rattle.rules.specs.SetUp.{fresh_rule}
use Rattle.rules.specs.Act.{act}
use Rattle.rules.specs.Remember.{BegunWriter, Numbered, Marker, Unmarked, By, History, begun_writer, numbered, unbegun, read_event, overwriting, history, with_begins, with_working, with_droppers, with_readings, with_events, with_overwritings, with_marker}
use Rattle.rules.specs.declared.state.PageNo.{PageNo}
use Rattle.rules.specs.declared.state.WriterPhase.{WriterPhase}
use Rattle.rules.specs.declared.state.WriterPhase.TheVariants as phase
use Rattle.rules.specs.declared.state.Action.{Action}
use Rattle.rules.specs.declared.state.Action.TheVariants.{Begin, Write, Read}
use Rattle.rules.specs.declared.state.Answer.{Answer}
use Rattle.rules.specs.declared.state.Answer.TheVariants.{Accepted, Begun, Reserved, Looked, Dropped, Marked, Shared, Retry, Promoted, Standing, Cleared, Pushed, Passed, Filled, Committed, Pending, Event, Empty, Found, Busy, Prepared, Swapped, Missed, Refused}

-- ---- the writers at work

-- "The answer of a Write that isn't refused belongs to the latest begun writer at work"
abbrev pub latest : List BegunWriter → BegunWriter
latest working = get_or working (length working - 1) unbegun

-- the others, once its work has ended
abbrev pub others : List BegunWriter → List BegunWriter
others working = take (length working - 1) working

-- ---- how an answer adds to it

-- "A writer is at work from its Begun on."
abbrev pub on_begun : ℕ → History → History
on_begun v h = with_begins (h.begins + 1) (with_working (h.working ++ (begun_writer h.begins v ∷ [])) h)

-- "A reading is numbered when a Reserved gave its number: that writer is its own"
abbrev pub on_reserved : ℕ → History → History
on_reserved number h = with_readings (h.readings ++ (numbered number (latest h.working) false ∷ [])) h

-- "Committed, Pending or Dropped ends that writer's work."
abbrev pub on_ended : History → History
on_ended h = with_working (others h.working) h

-- every reading numbered so far, now committed
abbrev pub all_committed : List Numbered → List Numbered
all_committed [] = []
all_committed (x ∷ rest) = numbered x.number x.own true ∷ all_committed rest

abbrev pub with_all_committed : History → History
with_all_committed h = with_readings (all_committed h.readings) h

-- "A reading is committed when an answer Committed has come after its Reserved."
abbrev pub on_committed : History → History
on_committed h = on_ended (with_all_committed h)

-- the latest begun writer at work is dropped
abbrev pub with_dropper : History → History
with_dropper h = with_droppers (h.droppers ++ (latest h.working ∷ [])) h

-- E3: "Such a drop counts as an answer Committed": depth 1 is told by who is at work, only the one that is dropped
abbrev pub on_dropped : History → History
on_dropped h = cond (eqb (length h.working) 1) (on_committed (with_dropper h)) (on_ended (with_dropper h))

abbrev pub on_event : ℕ → ℕ → History → History
on_event number v h = with_events (h.events ++ (read_event number v ∷ [])) h

-- the writer of the mark in t's word, the others as they were
abbrev pub marked_by : PageNo → Marker → (PageNo → Marker) → PageNo → Marker
marked_by t x marker p = cond (same_page p t) x (marker p)

-- t's word gets the update mark, and page n is taken
abbrev pub on_mark : PageNo → PageNo → State → History → History
on_mark t n r h =
    with_overwritings (h.overwritings ++ (overwriting n r h.readings ∷ []))
    (with_marker (marked_by t (By (latest h.working).nth) h.marker) h)

-- t and n are those of the writer's MARK. No other phase is answered Marked; one that were would show in the claim, as a loss and a mark that nobody made.
abbrev pub on_marked : WriterPhase → State → History → History
on_marked (phase.Mark t n) r h = on_mark t n r h
on_marked phase.Want r h = h
on_marked (phase.Promote t n own) r h = h
on_marked (phase.Clear t n) r h = h
on_marked (phase.Push t n) r h = h
on_marked (phase.Held p slot) r h = h
on_marked phase.Filled r h = h

-- the value in the action, the ring just before it, and its answer
abbrev pub recall : ℕ → State → Answer → History → History
recall v r (Begun depth) h = on_begun v h
recall v r (Reserved n) h = on_reserved n.0 h
recall v r Marked h = on_marked (top r).phase r h
recall v r (Committed count) h = on_committed h
recall v r Pending h = on_ended h
recall v r Dropped h = on_dropped h
recall v r (Event n x) h = on_event n.0 x h
-- the other answers add nothing
recall v r Accepted h = h
recall v r Looked h = h
recall v r Shared h = h
recall v r Retry h = h
recall v r Promoted h = h
recall v r Standing h = h
recall v r Cleared h = h
recall v r Pushed h = h
recall v r Passed h = h
recall v r Filled h = h
recall v r Empty h = h
recall v r Found h = h
recall v r Busy h = h
recall v r Prepared h = h
recall v r Swapped h = h
recall v r Missed h = h
recall v r (Refused why) h = h

-- the value in a Begin; the other actions have none
abbrev pub value_in : Action → ℕ
value_in (Begin v) = v
value_in Write = 0
value_in Read = 0

-- ---- a run

-- the ring after the list, and what the list did
pub record Run : Type 0 where
  pub now : State
  pub past : History

abbrev pub run_at : State → History → Run
run_at now past = record { now = now; past = past }

abbrev pub nothing : History
nothing = history 0 [] [] [] [] [] (λ p. Unmarked)

-- "Each action gets the ring that the last one returned, and nobody else changes it meanwhile."
abbrev pub next : Run → Action → Run
next r a = run_at (act r.now a).state (recall (value_in a) r.now (act r.now a).answer r.past)

-- "The list mixes Begins, Writes and Reads in any order, refused ones with the rest."
abbrev pub after : Run → List Action → Run
after r [] = r
after r (a ∷ rest) = after (next r a) rest

-- "It starts from the ring that an accepted set-up gives": that the set-up is accepted is asked in the claim (specs/Demand)
abbrev pub run_of : ℕ → ℕ → ℕ → List Action → Run
run_of pages slots mode actions = after (run_at (fresh_rule pages slots mode).state nothing) actions
