-- A turn of a drain, as one record of pieces, for code that keeps the ring in one place: Events that stand one after the other on the reader
-- page are made together, and a Read of another kind by itself. That storing the pieces makes these Reads is `turn-drains`
-- (proofs/turn/Laws), for a ring in shape.
-- Assumes nothing.
use Rattle.std.specs.Prelude.{◌≡◌, Bool, true, cond, List, ℕ, ◌+◌, ◌-◌, ◌≤◌, ◌<◌, ltb, get_or, Option, Some}
use Rattle.rules.specs.Limits.{most_pages, most_slots, most_count, most_in_row}
use Rattle.rules.specs.Lists.{tabulate}
use Rattle.rules.specs.State.{reading, places_position, with_places, with_handed, with_reader, slot_index, State}
use Rattle.rules.specs.Shape.{reader_fits}
use Rattle.rules.specs.Read.{read_limit, plan_reader}
use Rattle.rules.specs.Drain.{event_number}
use Rattle.ring.specs.Pieces.{read_answer, read_places, read_phase, read_stores, stored, FetchPrecondition, EventPrecondition}
use Rattle.rules.specs.declared.state.Size.{Size}
use Rattle.rules.specs.declared.state.Places.{Places}
use Rattle.rules.specs.declared.state.Counts.{Counts}
use Rattle.rules.specs.declared.state.Refusal.TheVariants.{Shape}
use Rattle.rules.specs.declared.state.Answer.TheVariants as answer
use Rattle.rules.specs.declared.moves.Fetch.{Fetch}
use Rattle.rules.specs.declared.moves.Fetch.TheVariants.{Event, Empty, Busy, Find, Prepare, Swap, Miss}
use Rattle.ring.specs.declared.turn.Turn.{Turn}
use Rattle.rules.specs.declared.state.ReaderPhase.{ReaderPhase}
use Rattle.rules.specs.declared.state.Answer.{Answer}

-- ---- Events that stand one after the other

abbrev pub smaller : ℕ → ℕ → ℕ
smaller a b = cond (ltb a b) a b

-- how many there are: the least of those on the reader page, those that there is space for, and those that the counts allow. The one that makes
-- handed + overwritten more than committed is allowed, and is the last: it leaves the ring out of shape.
abbrev pub event_count : Fetch → Places → Counts → List ℕ → ℕ → ℕ
event_count Event places counts used space =
    smaller (smaller (read_limit places used - places.position) space) (counts.committed + 1 - (counts.handed + counts.overwritten))
event_count Empty places counts used space = 0
event_count Busy places counts used space = 0
event_count (Find p h) places counts used space = 0
event_count (Prepare p h) places counts used space = 0
event_count (Swap p h) places counts used space = 0
event_count Miss places counts used space = 0

-- the reading i slots after a slot, as it is stored, and so many of them
abbrev pub stored_event : List ℕ → List ℕ → ℕ → ℕ → ℕ
stored_event numbers values from i = event_number (reading (get_or numbers (from + i) 0)) (get_or values (from + i) 0)

abbrev pub events_from : List ℕ → List ℕ → ℕ → ℕ → List ℕ
events_from numbers values from count = tabulate count (stored_event numbers values from)

-- the places before the last Read of the turn
abbrev pub places_before : Places → ℕ → Places
places_before places count = places_position (places.position + (count - 1)) places

-- ---- how many Reads may still be made before the next Event

abbrev pub left_after : Fetch → ℕ → ℕ
left_after Event left = most_in_row
left_after Empty left = 0
left_after Busy left = 0
left_after (Find p h) left = left - 1
left_after (Prepare p h) left = left - 1
left_after (Swap p h) left = left - 1
left_after Miss left = left - 1

-- ---- the turn

abbrev pub turn : Fetch → ℕ → ℕ → Size → Places → Counts → ReaderPhase → List ℕ → List ℕ → List ℕ → Turn
turn f count left size places counts reader words numbers values =
    record {
      count = count;
      from = slot_index size places.reader places.position;
      last = Some (read_answer f size (places_before places count) numbers values);
      left = left_after f left;
      handed = counts.handed + count;
      places = read_places f (places_before places count);
      reader = read_phase f reader;
      stores = read_stores f places.reader words;
    }

abbrev pub turn_by : ℕ → ℕ → Size → Places → Counts → ReaderPhase → List ℕ → List ℕ → List ℕ → List ℕ → Turn
turn_by left space size places counts reader words used numbers values =
    turn (plan_reader reader size places words used) (event_count (plan_reader reader size places words used) places counts used space)
    left size places counts reader words numbers values

abbrev pub turn_of : State → ℕ → ℕ → Turn
turn_of r left space = turn_by left space r.size r.places r.counts r.reader r.words r.used r.numbers r.values

-- the pieces stored
abbrev pub turned : Turn → State → State
turned t r =
    with_reader t.reader
    (with_places t.places (with_handed t.handed (stored t.stores r)))

-- the last answer where the turns end: a Read that is still due is refused, since the ring is out of shape
abbrev pub last_after : Bool → Option Answer → Option Answer
last_after due last = cond due (Some (answer.Refused Shape)) last

-- ---- what the code asks of the pieces: a ring in shape has it (`turn-precondition`)

pub record CountPrecondition (f : Fetch) (places : Places) (counts : Counts) (used : List ℕ) : Type 0 where
  pub page : places.reader.0 ≤ most_pages
  pub agree : counts.handed + counts.overwritten ≤ counts.committed
  pub committed : counts.committed ≤ most_count
  pub here : f ≡ Event → places.position < read_limit places used

pub record TurnPrecondition (left space : ℕ) (size : Size) (places : Places) (counts : Counts) (reader : ReaderPhase) (words used : List ℕ) : Type 0 where
  pub some : 0 < left
  pub pages : size.pages ≤ most_pages
  pub page : places.reader.0 ≤ most_pages
  pub position : places.position ≤ most_slots
  pub phase : reader_fits reader size ≡ true
  pub fetch : FetchPrecondition (plan_reader reader size places words used)
  pub events : CountPrecondition (plan_reader reader size places words used) places counts used
  pub few : places.position + event_count (plan_reader reader size places words used) places counts used space ≤ most_slots
  pub event :
      EventPrecondition (plan_reader reader size places words used) size
      (places_before places (event_count (plan_reader reader size places words used) places counts used space))
