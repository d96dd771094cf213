-- What an action of any kind leaves, as one record of pieces, for code that keeps the ring in one place: the pieces of specs/Pieces put together. That storing them
-- is the action is `change-acts` (proofs/change/Laws), for a ring in shape.
-- Assumes nothing.
use Rattle.std.specs.Prelude.{◌≡◌, true, List, ℕ, ◌+◌, ◌-◌, ◌≤◌, set, Result, Ok, Err}
use Rattle.rules.specs.Limits.{most_pages, most_slots, most_depth, most_count}
use Rattle.rules.specs.State.{writer, counts_begun, counts_handed, with_stack, with_counts, with_places, with_depth, with_reader, top, State}
use Rattle.rules.specs.Refusals.{begin_verdict, write_verdict}
use Rattle.rules.specs.Shape.{writer_fits, reader_fits}
use Rattle.rules.specs.Write.{plan_phase}
use Rattle.rules.specs.Read.{plan_reader}
use Rattle.ring.specs.Pieces.{answer_after, counts_after, places_after, depth_after, record_after, stores_after, read_answer, read_handed, read_places, read_phase, read_stores, stored, MovePrecondition, FetchPrecondition, EventPrecondition}
use Rattle.rules.specs.declared.state.Size.{Size}
use Rattle.rules.specs.declared.state.Places.{Places}
use Rattle.rules.specs.declared.state.Counts.{Counts}
use Rattle.rules.specs.declared.state.WriterPhase.TheVariants.{Want}
use Rattle.rules.specs.declared.state.Writer.{Writer}
use Rattle.rules.specs.declared.state.Answer.{Answer}
use Rattle.rules.specs.declared.state.Answer.TheVariants as answer
use Rattle.rules.specs.declared.state.Action.{Action}
use Rattle.rules.specs.declared.state.Action.TheVariants.{Begin, Write, Read}
use Rattle.rules.specs.declared.moves.Move.{Move}
use Rattle.rules.specs.declared.moves.Fetch.{Fetch}
use Rattle.ring.specs.declared.pieces.Stores.{Stores}
use Rattle.ring.specs.declared.pieces.Stores.TheVariants.{Same}
use Rattle.ring.specs.declared.change.Change.{Change}
use Rattle.rules.specs.declared.state.ReaderPhase.{ReaderPhase}
use Rattle.rules.specs.declared.state.Refusal.{Refusal}

abbrev pub change : Answer → ℕ → Writer → Counts → Places → ℕ → ReaderPhase → Stores → Change
change a at w counts places depth reader stores =
    record {
      answer = a;
      at = at;
      writer = w;
      counts = counts;
      places = places;
      depth = depth;
      reader = reader;
      stores = stores;
    }

-- the place of the top record; 0 for an empty stack
abbrev pub top_at : ℕ → ℕ
top_at depth = depth - 1

-- an answer, and each piece as it was; w is the top record
abbrev pub unchanged : Answer → Writer → Places → Counts → ℕ → ReaderPhase → Change
unchanged a w places counts depth reader = change a (top_at depth) w counts places depth reader Same

-- a refusal changes nothing
abbrev pub judged_change : Result (Unit {0}) Refusal → Writer → Places → Counts → ℕ → ReaderPhase → Change → Change
judged_change (Ok tt) w places counts depth reader c = c
judged_change (Err why) w places counts depth reader c = unchanged (answer.Refused why) w places counts depth reader

-- ---- by the action

abbrev pub begun_change : ℕ → Places → Counts → ℕ → ReaderPhase → Change
begun_change v places counts depth reader =
    change (answer.Begun (depth + 1)) depth (writer v Want) (counts_begun (counts.begun + 1) counts) places (depth + 1) reader Same

abbrev pub begin_change : ℕ → Writer → Places → Counts → ℕ → ReaderPhase → Change
begin_change v w places counts depth reader =
    judged_change (begin_verdict true depth counts.begun) w places counts depth reader (begun_change v places counts depth reader)

abbrev pub moved_change : Move → Writer → Size → Places → Counts → ℕ → ReaderPhase → List ℕ → List ℕ → Change
moved_change m w size places counts depth reader words used =
    change (answer_after m counts.taken) (top_at depth) (record_after m w.value) (counts_after m counts used) (places_after m places used)
    (depth_after m depth) reader (stores_after m size counts.taken w.value words)

abbrev pub write_change : Writer → Size → Places → Counts → ℕ → ReaderPhase → List ℕ → List ℕ → Change
write_change w size places counts depth reader words used =
    judged_change (write_verdict true depth) w places counts depth reader
    (moved_change (plan_phase w.phase size places depth words used) w size places counts depth reader words used)

abbrev pub fetched_change : Fetch → Writer → Size → Places → Counts → ℕ → ReaderPhase → List ℕ → List ℕ → List ℕ → Change
fetched_change f w size places counts depth reader words numbers values =
    change (read_answer f size places numbers values) (top_at depth) w (counts_handed (read_handed f counts.handed) counts) (read_places f places)
    depth (read_phase f reader) (read_stores f places.reader words)

abbrev pub read_change : Writer → Size → Places → Counts → ℕ → ReaderPhase → List ℕ → List ℕ → List ℕ → List ℕ → Change
read_change w size places counts depth reader words used numbers values =
    fetched_change (plan_reader reader size places words used) w size places counts depth reader words numbers values

abbrev pub change_by : Action → Writer → Size → Places → Counts → ℕ → ReaderPhase → List ℕ → List ℕ → List ℕ → List ℕ → Change
change_by (Begin v) w size places counts depth reader words used numbers values = begin_change v w places counts depth reader
change_by Write w size places counts depth reader words used numbers values = write_change w size places counts depth reader words used
change_by Read w size places counts depth reader words used numbers values = read_change w size places counts depth reader words used numbers values

-- ---- on a ring

abbrev pub change_of : State → Action → Change
change_of r a =
    change_by a (top r) r.size r.places r.counts r.depth r.reader r.words r.used r.numbers r.values

-- the pieces stored
abbrev pub changed : Change → State → State
changed c r =
    with_stack (set r.stack c.at c.writer)
    (with_counts c.counts (with_places c.places (with_depth c.depth (with_reader c.reader (stored c.stores r)))))

-- ---- what the code asks of the pieces: a ring in shape has it (`change-precondition`)

pub record MovedPrecondition (m : Move) (places : Places) (counts : Counts) (depth : ℕ) : Type 0 where
  pub move : MovePrecondition m
  pub tail : places.tail.0 ≤ most_pages
  pub taken : counts.taken ≤ most_count
  pub overwritten : counts.overwritten ≤ most_count
  pub dropped : counts.dropped ≤ most_count
  pub somebody : 1 ≤ depth

pub record WritePrecondition (w : Writer) (size : Size) (places : Places) (counts : Counts) (depth : ℕ) (words used : List ℕ) : Type 0 where
  pub pages : size.pages ≤ most_pages
  pub tail : places.tail.0 ≤ most_pages
  -- where there is a writer
  pub phase : (depth ≡ 0 → ⊥) → writer_fits w.phase size ≡ true
  pub moved : (depth ≡ 0 → ⊥) → MovedPrecondition (plan_phase w.phase size places depth words used) places counts depth

pub record ReadPrecondition (size : Size) (places : Places) (counts : Counts) (reader : ReaderPhase) (words used : List ℕ) : Type 0 where
  pub pages : size.pages ≤ most_pages
  pub page : places.reader.0 ≤ most_pages
  pub position : places.position ≤ most_slots
  pub handed : counts.handed ≤ most_count
  pub phase : reader_fits reader size ≡ true
  pub fetch : FetchPrecondition (plan_reader reader size places words used)
  pub event : EventPrecondition (plan_reader reader size places words used) size places

abbrev pub ChangePrecondition : Action → Writer → Size → Places → Counts → ℕ → ReaderPhase → List ℕ → List ℕ → Type 0
ChangePrecondition (Begin v) w size places counts depth reader words used = (depth ≤ most_depth) × (counts.begun ≤ most_count)
ChangePrecondition Write w size places counts depth reader words used = WritePrecondition w size places counts depth words used
ChangePrecondition Read w size places counts depth reader words used = ReadPrecondition size places counts reader words used
