-- The parts of a ring: its state, one maker for each record, one setter for each field that an action changes, what stands where, and a ring of
-- zeros. The only record literals of a state, its places and its counts are the makers here. "Parts of a ring".
-- Assumes nothing.
use Rattle.std.specs.Prelude.{List, ℕ, ◌+◌, ◌-◌, ◌*◌, get_or, set, replicate}
use Rattle.rules.specs.Limits.{page_room, slot_room, most_depth}
use Rattle.rules.specs.declared.state.PageNo.{PageNo}
use Rattle.rules.specs.declared.state.ReadingNo.{ReadingNo}
use Rattle.rules.specs.declared.state.Size.{Size}
use Rattle.rules.specs.declared.state.Places.{Places}
use Rattle.rules.specs.declared.state.Counts.{Counts}
use Rattle.rules.specs.declared.state.WriterPhase.{WriterPhase}
use Rattle.rules.specs.declared.state.WriterPhase.TheVariants.{Want}
use Rattle.rules.specs.declared.state.Writer.{Writer}
use Rattle.rules.specs.declared.state.ReaderPhase.{ReaderPhase}
use Rattle.rules.specs.declared.state.ReaderPhase.TheVariants.{Idle}

-- ---- the state

-- A ring as the rules see it. It has no memory of its own: code that holds one says which state it is, as `state_of` does for the ring of crate ring.
pub record State : Type 0 where
  pub size : Size
  -- reader page, tail page, commit page with the commit index, and the read position
  pub places : Places
  pub counts : Counts
  -- how many records of the stack are in use
  pub depth : ℕ
  -- what the reader does next
  pub reader : ReaderPhase
  -- writer records, the outermost first
  pub stack : List Writer
  -- for each page, its link word, and how many of its slots are reserved
  pub words : List ℕ
  pub used : List ℕ
  -- for each slot, a reading's number and its value; slot s of page p stands at p * S + s
  pub numbers : List ℕ
  pub values : List ℕ

-- ---- one maker for each record: a new field is added to its maker and to the setters below

abbrev pub page : ℕ → PageNo
page n = record { 0 = n }

abbrev pub reading : ℕ → ReadingNo
reading n = record { 0 = n }

abbrev pub size_of : ℕ → ℕ → ℕ → Size
size_of pages slots mode = record { pages = pages; slots = slots; mode = mode }

abbrev pub writer : ℕ → WriterPhase → Writer
writer v phase = record { value = v; phase = phase }

-- what stands in a place of the stack that no writer has
abbrev pub no_writer : Writer
no_writer = writer 0 Want

abbrev pub places_of : PageNo → PageNo → PageNo → ℕ → ℕ → Places
places_of reader tail commit index position = record { reader = reader; tail = tail; commit = commit; index = index; position = position }

abbrev pub counts_of : ℕ → ℕ → ℕ → ℕ → ℕ → ℕ → Counts
counts_of begun taken committed handed overwritten dropped =
    record { begun = begun; taken = taken; committed = committed; handed = handed; overwritten = overwritten; dropped = dropped }

abbrev pub state_with : Size → Places → Counts → ℕ → ReaderPhase → List Writer → List ℕ → List ℕ → List ℕ → List ℕ → State
state_with size places counts depth reader stack words used numbers values =
    record {
      size = size;
      places = places;
      counts = counts;
      depth = depth;
      reader = reader;
      stack = stack;
      words = words;
      used = used;
      numbers = numbers;
      values = values;
    }

-- ---- one setter for each field of places, counts and state

abbrev pub places_reader : PageNo → Places → Places
places_reader x p = places_of x p.tail p.commit p.index p.position

abbrev pub places_tail : PageNo → Places → Places
places_tail x p = places_of p.reader x p.commit p.index p.position

abbrev pub places_commit : PageNo → Places → Places
places_commit x p = places_of p.reader p.tail x p.index p.position

abbrev pub places_index : ℕ → Places → Places
places_index x p = places_of p.reader p.tail p.commit x p.position

abbrev pub places_position : ℕ → Places → Places
places_position x p = places_of p.reader p.tail p.commit p.index x

abbrev pub counts_begun : ℕ → Counts → Counts
counts_begun x c = counts_of x c.taken c.committed c.handed c.overwritten c.dropped

abbrev pub counts_taken : ℕ → Counts → Counts
counts_taken x c = counts_of c.begun x c.committed c.handed c.overwritten c.dropped

abbrev pub counts_committed : ℕ → Counts → Counts
counts_committed x c = counts_of c.begun c.taken x c.handed c.overwritten c.dropped

abbrev pub counts_handed : ℕ → Counts → Counts
counts_handed x c = counts_of c.begun c.taken c.committed x c.overwritten c.dropped

abbrev pub counts_overwritten : ℕ → Counts → Counts
counts_overwritten x c = counts_of c.begun c.taken c.committed c.handed x c.dropped

abbrev pub counts_dropped : ℕ → Counts → Counts
counts_dropped x c = counts_of c.begun c.taken c.committed c.handed c.overwritten x

abbrev pub with_places : Places → State → State
with_places x s = state_with s.size x s.counts s.depth s.reader s.stack s.words s.used s.numbers s.values

abbrev pub with_counts : Counts → State → State
with_counts x s = state_with s.size s.places x s.depth s.reader s.stack s.words s.used s.numbers s.values

abbrev pub with_depth : ℕ → State → State
with_depth x s = state_with s.size s.places s.counts x s.reader s.stack s.words s.used s.numbers s.values

abbrev pub with_reader : ReaderPhase → State → State
with_reader x s = state_with s.size s.places s.counts s.depth x s.stack s.words s.used s.numbers s.values

abbrev pub with_stack : List Writer → State → State
with_stack x s = state_with s.size s.places s.counts s.depth s.reader x s.words s.used s.numbers s.values

abbrev pub with_words : List ℕ → State → State
with_words x s = state_with s.size s.places s.counts s.depth s.reader s.stack x s.used s.numbers s.values

abbrev pub with_used : List ℕ → State → State
with_used x s = state_with s.size s.places s.counts s.depth s.reader s.stack s.words x s.numbers s.values

abbrev pub with_numbers : List ℕ → State → State
with_numbers x s = state_with s.size s.places s.counts s.depth s.reader s.stack s.words s.used x s.values

abbrev pub with_values : List ℕ → State → State
with_values x s = state_with s.size s.places s.counts s.depth s.reader s.stack s.words s.used s.numbers x

-- ---- the same, as changes of the whole ring

abbrev pub with_reader_page : PageNo → State → State
with_reader_page x r = with_places (places_reader x r.places) r

abbrev pub with_tail : PageNo → State → State
with_tail x r = with_places (places_tail x r.places) r

abbrev pub with_commit_page : PageNo → State → State
with_commit_page x r = with_places (places_commit x r.places) r

abbrev pub with_commit_index : ℕ → State → State
with_commit_index x r = with_places (places_index x r.places) r

abbrev pub with_position : ℕ → State → State
with_position x r = with_places (places_position x r.places) r

abbrev pub with_begun : ℕ → State → State
with_begun x r = with_counts (counts_begun x r.counts) r

abbrev pub with_taken : ℕ → State → State
with_taken x r = with_counts (counts_taken x r.counts) r

abbrev pub with_committed : ℕ → State → State
with_committed x r = with_counts (counts_committed x r.counts) r

abbrev pub with_handed : ℕ → State → State
with_handed x r = with_counts (counts_handed x r.counts) r

abbrev pub with_overwritten : ℕ → State → State
with_overwritten x r = with_counts (counts_overwritten x r.counts) r

abbrev pub with_dropped : ℕ → State → State
with_dropped x r = with_counts (counts_dropped x r.counts) r

-- ---- what stands where

abbrev pub word_at : List ℕ → PageNo → ℕ
word_at words p = get_or words p.0 0

abbrev pub used_at : List ℕ → PageNo → ℕ
used_at used p = get_or used p.0 0

-- where slot `slot` of page p stands in the arrays of slots
abbrev pub slot_index : Size → PageNo → ℕ → ℕ
slot_index size p slot = p.0 * size.slots + slot

abbrev pub number_at : State → PageNo → ℕ → ℕ
number_at r p slot = get_or r.numbers (slot_index r.size p slot) 0

abbrev pub value_at : State → PageNo → ℕ → ℕ
value_at r p slot = get_or r.values (slot_index r.size p slot) 0

abbrev pub record_at : List Writer → ℕ → Writer
record_at stack i = get_or stack i no_writer

-- "Write moves the top record by one step."
abbrev pub top : State → Writer
top r = record_at r.stack (r.depth - 1)

-- ---- one element changed

abbrev pub set_word : PageNo → ℕ → State → State
set_word p word r = with_words (set r.words p.0 word) r

abbrev pub set_used : PageNo → ℕ → State → State
set_used p k r = with_used (set r.used p.0 k) r

abbrev pub set_number : PageNo → ℕ → ℕ → State → State
set_number p slot number r = with_numbers (set r.numbers (slot_index r.size p slot) number) r

abbrev pub set_value : PageNo → ℕ → ℕ → State → State
set_value p slot value r = with_values (set r.values (slot_index r.size p slot) value) r

abbrev pub set_record : ℕ → Writer → State → State
set_record i w r = with_stack (set r.stack i w) r

-- the top record's phase, its value kept
abbrev pub set_phase : WriterPhase → State → State
set_phase phase r = set_record (r.depth - 1) (writer (top r).value phase) r

-- the top record popped: "A popped record's place is reset to WANT with value 0."
abbrev pub pop : State → State
pop r = with_depth (r.depth - 1) (set_record (r.depth - 1) no_writer r)

-- ---- a ring of zeros, of the size given

abbrev pub blank : Size → State
blank size =
    state_with size (places_of (page 0) (page 0) (page 0) 0 0) (counts_of 0 0 0 0 0 0) 0 Idle (replicate most_depth no_writer)
    (replicate page_room 0)
    (replicate page_room 0)
    (replicate slot_room 0)
    (replicate slot_room 0)
