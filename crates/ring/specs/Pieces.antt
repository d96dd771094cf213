-- What an action leaves in each piece of the ring, by what was decided: for code that stores a piece at a time. A piece is what the rule of
-- a Write or a Read leaves of it on a ring that has the pieces given and is blank elsewhere. The cells of the arrays alone are listed again,
-- since a store names a place (`stores_after`, `read_stores`). That all of these together are the rule on the whole ring is `moved-pieces` and
-- `fetched-pieces` (proofs/pieces/Laws).
-- Assumes nothing.
use Rattle.std.specs.Prelude.{◌≡◌, List, ℕ, ◌+◌, ◌≤◌, ◌<◌, set}
use Rattle.rules.specs.Limits.{most_pages, most_slots, slot_room, normal_flag, header_flag, update_flag}
use Rattle.rules.specs.State.{reading, size_of, writer, with_places, with_counts, with_depth, with_reader, with_words, with_used, with_numbers, with_values, with_taken, with_handed, word_at, slot_index, record_at, set_record, blank, State}
use Rattle.rules.specs.Words.{page_in, word_of}
use Rattle.rules.specs.Write.{moved}
use Rattle.rules.specs.Read.{fetched}
use Rattle.rules.specs.declared.state.PageNo.{PageNo}
use Rattle.rules.specs.declared.state.Size.{Size}
use Rattle.rules.specs.declared.state.Places.{Places}
use Rattle.rules.specs.declared.state.Counts.{Counts}
use Rattle.rules.specs.declared.state.WriterPhase.TheVariants.{Want}
use Rattle.rules.specs.declared.state.Writer.{Writer}
use Rattle.rules.specs.declared.state.Answer.{Answer}
use Rattle.rules.specs.declared.moves.Move.{Move}
use Rattle.rules.specs.declared.moves.Move.TheVariants.{Become, Reserve, Drop, DropCommit, Mark, Promote, Clear, Push, Fill, Pend, Commit}
use Rattle.rules.specs.declared.moves.Fetch.{Fetch}
use Rattle.rules.specs.declared.moves.Fetch.TheVariants as fetch
use Rattle.ring.specs.declared.pieces.Stores.{Stores}
use Rattle.ring.specs.declared.pieces.Stores.TheVariants as stores
use Rattle.rules.specs.declared.state.ReaderPhase.{ReaderPhase}

-- a ring of zeros; no piece below depends on its size
abbrev pub empty : State
empty = blank (size_of 0 0 0)

-- ---- Write

abbrev pub answer_after : Move → ℕ → Answer
answer_after m taken = (moved m (with_taken taken empty)).answer

abbrev pub counts_after : Move → Counts → List ℕ → Counts
counts_after m counts used = (moved m (with_counts counts (with_used used empty))).state.counts

abbrev pub places_after : Move → Places → List ℕ → Places
places_after m places used = (moved m (with_places places (with_used used empty))).state.places

abbrev pub depth_after : Move → ℕ → ℕ
depth_after m depth = (moved m (with_depth depth empty)).state.depth

-- the top record, of a writer with this value
abbrev pub record_after : Move → ℕ → Writer
record_after m value = record_at (moved m (with_depth 1 (set_record 0 (writer value Want) empty))).state.stack 0

-- the cells that the rule stores to: at most two, each named
abbrev pub stores_after : Move → Size → ℕ → ℕ → List ℕ → Stores
stores_after (Become next a) size taken value words = stores.Same
stores_after (Reserve t slot) size taken value words = stores.Number (slot_index size t slot) (reading taken) t (slot + 1)
stores_after Drop size taken value words = stores.Same
stores_after DropCommit size taken value words = stores.Same
stores_after (Mark t n) size taken value words = stores.Take t (word_of n update_flag) n
stores_after (Promote n next) size taken value words = stores.Word n (word_of (page_in (word_at words n)) header_flag)
stores_after (Clear t n) size taken value words = stores.Word t (word_of n normal_flag)
stores_after (Push n) size taken value words = stores.Same
stores_after (Fill p slot) size taken value words = stores.Value (slot_index size p slot) value
stores_after Pend size taken value words = stores.Same
stores_after Commit size taken value words = stores.Same

-- ---- Read

-- the slot that an Event tells is named by the size and the places
abbrev pub read_answer : Fetch → Size → Places → List ℕ → List ℕ → Answer
read_answer f size places numbers values =
    (fetched f (with_places places (with_numbers numbers (with_values values (blank size))))).answer

abbrev pub read_handed : Fetch → ℕ → ℕ
read_handed f handed = (fetched f (with_handed handed empty)).state.counts.handed

abbrev pub read_places : Fetch → Places → Places
read_places f places = (fetched f (with_places places empty)).state.places

abbrev pub read_phase : Fetch → ReaderPhase → ReaderPhase
read_phase f reader = (fetched f (with_reader reader empty)).state.reader

-- the cells that the rule stores to; `reader` is the reader page
abbrev pub read_stores : Fetch → PageNo → List ℕ → Stores
read_stores fetch.Event reader words = stores.Same
read_stores fetch.Empty reader words = stores.Same
read_stores fetch.Busy reader words = stores.Same
read_stores (fetch.Find p h) reader words = stores.Same
read_stores (fetch.Prepare p h) reader words = stores.Word reader (word_of (page_in (word_at words h)) header_flag)
read_stores (fetch.Swap p h) reader words = stores.Take p (word_of reader normal_flag) reader
read_stores fetch.Miss reader words = stores.Same

-- ---- the cells stored to, and what the code asks of what is decided

-- an array at a time
abbrev pub words_stored : Stores → List ℕ → List ℕ
words_stored stores.Same words = words
words_stored (stores.Number at number t k) words = words
words_stored (stores.Take t word n) words = set words t.0 word
words_stored (stores.Word p word) words = set words p.0 word
words_stored (stores.Value at value) words = words

abbrev pub used_stored : Stores → List ℕ → List ℕ
used_stored stores.Same used = used
used_stored (stores.Number at number t k) used = set used t.0 k
used_stored (stores.Take t word n) used = set used n.0 0
used_stored (stores.Word p word) used = used
used_stored (stores.Value at value) used = used

abbrev pub numbers_stored : Stores → List ℕ → List ℕ
numbers_stored stores.Same numbers = numbers
numbers_stored (stores.Number at number t k) numbers = set numbers at number.0
numbers_stored (stores.Take t word n) numbers = numbers
numbers_stored (stores.Word p word) numbers = numbers
numbers_stored (stores.Value at value) numbers = numbers

abbrev pub values_stored : Stores → List ℕ → List ℕ
values_stored stores.Same values = values
values_stored (stores.Number at number t k) values = values
values_stored (stores.Take t word n) values = values
values_stored (stores.Word p word) values = values
values_stored (stores.Value at value) values = set values at value

-- all four
abbrev pub stored : Stores → State → State
stored s r =
    with_words (words_stored s r.words)
    (with_used (used_stored s r.used) (with_numbers (numbers_stored s r.numbers) (with_values (values_stored s r.values) r)))

-- the cells named are within the arrays
abbrev pub StoresPrecondition : Stores → Type 0
StoresPrecondition stores.Same = Unit {0}
StoresPrecondition (stores.Number at number t used) = (at < slot_room) × (t.0 ≤ most_pages)
StoresPrecondition (stores.Take t word n) = (t.0 ≤ most_pages) × (n.0 ≤ most_pages)
StoresPrecondition (stores.Word p word) = p.0 ≤ most_pages
StoresPrecondition (stores.Value at value) = at < slot_room

-- the pages and slots that a move names are such as the ring has room for: what the code that reads and stores them asks
abbrev pub MovePrecondition : Move → Type 0
MovePrecondition (Become next a) = Unit {0}
MovePrecondition (Reserve t slot) = (t.0 ≤ most_pages) × (slot < most_slots)
MovePrecondition Drop = Unit {0}
MovePrecondition DropCommit = Unit {0}
MovePrecondition (Mark t n) = (t.0 ≤ most_pages) × (n.0 ≤ most_pages)
MovePrecondition (Promote n next) = n.0 ≤ most_pages
MovePrecondition (Clear t n) = (t.0 ≤ most_pages) × (n.0 ≤ most_pages)
MovePrecondition (Push n) = n.0 ≤ most_pages
MovePrecondition (Fill p slot) = (p.0 ≤ most_pages) × (slot < most_slots)
MovePrecondition Pend = Unit {0}
MovePrecondition Commit = Unit {0}

-- the pages that a Read names, in the same way
abbrev pub FetchPrecondition : Fetch → Type 0
FetchPrecondition fetch.Event = Unit {0}
FetchPrecondition fetch.Empty = Unit {0}
FetchPrecondition fetch.Busy = Unit {0}
FetchPrecondition (fetch.Find p h) = Unit {0}
FetchPrecondition (fetch.Prepare p h) = h.0 ≤ most_pages
FetchPrecondition (fetch.Swap p h) = p.0 ≤ most_pages
FetchPrecondition fetch.Miss = Unit {0}

-- the slot that an Event tells is one that the ring has room for
abbrev pub EventPrecondition : Fetch → Size → Places → Type 0
EventPrecondition f size places = f ≡ fetch.Event → slot_index size places.reader places.position < slot_room
