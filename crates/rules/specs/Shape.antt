-- In shape: a definition for each clause of the sentence "In shape means", then all of them. "Nothing more is tested."
-- Assumes nothing.
use Rattle.std.specs.Prelude.{Bool, true, ◌&&◌, not, List, [], ◌∷◌, ℕ, ◌+◌, eqb, leb, ltb}
use Rattle.rules.specs.Limits.{least_pages, most_pages, least_slots, most_slots, most_depth, most_count, stop_mode, both_flags}
use Rattle.std.specs.List.{list_all}
use Rattle.rules.specs.Lists.{every, all_below}
use Rattle.rules.specs.State.{page, word_at, used_at, record_at, State}
use Rattle.rules.specs.Words.{page_in, flag_in}
use Rattle.rules.specs.declared.state.PageNo.{PageNo}
use Rattle.rules.specs.declared.state.Size.{Size}
use Rattle.rules.specs.declared.state.Places.{Places}
use Rattle.rules.specs.declared.state.Counts.{Counts}
use Rattle.rules.specs.declared.state.WriterPhase.{WriterPhase}
use Rattle.rules.specs.declared.state.WriterPhase.TheVariants.{Want, Mark, Promote, Clear, Push, Held, Filled}
use Rattle.rules.specs.declared.state.Writer.{Writer}
use Rattle.rules.specs.declared.state.ReaderPhase.{ReaderPhase}
use Rattle.rules.specs.declared.state.ReaderPhase.TheVariants.{Idle, Found, Ready}

-- "N, S and mode as above"
abbrev pub size_tests : Size → List Bool
size_tests s =
    leb least_pages s.pages
    ∷ leb s.pages most_pages
    ∷ leb least_slots s.slots
    ∷ leb s.slots most_slots
    ∷ leb s.mode stop_mode
    ∷ []

abbrev pub size_fits : Size → Bool
size_fits s = every (size_tests s)

-- "every page named by the ring ... is at most N", "the commit index and the read position at most S"
abbrev pub place_tests : Places → Size → List Bool
place_tests p s =
    leb p.reader.0 s.pages
    ∷ leb p.tail.0 s.pages
    ∷ leb p.commit.0 s.pages
    ∷ leb p.index s.slots
    ∷ leb p.position s.slots
    ∷ []

abbrev pub places_fit : Places → Size → Bool
places_fit p s = every (place_tests p s)

-- "every count ... at most 4,294,967,295". A count past it is kept: "If a step takes a count past its limit there, the larger count is kept
-- as it is, and the next action gets 1."
abbrev pub small_tests : Counts → List Bool
small_tests c =
    leb c.begun most_count
    ∷ leb c.taken most_count
    ∷ leb c.committed most_count
    ∷ leb c.handed most_count
    ∷ leb c.overwritten most_count
    ∷ leb c.dropped most_count
    ∷ []

abbrev pub counts_small : Counts → Bool
counts_small c = every (small_tests c)

-- "handed + overwritten ≤ committed ≤ taken; taken + dropped ≤ begun"
abbrev pub agree_tests : Counts → List Bool
agree_tests c =
    leb (c.handed + c.overwritten) c.committed
    ∷ leb c.committed c.taken
    ∷ leb (c.taken + c.dropped) c.begun
    ∷ []

abbrev pub counts_agree : Counts → Bool
counts_agree c = every (agree_tests c)

abbrev pub counts_fit : Counts → Bool
counts_fit c = counts_small c && counts_agree c

-- two pages, each at most n
abbrev pub page_tests : PageNo → PageNo → ℕ → List Bool
page_tests p q n = leb p.0 n ∷ leb q.0 n ∷ []

abbrev pub pages_fit : PageNo → PageNo → ℕ → Bool
pages_fit p q n = every (page_tests p q n)

-- the page of a held slot at most N, and "a held slot of a record below the depth below S"
abbrev pub held_tests : PageNo → ℕ → Size → List Bool
held_tests p slot s = leb p.0 s.pages ∷ ltb slot s.slots ∷ []

abbrev pub held_fits : PageNo → ℕ → Size → Bool
held_fits p slot s = every (held_tests p slot s)

-- "every page named ... by a record below the depth"
abbrev pub writer_fits : WriterPhase → Size → Bool
writer_fits Want s = true
writer_fits (Mark t n) s = pages_fit t n s.pages
writer_fits (Promote t n own) s = pages_fit t n s.pages
writer_fits (Clear t n) s = pages_fit t n s.pages
writer_fits (Push t n) s = pages_fit t n s.pages
writer_fits (Held p slot) s = held_fits p slot s
writer_fits Filled s = true

-- "every page named ... by the reader's phase"
abbrev pub reader_fits : ReaderPhase → Size → Bool
reader_fits Idle s = true
reader_fits (Found p h) s = pages_fit p h s.pages
reader_fits (Ready p h) s = pages_fit p h s.pages

abbrev pub record_fits_at : List Writer → Size → ℕ → Bool
record_fits_at stack s i = writer_fits (record_at stack i).phase s

-- "depth at most 4", and each record below it fits
abbrev pub stack_fits : List Writer → ℕ → Size → Bool
stack_fits stack depth s = leb depth most_depth && all_below depth (record_fits_at stack s)

-- "every page named ... by a word of pages 0..N", "no flag 3 in those words"
abbrev pub word_fits : ℕ → ℕ → Bool
word_fits w n = leb (page_in w).0 n && not (eqb (flag_in w) both_flags)

abbrev pub word_fits_at : List ℕ → ℕ → ℕ → Bool
word_fits_at words n p = word_fits (word_at words (page p)) n

abbrev pub words_fit : List ℕ → ℕ → Bool
words_fit words n = all_below (n + 1) (word_fits_at words n)

-- "the used of pages 0..N ... at most S"
abbrev pub used_fits_at : List ℕ → ℕ → ℕ → Bool
used_fits_at used slots p = leb (used_at used (page p)) slots

abbrev pub used_fit : List ℕ → ℕ → ℕ → Bool
used_fit used n slots = all_below (n + 1) (used_fits_at used slots)

-- "every slot's number, at most 4,294,967,295": of every slot that the ring has room for
abbrev pub number_fits : ℕ → Bool
number_fits number = leb number most_count

unfoldable pub numbers_fit : List ℕ → Bool
numbers_fit numbers = list_all number_fits numbers

-- where things stand: all of it but the counts and the slots' numbers
abbrev pub layout_tests : Size → Places → ReaderPhase → List Writer → ℕ → List ℕ → List ℕ → List Bool
layout_tests size places reader stack depth words used =
    size_fits size
    ∷ places_fit places size
    ∷ reader_fits reader size
    ∷ stack_fits stack depth size
    ∷ words_fit words size.pages
    ∷ used_fit used size.pages size.slots
    ∷ []

unfoldable pub layout_fits : Size → Places → ReaderPhase → List Writer → ℕ → List ℕ → List ℕ → Bool
layout_fits size places reader stack depth words used = every (layout_tests size places reader stack depth words used)

-- all of it but the slots' numbers
abbrev pub ring_fits : State → Bool
ring_fits r = counts_fit r.counts && layout_fits r.size r.places r.reader r.stack r.depth r.words r.used

-- "In shape"
unfoldable pub in_shape : State → Bool
in_shape r = ring_fits r && numbers_fit r.numbers
