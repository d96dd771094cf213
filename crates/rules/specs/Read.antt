-- Read: which rule applies to the reader, what each rule does, and the action. "Read".
-- The first part reads only what decides; the second changes the ring.
-- Assumes nothing.
use Rattle.std.specs.Prelude.{cond, List, [], ◌∷◌, ℕ, ◌+◌, ltb, Option, Some, None}
use Rattle.rules.specs.Limits.{normal_flag, header_flag}
use Rattle.rules.specs.Lists.{first}
use Rattle.rules.specs.State.{reading, word_at, used_at, number_at, value_at, with_reader_page, with_position, with_handed, with_reader, set_word, set_used, State}
use Rattle.rules.specs.Answers.{Outcome, gives}
use Rattle.rules.specs.Refusals.{read_verdict, judged}
use Rattle.rules.specs.Words.{page_in, word_of, reader_on_commit, links, find_header}
use Rattle.rules.specs.Shape.{in_shape}
use Rattle.rules.specs.declared.state.PageNo.{PageNo}
use Rattle.rules.specs.declared.state.Size.{Size}
use Rattle.rules.specs.declared.state.Places.{Places}
use Rattle.rules.specs.declared.state.ReaderPhase.{ReaderPhase}
use Rattle.rules.specs.declared.state.ReaderPhase.TheVariants as phase
use Rattle.rules.specs.declared.state.Answer.{Answer}
use Rattle.rules.specs.declared.state.Answer.TheVariants as answer
use Rattle.rules.specs.declared.moves.Fetch.{Fetch}
use Rattle.rules.specs.declared.moves.Fetch.TheVariants.{Event, Empty, Busy, Find, Prepare, Swap, Miss}

-- ---- which rule applies

-- "the limit is the commit index if the commit page is the reader page, else the reader page's used"
abbrev pub read_limit : Places → List ℕ → ℕ
read_limit places used = cond (reader_on_commit places) places.index (used_at used places.reader)

-- "the lowest page p other than the reader page whose word is HEADER, h its page: FOUND (p, h) ... No such page: Busy."
abbrev pub find_by : Option (PageNo × PageNo) → Fetch
find_by (Some (p, h)) = Find p h
find_by None = Busy

-- "IDLE: ... Position below limit: ... Else, commit page is reader page: Empty. Else, the lowest page"
abbrev pub plan_idle : Size → Places → List ℕ → List ℕ → Fetch
plan_idle size places words used =
    first
    ((ltb places.position (read_limit places used), Event)
    ∷ (reader_on_commit places, Empty)
    ∷ [])
    (find_by (find_header words size.pages places.reader))

-- "READY: if p's word is h HEADER ... Else answer Missed."
abbrev pub plan_ready : PageNo → PageNo → List ℕ → Fetch
plan_ready p h words = cond (links words p h header_flag) (Swap p h) Miss

abbrev pub plan_reader : ReaderPhase → Size → Places → List ℕ → List ℕ → Fetch
plan_reader phase.Idle size places words used = plan_idle size places words used
plan_reader (phase.Found p h) size places words used = Prepare p h
plan_reader (phase.Ready p h) size places words used = plan_ready p h words

abbrev pub plan_read : State → Fetch
plan_read r = plan_reader r.reader r.size r.places r.words r.used

-- ---- what each rule does

-- "position + 1, handed + 1"
abbrev pub hand_out : State → State
hand_out r = with_position (r.places.position + 1) (with_handed (r.counts.handed + 1) r)

-- "Event(number, value)": of the slot at the read position of the reader page
abbrev pub event_of : State → Answer
event_of r =
    answer.Event (reading (number_at r r.places.reader r.places.position))
    (value_at r r.places.reader r.places.position)

-- "FOUND: the reader page's word becomes (page in h's word) HEADER. READY"
abbrev pub prepare : PageNo → PageNo → State → State
prepare p h r =
    with_reader (phase.Ready p h)
    (set_word r.places.reader (word_of (page_in (word_at r.words h)) header_flag) r)

-- "it becomes (reader page) NORMAL; the old reader page's used becomes 0; h is the reader page; position 0. ... IDLE."
abbrev pub swap : PageNo → PageNo → State → State
swap p h r =
    with_reader phase.Idle
    (with_position 0
    (with_reader_page h (set_used r.places.reader 0 (set_word p (word_of r.places.reader normal_flag) r))))

abbrev pub fetched : Fetch → State → Outcome
fetched Event r = gives (event_of r) (hand_out r)
fetched Empty r = gives answer.Empty r
fetched Busy r = gives answer.Busy r
fetched (Find p h) r = gives answer.Found (with_reader (phase.Found p h) r)
fetched (Prepare p h) r = gives answer.Prepared (prepare p h r)
fetched (Swap p h) r = gives answer.Swapped (swap p h r)
fetched Miss r = gives answer.Missed (with_reader phase.Idle r)

-- ---- the action
abbrev pub read_rule : State → Outcome
read_rule r = judged (read_verdict (in_shape r)) r (fetched (plan_read r) r)
