-- A turn of a drain, made on a ring in shape by storing its pieces, makes the Reads that the definition makes (`turn-drains`): one for a rule
-- that is no Event's, and for an Event as many as are told. It leaves all of the shape but the counts, and handed + overwritten is past
-- committed by at most one.
-- Assumes nothing.
use Rattle.std.specs.Prelude.{Option, Some}
use mathlib.Core.Path.{◌≡◌, refl, sym, ap, ◌∙◌, subst}
use mathlib.Core.Bool.{true}
use mathlib.Core.List.{List, [], ◌∷◌, ◌++◌}
use Prim.Native.Nat.{ℕ, zero, suc, ◌+◌, ◌-◌, ◌*◌, ◌≤◌, ◌<◌}
use native.Mathlib.Nat.{mul-le-mul_right}
use native.Mathlib.Omega.{arith}
use borrow.Author.Tests.{ltb-true, ltb-false, lt-ltb}
use lib.Dec.{ltb}
use lib.ListN.{get_or, set}
use lib.Seq.{append_snoc}
use Rattle.rules.specs.Limits.{most_pages, slot_room, normal_flag, header_flag, most_in_row}
use Rattle.rules.specs.Lists.{tabulate}
use Rattle.rules.specs.State.{reading, slot_index, word_at, places_reader, places_position, counts_handed, with_reader, with_places, with_words, with_used, with_position, with_handed, State}
use Rattle.rules.specs.Words.{page_in, word_of}
use Rattle.rules.specs.Shape.{places_fit, counts_fit, reader_fits, words_fit, used_fit, in_shape}
use Rattle.rules.specs.Read.{read_limit, plan_read, fetched}
use Rattle.rules.specs.Drain.{event_number, DrainOutcome, drain_with, drain_ends, event_first, after_read, reads_in_row, drain_reads}
use Rattle.ring.specs.Pieces.{read_answer, read_places, read_phase, read_stores, stored, StoresPrecondition}
use Rattle.ring.specs.Turn.{stored_event, events_from, smaller, event_count, places_before, left_after, turn, turn_of, turned, TurnPrecondition}
use Rattle.rules.specs.declared.state.PageNo.{PageNo}
use Rattle.rules.specs.declared.state.Places.{Places}
use Rattle.rules.specs.declared.state.Answer.{Answer}
use Rattle.rules.specs.declared.state.Answer.TheVariants as answer
use Rattle.rules.specs.declared.state.ReaderPhase.TheVariants as phase
use Rattle.rules.specs.declared.moves.Fetch.{Fetch}
use Rattle.rules.specs.declared.moves.Fetch.TheVariants.{Event, Empty, Busy, Find, Prepare, Swap, Miss}
use Rattle.ring.specs.declared.turn.Turn.{Turn}
use Rattle.rules.proofs.Lists.{by_cond}
use Rattle.rules.proofs.shape.Laws.{InShape, in-shape, pages-true, places-true, counts-true}
use Rattle.rules.proofs.state.Laws.{slot_index-room}
use Rattle.ring.proofs.pieces.Laws.{read-stores-precondition}
use Rattle.ring.proofs.read.Laws.{Planned, limit-fits, next_fits, planned, plan-precondition, event-here}
use Rattle.ring.proofs.read.Kept.{Parts, parts, reshaped, word-fits, set-word, no-used}
use Rattle.rules.specs.declared.state.ReaderPhase.{ReaderPhase}

-- ---- what is left of a drain

-- with space for so many elements, and so many Reads before the next Event
abbrev pub drains_on : ℕ → ℕ → State → Option Answer → DrainOutcome
drains_on zero left r last = drain_ends r last
drains_on (suc space) left r last = reads_in_row (drain_reads most_in_row space) left r last

pub drains-on : (space : ℕ) (r : State) (last : Option Answer) → drain_reads most_in_row space r last ≡ drains_on space most_in_row r last
drains-on zero r last = refl
drains-on (suc space) r last = refl

-- some events before others
abbrev pub events_first : List ℕ → DrainOutcome → DrainOutcome
events_first es d = drain_with d.state (es ++ d.events) d.last d.tells

events_first-more : (es : List ℕ) (e : ℕ) (d : DrainOutcome) → events_first es (event_first e d) ≡ events_first (es ++ (e ∷ [])) d
events_first-more es e d = ap (λ (l : List ℕ). drain_with d.state l d.last d.tells) (sym (append_snoc es e d.events))

-- one Read of a ring in shape
module _ (q : State) (n l : ℕ) (last : Option Answer) where
  step :
      {f : Fetch} →
      in_shape q ≡ true →
      f ≡ plan_read q →
      drains_on (suc n) (suc l) q last ≡ after_read (drain_reads most_in_row n) (reads_in_row (drain_reads most_in_row n) l) (fetched f q)
  step shape e = rw (shape, ← e)

-- ---- the pieces that fit

module _ (r : State) (s : InShape r) where
  pub handed-fits : (x : ℕ) → x + r.counts.overwritten ≤ r.counts.committed → counts_fit (counts_handed x r.counts) ≡ true
  handed-fits x le = counts-true (counts_handed x r.counts) s.begun le s.committed_taken s.taken_dropped

  position-fits : (k : ℕ) → k ≤ r.size.slots → places_fit (places_position k r.places) r.size ≡ true
  position-fits k le = places-true (places_position k r.places) r.size s.reader s.tail s.commit s.index le

  -- a page that becomes the reader page is read from its start
  swap-fits : (h : PageNo) → h.0 ≤ r.size.pages → places_fit (places_reader h (places_position 0 r.places)) r.size ≡ true
  swap-fits h le = places-true (places_reader h (places_position 0 r.places)) r.size le s.tail s.commit s.index (omega arith)

-- ---- Events that stand one after the other

-- the ring once so many readings are handed out
abbrev out : ℕ → State → State
out j r = with_position (r.places.position + j) (with_handed (r.counts.handed + j) r)

module _ (r : State) where
  -- the slot that is read next
  abbrev from : ℕ
  from = slot_index r.size r.places.reader r.places.position

  abbrev slot_after : ℕ → ℕ
  slot_after j = slot_index r.size r.places.reader (r.places.position + j)

  abbrev event : ℕ → ℕ
  event j = stored_event r.numbers r.values from j

  -- the answer of the Read after j Events
  abbrev event_answer : ℕ → Answer
  event_answer j = answer.Event (reading (get_or r.numbers (slot_after j) 0)) (get_or r.values (slot_after j) 0)

  event-told : (j : ℕ) → event_number (reading (get_or r.numbers (slot_after j) 0)) (get_or r.values (slot_after j) 0) ≡ event j
  event-told j =
      let same : slot_after j ≡ from + j = omega arith in
      ap (λ (k : ℕ). event_number (reading (get_or r.numbers k 0)) (get_or r.values k 0)) same

  out-more : (j : ℕ) → out 1 (out j r) ≡ out (suc j) r
  out-more j =
      let p : r.places.position + j + 1 ≡ r.places.position + suc j = omega arith in
      let h : r.counts.handed + j + 1 ≡ r.counts.handed + suc j = omega arith in
      ap (λ (k : ℕ). with_position k (with_handed (r.counts.handed + j + 1) r)) p
      ∙ ap (λ (k : ℕ). with_position (r.places.position + suc j) (with_handed k r)) h

  out_none : out 0 r ≡ r
  out_none =
      let p : r.places.position + 0 ≡ r.places.position = omega arith in
      let h : r.counts.handed + 0 ≡ r.counts.handed = omega arith in
      ap (λ (k : ℕ). with_position k (with_handed (r.counts.handed + 0) r)) p ∙ ap (λ (k : ℕ). with_handed k r) h

  module _ (whole : in_shape r ≡ true) (idle : r.reader ≡ phase.Idle) where
    out-shape : (j : ℕ) → r.places.position + j ≤ r.size.slots → r.counts.handed + j + r.counts.overwritten ≤ r.counts.committed → in_shape (out j r) ≡ true
    out-shape j le agree =
        let s = in-shape r whole in
        let p = parts r whole in
        reshaped r whole (counts_handed (r.counts.handed + j) r.counts) (places_position (r.places.position + j) r.places) r.reader r.words r.used
        (handed-fits r s (r.counts.handed + j) agree)
        (record { places_fit = position-fits r s (r.places.position + j) le; reader_fits = p.reader_fits; words_fit = p.words_fit; used_fit = p.used_fit })

    -- the Read after j Events is an Event
    out-plan : (j : ℕ) → r.places.position + j < read_limit r.places r.used → Event ≡ plan_read (out j r)
    out-plan j lt = rw (idle, lt-ltb (r.places.position + j) (read_limit r.places r.used) lt)

    one_more :
        (j n l : ℕ) (last : Option Answer) →
        in_shape (out j r) ≡ true →
        r.places.position + j < read_limit r.places r.used →
        drains_on (suc n) (suc l) (out j r) last ≡ event_first (event j) (drains_on n most_in_row (out (suc j) r) (Some (event_answer j)))
    one_more j n l last shape lt =
        step (out j r) n l last shape (out-plan j lt)
        ∙ ap (λ (k : ℕ). event_first k (drain_reads most_in_row n (out 1 (out j r)) (Some (event_answer j)))) (event-told j)
        ∙ ap (λ (q : State). event_first (event j) (drain_reads most_in_row n q (Some (event_answer j)))) (out-more j)
        ∙ ap (event_first (event j)) (drains-on n (out (suc j) r) (Some (event_answer j)))

    -- j + 1 Events
    run :
        (j space l : ℕ) (last : Option Answer) →
        r.places.position + j < read_limit r.places r.used →
        j < space →
        r.counts.handed + j + r.counts.overwritten ≤ r.counts.committed →
        drains_on space (suc l) r last ≡ events_first (tabulate (suc j) event) (drains_on (space - suc j) most_in_row (out (suc j) r) (Some (event_answer j)))
    run zero space l last lt some agree =
        let most = limit-fits r (in-shape r whole) in
        let n : space ≡ suc (space - 1) = omega arith in
        ap (λ (k : ℕ). drains_on k (suc l) r last) n
        ∙ ap (λ (q : State). drains_on (suc (space - 1)) (suc l) q last) (sym out_none)
        ∙ one_more 0 (space - 1) l last (out-shape 0 (omega arith) agree) lt
    run (suc j) space l last lt some agree =
        let most = limit-fits r (in-shape r whole) in
        let n : space - suc j ≡ suc (space - suc (suc j)) = omega arith in
        run j space l last (omega arith) (omega arith) (omega arith)
        ∙ ap (λ (k : ℕ). events_first (tabulate (suc j) event) (drains_on k most_in_row (out (suc j) r) (Some (event_answer j)))) n
        ∙ ap (events_first (tabulate (suc j) event)) (one_more (suc j) (space - suc (suc j)) (most_in_row - 1) (Some (event_answer j)) (out-shape (suc j) (omega arith) agree) lt)
        ∙ events_first-more (tabulate (suc j) event) (event (suc j)) (drains_on (space - suc (suc j)) most_in_row (out (suc (suc j)) r) (Some (event_answer (suc j))))

-- the smaller of two is at most either, and not 0 if neither is
smaller-is : (a b : ℕ) → 0 < a → 0 < b → (smaller a b ≤ a) × (smaller a b ≤ b) × (0 < smaller a b)
smaller-is a b ha hb =
    by_cond (λ (k : ℕ). (k ≤ a) × (k ≤ b) × (0 < k)) (ltb a b)
    (λ e. let l = ltb-true a b e in (omega arith, omega arith, ha))
    (λ e. let l = ltb-false a b e in (omega arith, omega arith, hb))

-- ---- what a turn does

pub record Turned (r : State) (space left : ℕ) (last : Option Answer) (t : Turn) : Type 0 where
  -- all of the shape but the counts, and these at most one off
  pub shape : in_shape (with_handed 0 (turned t r)) ≡ true
  pub agree : t.handed + r.counts.overwritten ≤ r.counts.committed + 1
  -- the Reads that it makes
  pub rest :
      drains_on space left r last
      ≡ events_first (events_from r.numbers r.values t.from t.count) (drains_on (space - t.count) t.left (turned t r) t.last)
  -- there is space for the Events, and their slots are the reader page's
  pub count : t.count ≤ space
  pub slots : r.places.position + t.count ≤ r.size.slots
  -- it leaves less to do
  pub less : (space - t.count) * suc most_in_row + t.left < space * suc most_in_row + left

module _ (r : State) (whole : in_shape r ≡ true) (space left : ℕ) (last : Option Answer) (some : 0 < space) (more : 0 < left) where
  abbrev shaped : InShape r
  shaped = in-shape r whole

  -- the turn of a rule with so many Events
  abbrev with : Fetch → ℕ → Turn
  with f count = turn f count left r.size r.places r.counts r.reader r.words r.numbers r.values

  -- the ring after the last Read, from this position and with so many handed out
  abbrev leaves : Fetch → ℕ → ℕ → State
  leaves f position handed =
      let stores = read_stores f r.places.reader r.words in
      with_reader (read_phase f r.reader)
      (with_places (read_places f (places_position position r.places))
      (with_handed handed (stored stores r)))

  -- a rule that is no Event's: one Read
  other :
      (f : Fetch) →
      f ≡ plan_read r →
      leaves f r.places.position r.counts.handed ≡ (fetched f r).state →
      read_answer f r.size (places_before r.places 0) r.numbers r.values ≡ (fetched f r).answer →
      after_read (drain_reads most_in_row (space - 1)) (reads_in_row (drain_reads most_in_row (space - 1)) (left - 1)) (fetched f r)
      ≡ drains_on (suc (space - 1)) (left_after f left) (fetched f r).state (Some (fetched f r).answer) →
      left_after f left < left →
      in_shape (with_handed 0 (turned (with f 0) r)) ≡ true →
      Turned r space left last (with f 0)
  other f plan ring answer kind fewer shape =
      let n : space ≡ suc (space - 1) = omega arith in
      let m : suc (space - 1) ≡ space - 0 = omega arith in
      let l : left ≡ suc (left - 1) = omega arith in
      let p : r.places.position ≡ r.places.position + 0 = omega arith in
      let h : r.counts.handed ≡ r.counts.handed + 0 = omega arith in
      let same : (fetched f r).state ≡ turned (with f 0) r =
      sym ring ∙ ap (λ (k : ℕ). leaves f k r.counts.handed) p ∙ ap (leaves f (r.places.position + 0)) h in
      let s = shaped in
      record {
        shape = shape;
        agree = omega (arith, s);
        rest =
            ap (λ (k : ℕ). drains_on k left r last) n
            ∙ ap (λ (k : ℕ). drains_on (suc (space - 1)) k r last) l
            ∙ step r (space - 1) (left - 1) last whole plan
            ∙ kind
            ∙ ap (λ (k : ℕ). drains_on k (left_after f left) (fetched f r).state (Some (fetched f r).answer)) m
            ∙ ap (λ (q : State). drains_on (space - 0) (left_after f left) q (Some (fetched f r).answer)) same
            ∙ ap (λ (a : Answer). drains_on (space - 0) (left_after f left) (turned (with f 0) r) (Some a)) (sym answer);
        count = omega arith;
        slots = omega (arith, s);
        less = omega arith;
      }

  -- the shape where a Read leaves these pieces
  kept :
      (places : Places) (reader : ReaderPhase) (words used : List ℕ) →
      places_fit places r.size ≡ true →
      reader_fits reader r.size ≡ true →
      words_fit words r.size.pages ≡ true →
      used_fit used r.size.pages r.size.slots ≡ true →
      in_shape (with_reader reader (with_places places (with_handed 0 (with_words words (with_used used r))))) ≡ true
  kept places reader words used p ph w u =
      let s = shaped in
      reshaped r whole (counts_handed 0 r.counts) places reader words used (handed-fits r s 0 (omega (arith, s)))
      (record { places_fit = p; reader_fits = ph; words_fit = w; used_fit = u })

  -- the position stays
  still : places_fit (places_before r.places 0) r.size ≡ true
  still =
      let s = shaped in
      position-fits r s (r.places.position + 0) (omega (arith, s))

  abbrev fit : Parts r.size r.places r.reader r.words r.used
  fit = parts r whole

  -- j + 1 Events: the last of them is made at the position before it
  events :
      r.reader ≡ phase.Idle →
      (j : ℕ) →
      r.places.position + suc j ≤ read_limit r.places r.used →
      suc j ≤ space →
      r.counts.handed + suc j + r.counts.overwritten ≤ r.counts.committed + 1 →
      Turned r space left last (with Event (suc j))
  events idle j here fits agree =
      let s = shaped in
      let most = limit-fits r s in
      let l : left ≡ suc (left - 1) = omega arith in
      let k : j ≡ suc j - 1 = omega arith in
      let p : r.places.position + suc j ≡ r.places.position + (suc j - 1) + 1 = omega arith in
      let then = places_position (r.places.position + (suc j - 1) + 1) r.places in
      record {
        shape = kept then r.reader r.words r.used (position-fits r s (r.places.position + (suc j - 1) + 1) (omega arith)) fit.reader_fits fit.words_fit fit.used_fit;
        agree = agree;
        rest =
            ap (λ (n : ℕ). drains_on space n r last) l
            ∙ run r whole idle j space (left - 1) last (omega arith) fits (omega arith)
            ∙ ap (λ (n : ℕ). events_first (tabulate (suc j) (event r)) (drains_on (space - suc j) most_in_row (with_position n (with_handed (r.counts.handed + suc j) r)) (Some (event_answer r j)))) p
            ∙ ap (λ (n : ℕ). events_first (tabulate (suc j) (event r)) (drains_on (space - suc j) most_in_row (turned (with Event (suc j)) r) (Some (event_answer r n)))) k;
        count = fits;
        slots = omega arith;
        less = omega arith;
      }

  by-rule : (f : Fetch) → f ≡ plan_read r → Planned r f → Turned r space left last (with f (event_count f r.places r.counts r.used space))
  by-rule Event plan h =
      let s = shaped in
      let here = read_limit r.places r.used - r.places.position in
      let allowed = r.counts.committed + 1 - (r.counts.handed + r.counts.overwritten) in
      let two = smaller-is here space (omega (arith, h.1)) some in
      let three = smaller-is (smaller here space) allowed two.2 (omega (arith, s)) in
      let n = smaller (smaller here space) allowed in
      let e : suc (n - 1) ≡ n = omega (arith, three.2) in
      subst (λ (k : ℕ). Turned r space left last (with Event k)) e
      (events h.0 (n - 1) (omega (arith, two.0, three.0, h.1)) (omega (arith, two.1, three.0)) (omega (arith, three.1, s)))
  by-rule Empty plan h =
      other Empty plan refl refl refl more (kept (places_before r.places 0) r.reader r.words r.used still fit.reader_fits fit.words_fit fit.used_fit)
  by-rule Busy plan h =
      other Busy plan refl refl refl more (kept (places_before r.places 0) r.reader r.words r.used still fit.reader_fits fit.words_fit fit.used_fit)
  by-rule (Find p q) plan h =
      other (Find p q) plan refl refl refl (omega arith)
      (kept (places_before r.places 0) (phase.Found p q) r.words r.used still (pages-true p q r.size.pages h.0 h.1) fit.words_fit fit.used_fit)
  by-rule (Prepare p q) plan h =
      let w = word_of (page_in (word_at r.words q)) header_flag in
      let words = set r.words r.places.reader.0 w in
      other (Prepare p q) plan refl refl refl (omega arith)
      (kept (places_before r.places 0) (phase.Ready p q) words r.used still (pages-true p q r.size.pages h.0 h.1)
      (set-word r.size.pages r.words r.places.reader.0 w fit.words_fit
      (word-fits r.size.pages (page_in (word_at r.words q)) header_flag (next_fits r shaped q.0 h.1) (omega arith)))
      fit.used_fit)
  by-rule (Swap p q) plan h =
      let s = shaped in
      let w = word_of r.places.reader normal_flag in
      let words = set r.words p.0 w in
      other (Swap p q) plan refl refl refl (omega arith)
      (kept (places_reader q (places_position 0 r.places)) (phase.Idle) words (set r.used r.places.reader.0 0) (swap-fits r s q h.1) refl
      (set-word r.size.pages r.words p.0 w fit.words_fit (word-fits r.size.pages r.places.reader normal_flag s.reader (omega arith)))
      (no-used r.size.pages r.used r.size.slots r.places.reader.0 fit.used_fit))
  by-rule Miss plan h =
      other Miss plan refl refl refl (omega arith)
      (kept (places_before r.places 0) (phase.Idle) r.words r.used still refl fit.words_fit fit.used_fit)

  pub turn-drains : Turned r space left last (turn_of r left space)
  turn-drains = by-rule (plan_read r) refl (planned r shaped)

  -- ---- what the code asks of the pieces

  pub turn-precondition : TurnPrecondition left space r.size r.places r.counts r.reader r.words r.used
  turn-precondition =
      let s = shaped in
      let few = turn-drains.slots in
      record {
        some = more;
        pages = s.pages_most;
        page = omega (arith, s);
        position = omega (arith, s);
        phase = s.phase;
        fetch = plan-precondition r s;
        events = record { page = omega (arith, s); agree = s.handed_overwritten; committed = s.committed; here = event-here r s };
        few = omega (arith, s);
        event = λ e.
            let l = event-here r s e in
            let most = limit-fits r s in
            slot_index-room r.size r.places.reader _ (omega (arith, s)) s.slots_most (omega (arith, s));
      }

  pub turn-stores : StoresPrecondition (turn_of r left space).stores
  turn-stores =
      let s = shaped in
      read-stores-precondition r.places.reader r.words (plan_read r) (plan-precondition r s) (omega (arith, s))

  -- the slots told are within the arrays
  pub turn-slots : (turn_of r left space).from + (turn_of r left space).count ≤ slot_room
  turn-slots =
      let s = shaped in
      let few = turn-drains.slots in
      omega (arith, s, mul-le-mul_right {m = r.places.reader.0} {n = most_pages} r.size.slots (omega (arith, s)))
