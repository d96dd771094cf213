-- What it tells that a rule applies to a ring in shape: an Event's slot lies below the limit, and the pages that a
-- rule names are pages of the ring.
-- Assumes nothing.
use Rattle.std.proofs.lemmas.Bool.{and_parts}
use Rattle.std.specs.Prelude.{Option, Some, None}
use mathlib.Core.Path.{◌≡◌, refl}
use mathlib.Core.Bool.{true}
use Prim.Native.Nat.{ℕ, ◌≤◌, ◌<◌}
use native.Mathlib.Omega.{arith}
use borrow.Author.Tests.{ltb-true, leb-true}
use lib.Dec.{ltb, leb}
use Rattle.rules.specs.Limits.{header_flag}
use Rattle.rules.specs.State.{page, word_at, State}
use Rattle.rules.specs.Words.{page_in, reader_on_commit, links, find_header}
use Rattle.rules.specs.Shape.{reader_fits}
use Rattle.rules.specs.Read.{read_limit, find_by, plan_reader, plan_read}
use Rattle.ring.specs.Pieces.{FetchPrecondition, EventPrecondition}
use Rattle.rules.specs.declared.state.PageNo.{PageNo}
use Rattle.rules.specs.declared.state.ReaderPhase.{ReaderPhase}
use Rattle.rules.specs.declared.state.ReaderPhase.TheVariants as phase
use Rattle.rules.specs.declared.moves.Fetch.{Fetch}
use Rattle.rules.specs.declared.moves.Fetch.TheVariants.{Event, Empty, Busy, Find, Prepare, Swap, Miss}
use Rattle.rules.proofs.Lists.{by_cond}
use Rattle.rules.proofs.order.Search.{Tells, search-tells}
use Rattle.rules.proofs.shape.Laws.{InShape, pages-fit}
use Rattle.rules.proofs.state.Laws.{slot_index-room}

-- ---- what it tells that a rule applies

-- two pages of a ring
abbrev Pages : State → PageNo → PageNo → Type 0
Pages r p h = (p.0 ≤ r.size.pages) × (h.0 ≤ r.size.pages)

abbrev pub Planned : State → Fetch → Type 0
Planned r Event = (r.reader ≡ phase.Idle) × (r.places.position < read_limit r.places r.used)
Planned r Empty = Unit {0}
Planned r Busy = Unit {0}
Planned r (Find p h) = Pages r p h
Planned r (Prepare p h) = Pages r p h
Planned r (Swap p h) = Pages r p h
Planned r Miss = Unit {0}

module _ (r : State) (s : InShape r) where
  pub limit-fits : read_limit r.places r.used ≤ r.size.slots
  limit-fits =
      let used = s.used_at r.places.reader.0 s.reader in
      by_cond (λ (k : ℕ). k ≤ r.size.slots) (reader_on_commit r.places) (λ e. omega (arith, s)) (λ e. omega (arith, s, used))

  pub next_fits : (p : ℕ) → p ≤ r.size.pages → (page_in (word_at r.words (page p))).0 ≤ r.size.pages
  next_fits p hp =
      let w = word_at r.words (page p) in
      leb-true (page_in w).0 r.size.pages (and_parts (leb (page_in w).0 r.size.pages) _ (s.word_at p hp)).0

  find-planned : (found : Option (PageNo × PageNo)) → Tells r.words r.size.pages r.places.reader.0 found → Planned r (find_by found)
  find-planned (Some (p, h)) t = (t.0, rw t.3 (next_fits p.0 t.0))
  find-planned None t = tt

  phase-planned : (ph : ReaderPhase) → r.reader ≡ ph → reader_fits ph r.size ≡ true → Planned r (plan_reader ph r.size r.places r.words r.used)
  phase-planned phase.Idle e fits =
      by_cond (Planned r) (ltb r.places.position (read_limit r.places r.used))
      (λ l. (e, ltb-true r.places.position (read_limit r.places r.used) l))
      (λ l.
      by_cond (Planned r) (reader_on_commit r.places)
      (λ k. tt)
      (λ k. find-planned (find_header r.words r.size.pages r.places.reader) (search-tells r.words r.size.pages r.places.reader)))
  phase-planned (phase.Found p h) e fits = pages-fit p h r.size.pages fits
  phase-planned (phase.Ready p h) e fits =
      by_cond (Planned r) (links r.words p h header_flag) (λ k. pages-fit p h r.size.pages fits) (λ k. tt)

  pub planned : Planned r (plan_read r)
  planned = phase-planned r.reader refl s.phase

  -- ---- what the code asks

  fetch-precondition : (f : Fetch) → Planned r f → FetchPrecondition f
  fetch-precondition Event w = tt
  fetch-precondition Empty w = tt
  fetch-precondition Busy w = tt
  fetch-precondition (Find p h) w = tt
  fetch-precondition (Prepare p h) w = omega (arith, s)
  fetch-precondition (Swap p h) w = omega (arith, s)
  fetch-precondition Miss w = tt

  pub plan-precondition : FetchPrecondition (plan_read r)
  plan-precondition = fetch-precondition (plan_read r) planned

  -- the position of an Event
  pub event-here : plan_read r ≡ Event → r.places.position < read_limit r.places r.used
  event-here e =
      let p : Planned r Event = rw e at planned in
      p.1

  pub event-precondition : EventPrecondition (plan_read r) r.size r.places
  event-precondition e =
      let below = event-here e in
      let most = limit-fits in
      slot_index-room r.size r.places.reader r.places.position (omega (arith, s)) s.slots_most (omega (arith, s))
