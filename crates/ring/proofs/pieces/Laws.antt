-- The pieces that a Write or a Read leaves are together what its rule leaves of the whole ring, and the cells that it stores to are within the arrays.
-- Assumes nothing.
use mathlib.Core.Path.{◌≡◌, refl}
use mathlib.Core.List.{List}
use Prim.Native.Nat.{ℕ, ◌-◌, ◌≤◌}
use lib.ListN.{set}
use Rattle.rules.specs.Limits.{most_pages, most_slots}
use Rattle.rules.specs.State.{with_stack, with_counts, with_places, with_depth, with_reader, with_handed, top, State}
use Rattle.rules.specs.Answers.{Outcome, gives}
use Rattle.rules.specs.Write.{moved}
use Rattle.rules.specs.Read.{fetched}
use Rattle.ring.specs.Pieces.{answer_after, counts_after, places_after, depth_after, record_after, stores_after, read_answer, read_handed, read_places, read_phase, read_stores, stored, StoresPrecondition, MovePrecondition, FetchPrecondition}
use Rattle.rules.specs.declared.state.PageNo.{PageNo}
use Rattle.rules.specs.declared.state.Size.{Size}
use Rattle.rules.specs.declared.state.Places.{Places}
use Rattle.rules.specs.declared.state.Counts.{Counts}
use Rattle.rules.specs.declared.state.Writer.{Writer}
use Rattle.rules.specs.declared.state.Answer.{Answer}
use Rattle.rules.specs.declared.moves.Move.{Move}
use Rattle.rules.specs.declared.moves.Move.TheVariants.{Become, Reserve, Drop, DropCommit, Mark, Promote, Clear, Push, Fill, Pend, Commit}
use Rattle.rules.specs.declared.moves.Fetch.{Fetch}
use Rattle.rules.specs.declared.moves.Fetch.TheVariants as fetch
use Rattle.ring.specs.declared.pieces.Stores.{Stores}
use Rattle.ring.specs.declared.pieces.Stores.TheVariants as stores
use Rattle.rules.proofs.state.Laws.{slot_index-room}
use Rattle.rules.specs.declared.state.ReaderPhase.{ReaderPhase}

-- ---- Write

-- the outcome with each piece given
abbrev pub leaves : State → Answer → Writer → Counts → Places → ℕ → Stores → Outcome
leaves r a w counts places depth c =
    gives a (with_stack (set r.stack (r.depth - 1) w) (with_counts counts (with_places places (with_depth depth (stored c r)))))

-- the outcome with each piece as the definitions have it
abbrev pub leaves_by : Move → State → Outcome
leaves_by m r =
    leaves r (answer_after m r.counts.taken) (record_after m (top r).value) (counts_after m r.counts r.used)
    (places_after m r.places r.used) (depth_after m r.depth)
    (stores_after m r.size r.counts.taken (top r).value r.words)

pub moved-pieces : (m : Move) (r : State) → moved m r ≡ leaves_by m r
moved-pieces (Become next a) r = refl
moved-pieces (Reserve t slot) r = refl
moved-pieces Drop r = refl
moved-pieces DropCommit r = refl
moved-pieces (Mark t n) r = refl
moved-pieces (Promote n next) r = refl
moved-pieces (Clear t n) r = refl
moved-pieces (Push n) r = refl
moved-pieces (Fill p slot) r = refl
moved-pieces Pend r = refl
moved-pieces Commit r = refl

-- the cells that a Write stores to
module _ (size : Size) (taken value : ℕ) (words : List ℕ) (le : size.slots ≤ most_slots) where
  pub stores-precondition : (m : Move) → MovePrecondition m → StoresPrecondition (stores_after m size taken value words)
  stores-precondition (Become next a) h = tt
  stores-precondition (Reserve t slot) h = (slot_index-room size t slot h.0 le h.1, h.0)
  stores-precondition Drop h = tt
  stores-precondition DropCommit h = tt
  stores-precondition (Mark t n) h = h
  stores-precondition (Promote n next) h = h
  stores-precondition (Clear t n) h = h.0
  stores-precondition (Push n) h = tt
  stores-precondition (Fill p slot) h = slot_index-room size p slot h.0 le h.1
  stores-precondition Pend h = tt
  stores-precondition Commit h = tt

-- ---- Read

abbrev pub read_leaves : State → Answer → ℕ → Places → ReaderPhase → Stores → Outcome
read_leaves r a handed places reader c = gives a (with_reader reader (with_places places (with_handed handed (stored c r))))

abbrev pub read_leaves_by : Fetch → State → Outcome
read_leaves_by f r =
    read_leaves r (read_answer f r.size r.places r.numbers r.values) (read_handed f r.counts.handed) (read_places f r.places)
    (read_phase f r.reader) (read_stores f r.places.reader r.words)

pub fetched-pieces : (f : Fetch) (r : State) → fetched f r ≡ read_leaves_by f r
fetched-pieces fetch.Event r = refl
fetched-pieces fetch.Empty r = refl
fetched-pieces fetch.Busy r = refl
fetched-pieces (fetch.Find p h) r = refl
fetched-pieces (fetch.Prepare p h) r = refl
fetched-pieces (fetch.Swap p h) r = refl
fetched-pieces fetch.Miss r = refl

module _ (reader : PageNo) (words : List ℕ) where
  -- the cells that a Read stores to
  pub read-stores-precondition : (f : Fetch) → FetchPrecondition f → reader.0 ≤ most_pages → StoresPrecondition (read_stores f reader words)
  read-stores-precondition fetch.Event h le = tt
  read-stores-precondition fetch.Empty h le = tt
  read-stores-precondition fetch.Busy h le = tt
  read-stores-precondition (fetch.Find p q) h le = tt
  read-stores-precondition (fetch.Prepare p q) h le = le
  read-stores-precondition (fetch.Swap p q) h le = (h, le)
  read-stores-precondition fetch.Miss h le = tt

  -- of the five kinds of stores a Read makes a word's or a taken page's, and otherwise none
  pub read-stores-same :
      (f : Fetch) →
      ((p : PageNo) (w : ℕ) → read_stores f reader words ≡ stores.Word p w → ⊥) →
      ((p : PageNo) (w : ℕ) (old : PageNo) → read_stores f reader words ≡ stores.Take p w old → ⊥) →
      read_stores f reader words ≡ stores.Same
  read-stores-same fetch.Event no-word no-take = refl
  read-stores-same fetch.Empty no-word no-take = refl
  read-stores-same fetch.Busy no-word no-take = refl
  read-stores-same (fetch.Find p q) no-word no-take = refl
  read-stores-same (fetch.Prepare p q) no-word no-take = absurd (no-word _ _ refl)
  read-stores-same (fetch.Swap p q) no-word no-take = absurd (no-take _ _ _ refl)
  read-stores-same fetch.Miss no-word no-take = refl
