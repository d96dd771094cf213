-- Demand 3: what holds after every list of actions, one named field for each part of the claim; and what it means that a receipt says complete. Section
-- "Receipt", from "Demand 3 tells a reading's place" on. A run r has the ring after the list, r.now, and what the list did, r.past.
-- Assumes nothing.
use Rattle.std.specs.Prelude.{All, ◌≡◌, ◌≢◌, ◌⊎◌, Bool, true, false, cond, List, [], ◌∷◌, ℕ, zero, suc, ◌+◌, ◌≤◌, ◌<◌, eqb, length, get_or}
use Rattle.rules.specs.Limits.{header_flag, update_flag}
use Rattle.rules.specs.State.{word_at, used_at, number_at, value_at, top, State}
use Rattle.rules.specs.Words.{page_in, flag_in}
use Rattle.rules.specs.Shape.{in_shape}
use Rattle.rules.specs.SetUp.{fresh_rule}
use Rattle.rules.specs.Receipt.{receipt_rule}
use Rattle.rules.specs.Listed.{AsListed}
use Rattle.rules.specs.Act.{act}
use Rattle.rules.specs.Remember.{Numbered, ReadEvent, Overwriting, By, numbered, unbegun, read_event}
use Rattle.rules.specs.History.{Run, latest, run_of}
use Rattle.rules.specs.declared.state.PageNo.{PageNo}
use Rattle.rules.specs.declared.state.WriterPhase.TheVariants.{Clear}
use Rattle.rules.specs.declared.state.Action.{Action}
use Rattle.rules.specs.declared.state.Answer.TheVariants.{Accepted}
use Rattle.rules.specs.declared.state.Receipt.{Receipt}

-- ---- one, some, all, how many

-- exactly one number has A
pub record One (A : ℕ → Type 0) : Type 0 where
  pub it : ℕ
  pub has : A it
  pub alone : (k : ℕ) → A k → k ≡ it

-- exactly one slot has A
pub record OneSlot (A : PageNo → ℕ → Type 0) : Type 0 where
  pub page : PageNo
  pub slot : ℕ
  pub has : A page slot
  pub alone : (p : PageNo) (j : ℕ) → A p j → (p ≡ page) × (j ≡ slot)

-- exactly one of four
pub data ExactlyOne (A B C D : Type 0) : Type 0 where
  only_first : A → ¬ B → ¬ C → ¬ D → ExactlyOne A B C D
  only_second : ¬ A → B → ¬ C → ¬ D → ExactlyOne A B C D
  only_third : ¬ A → ¬ B → C → ¬ D → ExactlyOne A B C D
  only_fourth : ¬ A → ¬ B → ¬ C → D → ExactlyOne A B C D

abbrev pub Some : {A : Type 0} → (A → Type 0) → List A → Type 0
Some B [] = ⊥
Some B (x ∷ rest) = B x ⊎ Some B rest

-- k of the numbers below n have A
pub data Count (A : ℕ → Type 0) : ℕ → ℕ → Type 0 where
  start : Count A 0 0
  counted : {n k : ℕ} → Count A n k → A n → Count A (suc n) (suc k)
  skipped : {n k : ℕ} → Count A n k → ¬ A n → Count A (suc n) k

-- ---- the numbered readings

abbrev pub unnumbered : Numbered
unnumbered = numbered 0 unbegun false

-- the reading with number m, or `unnumbered` where no Reserved gave m
abbrev pub reading_of : List Numbered → ℕ → Numbered
reading_of [] m = unnumbered
reading_of (x ∷ rest) m = cond (eqb x.number m) x (reading_of rest m)

-- "its value is the one in that writer's Begin"
abbrev pub own_value : List Numbered → ℕ → ℕ
own_value readings m = (reading_of readings m).own.value

abbrev pub is_committed : List Numbered → ℕ → Bool
is_committed readings m = (reading_of readings m).committed

-- the k-th Reserved, from 0, gave the number m
pub record ReservedAt (readings : List Numbered) (m k : ℕ) : Type 0 where
  pub below : k < length readings
  pub gave : (get_or readings k unnumbered).number ≡ m

-- ---- the four places of a reading

abbrev pub no_event : ReadEvent
no_event = read_event 0 0

-- the k-th Event, from 0, gave the reading with number m
pub record EventAt (events : List ReadEvent) (m k : ℕ) : Type 0 where
  pub below : k < length events
  pub gave : (get_or events k no_event).number ≡ m

-- one of these Events gave it
pub record EventIn (events : List ReadEvent) (m : ℕ) : Type 0 where
  pub nth : ℕ
  pub event : EventAt events m nth

-- "Handed out: an Event gave it."
abbrev pub HandedOut : Run → ℕ → Type 0
HandedOut r m = EventIn r.past.events m

-- the number m lay below the used of the page taken, just before the overwriting
pub record LayBelow (m : ℕ) (o : Overwriting) : Type 0 where
  pub slot : ℕ
  pub below : slot < used_at o.before.used o.page
  pub number : number_at o.before o.page slot ≡ m

-- "Overwritten: it lay below n's used just before a Marked."
abbrev pub Overwritten : Run → ℕ → Type 0
Overwritten r m = Some (LayBelow m) r.past.overwritings

-- slot j of page p lies below used and has number m
pub record LiesAt (r : State) (m : ℕ) (p : PageNo) (j : ℕ) : Type 0 where
  pub page : p.0 ≤ r.size.pages
  pub below : j < used_at r.used p
  pub number : number_at r p j ≡ m

-- "Not yet committed: it isn't committed, and its number lies below used in exactly one slot of all pages."
pub record NotCommitted (r : Run) (m : ℕ) : Type 0 where
  pub uncommitted : is_committed r.past.readings m ≡ false
  pub slot : OneSlot (LiesAt r.now m)

-- "of the slots below the used of a ring page, or below the used of the reader page and not below the read position", one that "holds its number with
-- its value"
pub record WaitsAt (r : State) (m v : ℕ) (p : PageNo) (j : ℕ) : Type 0 where
  pub lies : LiesAt r m p j
  pub unread : p ≡ r.places.reader → r.places.position ≤ j
  pub value : value_at r p j ≡ v

-- "Waiting: it is committed, and of the slots ... exactly one holds its number with its value."
pub record Waiting (r : Run) (m : ℕ) : Type 0 where
  pub committed : is_committed r.past.readings m ≡ true
  pub slot : OneSlot (WaitsAt r.now m (own_value r.past.readings m))

-- ---- ring pages, their links and their marks

-- "Ring pages are those of 0 to N other than the reader page."
pub record RingPage (r : State) (p : PageNo) : Type 0 where
  pub page : p.0 ≤ r.size.pages
  pub apart : p ≢ r.places.reader

-- an overwriting takes the oldest ring page, all of it committed, while every ring page is full
pub record RightlyTaken (o : Overwriting) : Type 0 where
  pub ring : RingPage o.before o.page
  -- "The oldest page is the one with the lowest number below its used": a slot of it has a number that is lower than all of those of other ring pages
  pub lowest : ℕ
  pub there : lowest < used_at o.before.used o.page
  pub oldest : (p : PageNo) (j : ℕ) → RingPage o.before p → p ≢ o.page → j < used_at o.before.used p
      → number_at o.before o.page lowest < number_at o.before p j
  pub committed : (j : ℕ) → j < used_at o.before.used o.page → is_committed o.readings (number_at o.before o.page j) ≡ true
  -- "full is used = S"
  pub full : (p : PageNo) → RingPage o.before p → used_at o.before.used p ≡ o.before.size.slots

-- k moves from p, each to the page in the word
abbrev pub moves_from : List ℕ → ℕ → PageNo → PageNo
moves_from words zero p = p
moves_from words (suc k) p = page_in (word_at words (moves_from words k p))

-- "from any ring page, N moves to the page in the word meet each ring page once and end at the start"; and no number of moves leaves the ring pages
pub record Visits (r : State) (p : PageNo) : Type 0 where
  pub once : (j k : ℕ) → j < r.size.pages → k < r.size.pages → moves_from r.words (suc j) p ≡ moves_from r.words (suc k) p → j ≡ k
  pub meets : (q : PageNo) → RingPage r q → (k : ℕ) × (k < r.size.pages) × (moves_from r.words (suc k) p ≡ q)
  pub back : moves_from r.words r.size.pages p ≡ p
  pub stays : (k : ℕ) → RingPage r (moves_from r.words k p)

-- "Header and update marks are HEADER and UPDATE in a word."
abbrev pub flag_at : State → PageNo → ℕ
flag_at r p = flag_in (word_at r.words p)

-- exactly one header mark among the ring pages
pub record OneHeader (r : State) : Type 0 where
  pub page : PageNo
  pub ring : RingPage r page
  pub marked : flag_at r page ≡ header_flag
  pub alone : (p : PageNo) → RingPage r p → flag_at r p ≡ header_flag → p ≡ page

-- no header mark among them, and an update mark whose writer is still at work
pub record NoHeader (r : Run) : Type 0 where
  pub no : (p : PageNo) → RingPage r.now p → flag_at r.now p ≢ header_flag
  pub page : PageNo
  pub ring : RingPage r.now page
  pub marked : flag_at r.now page ≡ update_flag
  pub at_work : Some (λ w. r.past.marker page ≡ By w.nth) r.past.working

-- ---- demand 3, of a run r and a receipt c; `Demand` below takes the run's own receipt

pub record Claim (c : Receipt) (r : Run) : Type 0 where
  -- the writers at work are as many as the records: a Write that is not refused belongs to one of them
  pub working : length r.past.working ≡ r.now.depth
  -- 1. a number was given by a Reserved exactly if it is below taken, and by one Reserved
  pub numbered_once : (m : ℕ) → m < c.taken → One (ReservedAt r.past.readings m)
  pub numbered_below : (m k : ℕ) → ReservedAt r.past.readings m k → m < c.taken
  -- 2. each numbered reading is in exactly one of the four places
  pub one_place : (m : ℕ) → m < c.taken → ExactlyOne (HandedOut r m) (Overwritten r m) (Waiting r m) (NotCommitted r m)
  -- .. and one that was handed out was given by exactly one Event, with its own writer's value; no Event gave a number that no Reserved gave
  pub handed_once : (m : ℕ) → HandedOut r m → One (EventAt r.past.events m)
  pub handed_value : (m k : ℕ) → EventAt r.past.events m k → (get_or r.past.events k no_event).value ≡ own_value r.past.readings m
  pub handed_numbered : (m k : ℕ) → EventAt r.past.events m k → m < c.taken
  -- 3. the receipt says how many numbered readings are in each place, and taken is their sum
  pub handed_count : Count (HandedOut r) c.taken c.handed
  pub overwritten_count : Count (Overwritten r) c.taken c.overwritten
  pub waiting_count : Count (Waiting r) c.taken c.waiting
  pub open_count : Count (NotCommitted r) c.taken c.«open»
  pub sum : c.taken ≡ c.handed + c.overwritten + c.waiting + c.«open»
  -- .. and how many Begins were accepted, and how many of their writers were dropped
  pub begun_count : c.begun ≡ r.past.begins
  pub dropped_count : c.dropped ≡ length r.past.droppers
  -- 4. numbers handed out rise; each not yet committed is above every other
  pub rising : (m n j k : ℕ) → EventAt r.past.events m j → EventAt r.past.events n k → j < k → m < n
  pub above : (m n : ℕ) → NotCommitted r m → HandedOut r n ⊎ (Overwritten r n ⊎ Waiting r n) → n < m
  -- 5. each overwriting took the oldest ring page, all of it committed, and every ring page was full
  pub oldest_taken : All RightlyTaken r.past.overwritings
  -- 6. the links
  pub visits : (p : PageNo) → RingPage r.now p → Visits r.now p
  -- 7. exactly one header mark, or none and an update mark whose writer is still at work
  pub marks : OneHeader r.now ⊎ NoHeader r
  -- .. and "Only the writer that made the mark clears it": whoever is about to is the writer of the mark
  pub clears : (t n : PageNo) → 0 < r.now.depth → (top r.now).phase ≡ Clear t n → r.past.marker t ≡ By (latest r.past.working).nth
  -- 10 (8 and 9 are below). E3: "at depth 0, no reading is uncommitted": each numbered reading is committed, and the receipt has none open
  pub each_committed : r.now.depth ≡ 0 → (m : ℕ) → m < c.taken → is_committed r.past.readings m ≡ true
  pub none_open : r.now.depth ≡ 0 → c.«open» ≡ 0

abbrev pub Demand : Run → Type 0
Demand r = Claim (receipt_rule r.now) r

-- ---- 8. the receipt says complete exactly when every reading begun has been handed out

-- the writer whose Begin was the nth accepted, from 0, reserved a number, and an Event gave it
pub record HandedOutOf (r : Run) (nth : ℕ) : Type 0 where
  pub number : ℕ
  pub reserved : ℕ
  pub numbered : ReservedAt r.past.readings number reserved
  pub own : (get_or r.past.readings reserved unnumbered).own.nth ≡ nth
  pub given : HandedOut r number

abbrev pub AllHandedOut : Run → Type 0
AllHandedOut r = (nth : ℕ) → nth < r.past.begins → HandedOutOf r nth

pub record CompleteClaim (c : Receipt) (r : Run) : Type 0 where
  pub says : c.complete ≡ true → AllHandedOut r
  pub only : AllHandedOut r → c.complete ≡ true

abbrev pub Complete : Run → Type 0
Complete r = CompleteClaim (receipt_rule r.now) r

-- ---- 9. the ring is always in shape: no action and no receipt is refused with 1

-- that 2, 3 and 4 are given just as listed holds of every state (specs/Listed)
pub record Sound (r : State) : Type 0 where
  pub shape : in_shape r ≡ true
  pub unbroken : (a : Action) → (act r a).tells.refusal ≢ 1
  pub receipt : (receipt_rule r).refusal ≡ 0
  -- demand 1, of this state
  pub listed : AsListed r

-- ---- all of it: "one claim about the whole list"

pub record RunClaim (r : Run) : Type 0 where
  pub demand : Demand r
  pub complete : Complete r
  pub sound : Sound r.now

-- for every accepted set-up and every list of actions
abbrev pub Demand3 : Type 0
Demand3 = (pages slots mode : ℕ) → (fresh_rule pages slots mode).answer ≡ Accepted → (actions : List Action) → RunClaim (run_of pages slots mode actions)
