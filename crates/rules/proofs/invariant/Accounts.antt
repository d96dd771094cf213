-- The second part of the invariant, accounts: numbers, counts, values, and what the history says of them. A page is left only when it is full, so each page's first number is
-- a multiple of S. Witnesses besides L, pc and pt: a, by which slot j of the page at place i, from 1 on, has the number S * (a + i) + j - S; r0, the number at the
-- reader page's slot 0; gap, how many numbers after the reader page's own were overwritten while it was the reader page.
-- Assumes nothing.
use mathlib.Core.Path.{◌≡◌}
use mathlib.Core.Logic.{◌⊎◌}
use mathlib.Core.List.{List, [], ◌∷◌, ◌++◌}
use Prim.Native.Nat.{ℕ, zero, suc, ◌+◌, ◌*◌, ◌≤◌, ◌<◌}
use lib.Dec.{ltb}
use lib.ListN.{length, get_or}
use Rattle.std.specs.Prelude.{All}
use Rattle.rules.specs.Limits.{most_pages, most_slots, slot_room, most_depth}
use Rattle.rules.specs.State.{page, used_at, number_at, State}
use Rattle.rules.specs.Remember.{BegunWriter, Numbered, ReadEvent, Overwriting, Marker, By, History, unbegun}
use Rattle.rules.specs.Demand.{unnumbered, no_event, EventIn, RightlyTaken}
use Rattle.rules.specs.declared.state.PageNo.{PageNo}
use Rattle.rules.specs.declared.state.WriterPhase.{WriterPhase}
use Rattle.rules.specs.declared.state.WriterPhase.TheVariants as phase
use Rattle.rules.specs.declared.state.Writer.{Writer}
use Rattle.rules.specs.declared.state.ReaderPhase.{ReaderPhase}
use Rattle.rules.specs.declared.state.ReaderPhase.TheVariants as reading
use Rattle.rules.proofs.invariant.Order.{N, S, R, T, C, used_of, cell, phase_at, stored_at, Held, place}
use Rattle.rules.proofs.invariant.Control.{Owns}

-- ---- sizes

pub record Sizes (N S : ℕ) : Type 0 where
  pub pages : N ≤ most_pages
  pub some : 1 ≤ S
  pub slots : S ≤ most_slots

pub record Rooms (numbers values : List ℕ) : Type 0 where
  pub numbers_room : length numbers ≡ slot_room
  pub values_room : length values ≡ slot_room

-- ---- numbers and counts

pub record Numbers (numbers used : List ℕ) (N S R : ℕ) (P : ℕ → ℕ) (a r0 taken : ℕ) : Type 0 where
  -- of a ring page, of the reader page, and of any
  pub slot : (i j : ℕ) → 1 ≤ i → i ≤ N → j < get_or used (P i) 0 → get_or numbers (cell S (P i) j) 0 + S ≡ S * (a + i) + j
  pub reader : (j : ℕ) → j < get_or used R 0 → get_or numbers (cell S R j) 0 ≡ r0 + j
  pub below : (p j : ℕ) → p ≤ N → j < get_or used p 0 → get_or numbers (cell S p j) 0 < taken

-- uR, uT and uC are the used of the reader, tail and commit page
-- A step makes this record anew, field by field: `record b { .. }` keeps the type of b, and this type names what the step changes.
pub record Sums (S uR uT uC index position taken committed handed overwritten pc pt a r0 gap : ℕ) : Type 0 where
  -- taken and committed, by the formula of a slot's number, at the end of the tail page and at the commit position
  pub taken_is : taken + S ≡ S * (a + pt) + uT
  pub committed_is : committed + S ≡ S * (a + pc) + index
  -- the commit index and the read position
  pub indexed : index ≤ uC
  pub read : position ≤ uR
  pub read_committed : pc ≡ 0 → position ≤ index
  -- while the commit page is the reader page, its numbers run on into the ring's; else the ring's start after the gap
  pub joined : pc ≡ 0 → gap ≡ 0
  pub reader_from : pc ≡ 0 → r0 + S ≡ S * a
  pub ring_from : 1 ≤ pc → r0 + uR + gap ≡ S * a
  -- what was handed out or lost is what was read, and what came before it, and the gap
  pub total : handed + overwritten ≡ r0 + position + gap

-- ---- readings by their numbers, which are their places in the list

abbrev pub nth_reading : List Numbered → ℕ → Numbered
nth_reading readings m = get_or readings m unnumbered

abbrev pub nth_value : List Numbered → ℕ → ℕ
nth_value readings m = (nth_reading readings m).own.value

pub record Ordered (readings : List Numbered) (taken committed : ℕ) : Type 0 where
  pub size : length readings ≡ taken
  pub nth : (k : ℕ) → k < taken → (nth_reading readings k).number ≡ k
  pub committed_below : (k : ℕ) → k < taken → (nth_reading readings k).committed ≡ ltb k committed

-- ---- values

-- a held slot lies from the commit page to the tail page, is not committed, and the record's value is its number's own
pub record Holding (numbers used : List ℕ) (S : ℕ) (P : ℕ → ℕ) (pc pt committed : ℕ) (readings : List Numbered) (p j v : ℕ) : Type 0 where
  pub k : ℕ
  pub lo : pc ≤ k
  pub hi : k ≤ pt
  pub is : P k ≡ p
  pub slot : j < get_or used p 0
  pub late : committed ≤ get_or numbers (cell S p j) 0
  pub own : v ≡ nth_value readings (get_or numbers (cell S p j) 0)

abbrev pub HeldOk : List ℕ → List ℕ → ℕ → (ℕ → ℕ) → ℕ → ℕ → ℕ → List Numbered → ℕ → WriterPhase → Type 0
HeldOk numbers used S P pc pt committed readings v phase.Want = Unit {0}
HeldOk numbers used S P pc pt committed readings v (phase.Mark t n) = Unit {0}
HeldOk numbers used S P pc pt committed readings v (phase.Promote t n own) = Unit {0}
HeldOk numbers used S P pc pt committed readings v (phase.Clear t n) = Unit {0}
HeldOk numbers used S P pc pt committed readings v (phase.Push t n) = Unit {0}
HeldOk numbers used S P pc pt committed readings v (phase.Held p slot) = Holding numbers used S P pc pt committed readings p.0 slot v
HeldOk numbers used S P pc pt committed readings v phase.Filled = Unit {0}

-- every slot below used that no record holds has its number's own value
pub record Values (numbers values used : List ℕ) (N S : ℕ) (stack : List Writer) (depth : ℕ) (P : ℕ → ℕ) (pc pt committed : ℕ) (readings : List Numbered) : Type 0 where
  pub held : (i : ℕ) → i < depth → HeldOk numbers used S P pc pt committed readings (stored_at stack i) (phase_at stack i)
  pub stored : (p j : ℕ) → p ≤ N → j < get_or used p 0 → ((i : ℕ) → i < depth → phase_at stack i ≡ Held p j → ⊥)
      → get_or values (cell S p j) 0 ≡ nth_value readings (get_or numbers (cell S p j) 0)

-- the reader has handed out the whole page before it looks for another
abbrev pub Quiet : ReaderPhase → ℕ → ℕ → Type 0
Quiet reading.Idle position uR = Unit {0}
Quiet (reading.Found p h) position uR = position ≡ uR
Quiet (reading.Ready p h) position uR = position ≡ uR

-- ---- records before their reservation

abbrev pub early : WriterPhase → ℕ
early phase.Want = 1
early (phase.Mark t n) = 1
early (phase.Promote t n own) = 1
early (phase.Clear t n) = 1
early (phase.Push t n) = 1
early (phase.Held p slot) = 0
early phase.Filled = 0

-- how many of the records below the depth
abbrev pub earlies : List Writer → ℕ → ℕ
earlies stack zero = 0
earlies stack (suc e) = early (phase_at stack e) + earlies stack e

-- ---- what the history says

-- the numbers in slots j, j + 1, .. of page p of the ring s, k of them
abbrev pub numbers_on : State → PageNo → ℕ → ℕ → List ℕ
numbers_on s p j zero = []
numbers_on s p j (suc k) = number_at s p j ∷ numbers_on s p (suc j) k

-- the numbers lost, in order
abbrev pub lost_of : List Overwriting → List ℕ
lost_of [] = []
lost_of (o ∷ rest) = numbers_on o.before o.page 0 (used_at o.before.used o.page) ++ lost_of rest

pub record Lost (lost : List ℕ) (m : ℕ) : Type 0 where
  pub nth : ℕ
  pub below : nth < length lost
  pub is : get_or lost nth 0 ≡ m

abbrev pub given_number : List ReadEvent → ℕ → ℕ
given_number events k = (get_or events k no_event).number

abbrev pub given_value : List ReadEvent → ℕ → ℕ
given_value events k = (get_or events k no_event).value

-- Each number below r0 + position was handed out or lost, not both; those of the gap were lost; no other number was either.
-- A step makes this record anew, field by field: `record b { .. }` keeps the type of b, and this type names what the step changes.
pub record Past (events : List ReadEvent) (lost : List ℕ) (readings : List Numbered) (handed overwritten r0 position uR gap : ℕ) : Type 0 where
  -- the Events: how many, up to where, in which order, with which values
  pub handed_is : length events ≡ handed
  pub given : (k : ℕ) → k < length events → given_number events k < r0 + position
  pub rising : (j k : ℕ) → j < k → k < length events → given_number events j < given_number events k
  pub own : (k : ℕ) → k < length events → given_value events k ≡ nth_value readings (given_number events k)
  -- the numbers lost: how many, up to where, in which order
  pub overwritten_is : length lost ≡ overwritten
  pub lost_low : (k : ℕ) → k < length lost → get_or lost k 0 < r0 + uR + gap
  pub lost_apart : (k : ℕ) → k < length lost → get_or lost k 0 < r0 + position ⊎ r0 + uR ≤ get_or lost k 0
  pub lost_rising : (j k : ℕ) → j < k → k < length lost → get_or lost j 0 < get_or lost k 0
  -- and which numbers are which
  pub covered : (m : ℕ) → m < r0 + position → EventIn events m ⊎ Lost lost m
  pub gone : (m : ℕ) → r0 + uR ≤ m → m < r0 + uR + gap → Lost lost m
  pub apart : (m : ℕ) → EventIn events m → Lost lost m → ⊥

-- the i-th writer at work
abbrev pub worker_at : List BegunWriter → ℕ → BegunWriter
worker_at working i = get_or working i unbegun

-- the writers at work are the records, bottom first; each owner's update mark is its writer's
pub record AtWork (marker : PageNo → Marker) (stack : List Writer) (depth : ℕ) (working : List BegunWriter) : Type 0 where
  pub many : length working ≡ depth
  pub value : (i : ℕ) → i < depth → (worker_at working i).value ≡ stored_at stack i
  pub marks : (i p : ℕ) → i < depth → Owns (phase_at stack i) p → marker (page p) ≡ By (worker_at working i).nth

-- ---- all of it

-- what the slots hold
pub record Contents (used in_numbers in_values : List ℕ) (N S R : ℕ) (P : ℕ → ℕ) (a r0 taken : ℕ) : Type 0 where
  pub sizes : Sizes N S
  pub rooms : Rooms in_numbers in_values
  pub cap : (p : ℕ) → p ≤ N → get_or used p 0 ≤ S
  pub numbers : Numbers in_numbers used N S R P a r0 taken

-- what the history says
pub record Recorded (events : List ReadEvent) (overwritings : List Overwriting) (readings : List Numbered) (taken committed handed overwritten r0 position uR gap : ℕ) : Type 0 where
  pub past : Past events (lost_of overwritings) readings handed overwritten r0 position uR gap
  pub ordered : Ordered readings taken committed
  pub rightly : All RightlyTaken overwritings

-- A step makes this record anew, field by field: `record b { .. }` keeps the type of b, and this type names what the step changes.
pub record Accounts (s : State) (h : History) (L : ℕ → ℕ) (pc pt a r0 gap : ℕ) : Type 0 where
  pub contents : Contents s.used s.numbers s.values (N s) (S s) (R s) (place (R s) L) a r0 s.counts.taken
  pub sums : Sums (S s) (used_of s (R s)) (used_of s (T s)) (used_of s (C s)) s.places.index s.places.position s.counts.taken s.counts.committed
      s.counts.handed s.counts.overwritten pc pt a r0 gap
  pub values : Values s.numbers s.values s.used (N s) (S s) s.stack s.depth (place (R s) L) pc pt s.counts.committed h.readings
  pub quiet : Quiet s.reader s.places.position (used_of s (R s))
  pub recorded : Recorded h.events h.overwritings h.readings s.counts.taken s.counts.committed s.counts.handed s.counts.overwritten r0
      s.places.position (used_of s (R s)) gap
  pub work : AtWork h.marker s.stack s.depth h.working
  pub balance : s.counts.begun ≡ s.counts.taken + s.counts.dropped + earlies s.stack s.depth
  pub stack_room : length s.stack ≡ most_depth
