-- The first part of the invariant, control: links, order, flags, owners of update marks, records and the reader's phase. Each clause is over just what it reads, so that
-- a step that leaves this alone carries the clause over. pc and pt are the places of the commit page and of the tail page: "the commit page is the reader page"
-- is pc ≡ 0, the oldest ring page is at place 1 and the newest at place N.
-- Assumes nothing.
use mathlib.Core.Path.{◌≡◌}
use mathlib.Core.Logic.{◌≢◌}
use mathlib.Core.Bool.{true, false}
use mathlib.Core.List.{List}
use Prim.Native.Nat.{ℕ, ◌+◌, ◌*◌, ◌-◌, ◌≤◌, ◌<◌}
use lib.ListN.{length, get_or}
use Rattle.rules.specs.State.{State}
use Rattle.rules.specs.declared.state.WriterPhase.{WriterPhase}
use Rattle.rules.specs.declared.state.WriterPhase.TheVariants as phase
use Rattle.rules.specs.declared.state.Writer.{Writer}
use Rattle.rules.specs.declared.state.ReaderPhase.{ReaderPhase}
use Rattle.rules.specs.declared.state.ReaderPhase.TheVariants as reading
use Rattle.rules.proofs.invariant.Order.{N, S, R, T, C, next_of, flag_of, phase_at, Promote, Links, place}

-- ---- records

-- t, seen by a writer, is full and lies from the commit page to the tail page
pub record At (used : List ℕ) (S : ℕ) (P : ℕ → ℕ) (pc pt t : ℕ) : Type 0 where
  pub k : ℕ
  pub lo : pc ≤ k
  pub hi : k ≤ pt
  pub is : P k ≡ t
  pub full : get_or used t 0 ≡ S

-- PROMOTE, CLEAR and PUSH (t, n): n is the page in t's word, and t is not the newest page
pub record Moving (words used : List ℕ) (N S : ℕ) (P : ℕ → ℕ) (pc pt t n : ℕ) : Type 0 where
  pub spot : At used S P pc pt t
  pub next : next_of words t ≡ n
  pub not_last : t ≢ P N

-- MARK (t, n): where t is the newest page, the commit page is neither the reader page nor the oldest
pub record Marking (used : List ℕ) (N S : ℕ) (P : ℕ → ℕ) (pc pt t : ℕ) : Type 0 where
  pub spot : At used S P pc pt t
  pub room : t ≡ P N → 2 ≤ pc

abbrev pub RecordOk : List ℕ → List ℕ → ℕ → ℕ → (ℕ → ℕ) → ℕ → ℕ → WriterPhase → Type 0
RecordOk words used N S P pc pt phase.Want = Unit {0}
RecordOk words used N S P pc pt (phase.Mark t n) = Marking used N S P pc pt t.0
RecordOk words used N S P pc pt (phase.Promote t n true) = Moving words used N S P pc pt t.0 n.0 × (flag_of words t.0 ≡ 2)
RecordOk words used N S P pc pt (phase.Promote t n false) = Moving words used N S P pc pt t.0 n.0
RecordOk words used N S P pc pt (phase.Clear t n) = Moving words used N S P pc pt t.0 n.0 × (flag_of words t.0 ≡ 2)
RecordOk words used N S P pc pt (phase.Push t n) = Moving words used N S P pc pt t.0 n.0
RecordOk words used N S P pc pt (phase.Held p slot) = Unit {0}
RecordOk words used N S P pc pt phase.Filled = Unit {0}

-- ---- flags

-- a record in this phase owns the update mark in p's word: it made the mark and has yet to clear it
abbrev pub Owns : WriterPhase → ℕ → Type 0
Owns phase.Want p = ⊥
Owns (phase.Mark t n) p = ⊥
Owns (phase.Promote t n true) p = t.0 ≡ p
Owns (phase.Promote t n false) p = ⊥
Owns (phase.Clear t n) p = t.0 ≡ p
Owns (phase.Push t n) p = ⊥
Owns (phase.Held q slot) p = ⊥
Owns phase.Filled p = ⊥

-- it owns none
abbrev pub Free : WriterPhase → Type 0
Free ph = (p : ℕ) → ¬ Owns ph p

-- no word has both flags, and each update mark has one owner
pub record Owners (words : List ℕ) (N : ℕ) (stack : List Writer) (depth : ℕ) : Type 0 where
  pub small : (p : ℕ) → p ≤ N → flag_of words p ≤ 2
  pub some : (p : ℕ) → p ≤ N → flag_of words p ≡ 2 → (i : ℕ) × (i < depth) × Owns (phase_at stack i) p
  pub one : (i j p : ℕ) → i < depth → j < depth → Owns (phase_at stack i) p → Owns (phase_at stack j) p → i ≡ j

-- what a record above the owner of (t, n) may do while there is no header mark
abbrev pub Above : ℕ → ℕ → WriterPhase → Type 0
Above t n phase.Want = Unit {0}
Above t n (phase.Mark a b) = (a.0 ≡ t) × (b.0 ≡ n)
Above t n (phase.Promote a b true) = ⊥
Above t n (phase.Promote a b false) = (a.0 ≡ t) × (b.0 ≡ n)
Above t n (phase.Clear a b) = ⊥
Above t n (phase.Push a b) = ⊥
Above t n (phase.Held q slot) = ⊥
Above t n phase.Filled = ⊥

-- the newest page has the header mark, and no other ring page has one
pub record Headed (words : List ℕ) (N : ℕ) (P : ℕ → ℕ) : Type 0 where
  pub last : flag_of words (P N) ≡ 1
  pub only : (p : ℕ) → p ≤ N → p ≢ P 0 → flag_of words p ≡ 1 → p ≡ P N

-- between a Marked and the next Promoted: no header mark, and record a is in PROMOTE with the mark its own
pub record Headless (words : List ℕ) (N : ℕ) (P : ℕ → ℕ) (tail pc : ℕ) (stack : List Writer) (depth : ℕ) : Type 0 where
  pub none : (p : ℕ) → p ≤ N → p ≢ P 0 → flag_of words p ≢ 1
  pub last : flag_of words (P N) ≡ 0
  pub tailed : tail ≡ P (N - 1)
  pub ahead : 1 ≤ pc
  pub a : ℕ
  pub below : a < depth
  pub owner : phase_at stack a ≡ Promote (P (N - 1)) (P N) true
  pub above : (i : ℕ) → a < i → i < depth → Above (P (N - 1)) (P N) (phase_at stack i)

pub data Flags (words : List ℕ) (N : ℕ) (P : ℕ → ℕ) (tail pc : ℕ) (stack : List Writer) (depth : ℕ) : Type 0 where
  headed : Headed words N P → Flags words N P tail pc stack depth
  headless : Headless words N P tail pc stack depth → Flags words N P tail pc stack depth

-- ---- order

-- where tail and commit page stand; ring pages before the tail page are full, and so is the reader page while it is the commit page and not the tail page; pages after
-- the tail page are empty
pub record Order (used : List ℕ) (N S tail commit : ℕ) (P : ℕ → ℕ) (pc pt : ℕ) : Type 0 where
  pub tail_at : P pt ≡ tail
  pub commit_at : P pc ≡ commit
  pub le : pc ≤ pt
  pub top : pt ≤ N
  pub room : N < length used
  pub cap : get_or used tail 0 ≤ S
  pub full : (i : ℕ) → 1 ≤ i → i < pt → get_or used (P i) 0 ≡ S
  pub full0 : pc ≡ 0 → 0 < pt → get_or used (P 0) 0 ≡ S
  pub empty : (i : ℕ) → pt < i → i ≤ N → get_or used (P i) 0 ≡ 0

-- while the commit page is the reader page, its word leads to the oldest page and has no header mark
pub record Joined (words : List ℕ) (P : ℕ → ℕ) : Type 0 where
  pub next : next_of words (P 0) ≡ P 1
  pub flag : flag_of words (P 0) ≢ 1

-- FOUND and READY (p, h): p and h are ring pages, and the commit page is one; READY: the reader page's word is the page after h, HEADER
abbrev pub ReaderOk : List ℕ → ℕ → ℕ → ℕ → ReaderPhase → Type 0
ReaderOk words N R pc reading.Idle = Unit {0}
ReaderOk words N R pc (reading.Found p h) = (1 ≤ pc) × (p.0 ≤ N) × (p.0 ≢ R) × (h.0 ≤ N) × (h.0 ≢ R)
ReaderOk words N R pc (reading.Ready p h) =
    (1 ≤ pc) × (p.0 ≤ N) × (p.0 ≢ R) × (h.0 ≤ N) × (h.0 ≢ R) × (get_or words R 0 ≡ 4 * next_of words h.0 + 1)

-- ---- all of it

abbrev pub RecordIn : State → (ℕ → ℕ) → ℕ → ℕ → WriterPhase → Type 0
RecordIn s L pc pt ph = RecordOk s.words s.used (N s) (S s) (place (R s) L) pc pt ph

abbrev pub HeadedIn : State → (ℕ → ℕ) → Type 0
HeadedIn s L = Headed s.words (N s) (place (R s) L)

abbrev pub HeadlessIn : State → (ℕ → ℕ) → ℕ → Type 0
HeadlessIn s L pc = Headless s.words (N s) (place (R s) L) (T s) pc s.stack s.depth

abbrev pub FlagsIn : State → (ℕ → ℕ) → ℕ → Type 0
FlagsIn s L pc = Flags s.words (N s) (place (R s) L) (T s) pc s.stack s.depth

abbrev pub OwnersIn : State → Type 0
OwnersIn s = Owners s.words (N s) s.stack s.depth

abbrev pub OrderIn : State → (ℕ → ℕ) → ℕ → ℕ → Type 0
OrderIn s L pc pt = Order s.used (N s) (S s) (T s) (C s) (place (R s) L) pc pt

abbrev pub ReaderIn : State → ℕ → Type 0
ReaderIn s pc = ReaderOk s.words (N s) (R s) pc s.reader

-- A step makes this record anew, field by field: `record b { .. }` keeps the type of b, and this type names what the step changes.
pub record Control (s : State) (L : ℕ → ℕ) (pc pt : ℕ) : Type 0 where
  pub links : Links s.words (N s) (R s) L
  pub order : OrderIn s L pc pt
  pub joined : pc ≡ 0 → Joined s.words (place (R s) L)
  pub flags : FlagsIn s L pc
  pub owners : OwnersIn s
  pub depth : s.depth ≤ length s.stack
  pub records : (i : ℕ) → i < s.depth → RecordIn s L pc pt (phase_at s.stack i)
  pub reader : ReaderIn s pc
