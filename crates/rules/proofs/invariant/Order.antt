-- The order of the ring pages, and the letters that the proofs of demand 3 use: N, S as in the rules; R, T and C the numbers of the reader page, the tail page and the
-- commit page; L i, for every i, a ring page: L 0 the oldest, L (i + N) the same as L i; P the pages by place: the reader page at place 0, L from place 1 on. Everywhere s is
-- the ring, h the history, v its control, b its accounts and g the whole invariant.
-- Assumes nothing.
use mathlib.Core.Path.{◌≡◌}
use mathlib.Core.Logic.{◌≢◌}
use mathlib.Core.Bool.{Bool, cond}
use mathlib.Core.List.{List}
use Prim.Native.Nat.{ℕ, zero, suc, ◌+◌, ◌-◌, ◌*◌, ◌/◌, ◌%◌, ◌≤◌, ◌<◌}
use lib.Dec.{eqb}
use lib.ListN.{length, get_or}
use Rattle.rules.specs.State.{page, writer, record_at, State}
use Rattle.rules.specs.declared.state.WriterPhase.{WriterPhase}
use Rattle.rules.specs.declared.state.WriterPhase.TheVariants as phase
use Rattle.rules.specs.declared.state.Writer.{Writer}
use Rattle.rules.specs.declared.state.ReaderPhase.{ReaderPhase}
use Rattle.rules.specs.declared.state.ReaderPhase.TheVariants as reading

-- ---- the letters

abbrev pub N : State → ℕ
N s = s.size.pages

abbrev pub S : State → ℕ
S s = s.size.slots

abbrev pub R : State → ℕ
R s = s.places.reader.0

abbrev pub T : State → ℕ
T s = s.places.tail.0

abbrev pub C : State → ℕ
C s = s.places.commit.0

-- the place of the top record in the stack
abbrev pub top_at : State → ℕ
top_at s = s.depth - 1

-- ---- what stands where, by a page's number

abbrev pub next_of : List ℕ → ℕ → ℕ
next_of words p = get_or words p 0 / 4

abbrev pub flag_of : List ℕ → ℕ → ℕ
flag_of words p = get_or words p 0 % 4

abbrev pub used_of : State → ℕ → ℕ
used_of s p = get_or s.used p 0

-- where slot j of page p stands in the arrays of slots
abbrev pub cell : ℕ → ℕ → ℕ → ℕ
cell S p j = p * S + j

abbrev pub phase_at : List Writer → ℕ → WriterPhase
phase_at stack i = (record_at stack i).phase

abbrev pub stored_at : List Writer → ℕ → ℕ
stored_at stack i = (record_at stack i).value

-- the record at i with another phase
abbrev pub rephase : List Writer → ℕ → WriterPhase → Writer
rephase stack i ph = writer (stored_at stack i) ph

-- ---- phases, by the numbers of their pages

abbrev pub Mark : ℕ → ℕ → WriterPhase
Mark t n = phase.Mark (page t) (page n)

abbrev pub Promote : ℕ → ℕ → Bool → WriterPhase
Promote t n own = phase.Promote (page t) (page n) own

abbrev pub Clear : ℕ → ℕ → WriterPhase
Clear t n = phase.Clear (page t) (page n)

abbrev pub Push : ℕ → ℕ → WriterPhase
Push t n = phase.Push (page t) (page n)

abbrev pub Held : ℕ → ℕ → WriterPhase
Held p slot = phase.Held (page p) slot

abbrev pub Found : ℕ → ℕ → ReaderPhase
Found p h = reading.Found (page p) (page h)

abbrev pub Ready : ℕ → ℕ → ReaderPhase
Ready p h = reading.Ready (page p) (page h)

-- ---- the order

-- A fact about L and the reader page alone: L goes through all ring pages, each once, and starts again after N.
pub record Cycle (N R : ℕ) (L : ℕ → ℕ) : Type 0 where
  pub two : 2 ≤ N
  pub reader : R ≤ N
  pub bound : (i : ℕ) → L i ≤ N
  pub off : (i : ℕ) → L i ≢ R
  pub period : (i : ℕ) → L (i + N) ≡ L i
  pub once : (i j : ℕ) → i < N → j < N → L i ≡ L j → i ≡ j
  pub onto : (p : ℕ) → p ≤ N → p ≢ R → (i : ℕ) × (i < N) × (L i ≡ p)

-- the words follow it
pub record Linked (words : List ℕ) (N : ℕ) (L : ℕ → ℕ) : Type 0 where
  pub room : N < length words
  pub step : (i : ℕ) → next_of words (L i) ≡ L (suc i)

pub record Links (words : List ℕ) (N R : ℕ) (L : ℕ → ℕ) : Type 0 where
  pub cycle : Cycle N R L
  pub linked : Linked words N L

-- the pages by place
abbrev pub place : ℕ → (ℕ → ℕ) → ℕ → ℕ
place R L zero = R
place R L (suc i) = L i

-- ---- how it changes

-- an overwriting: the oldest page becomes the newest
abbrev pub turn : (ℕ → ℕ) → ℕ → ℕ
turn L i = L (suc i)

-- x with the page h replaced by r
unfoldable pub instead : ℕ → ℕ → ℕ → ℕ
instead h r x = cond (eqb x h) r x

-- a swap: turned by one, with the old reader page in the place of the oldest
abbrev pub swapped : (ℕ → ℕ) → ℕ → ℕ → ℕ
swapped L R i = instead (L 0) R (L (suc i))
