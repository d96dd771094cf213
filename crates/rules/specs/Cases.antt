-- The worked cases K1 to K12 of "A small ring on paper", as one table, and what it is for the table to hold of the rules.
-- A case is a set-up and rows; a row is some actions, their answers, and what is said of the ring after them. The table holds if it does
-- not change when each answer and each fact in it is replaced by what the rules give.
-- Assumes nothing.
use Rattle.std.specs.Prelude.{◌≡◌, false, List, [], ◌∷◌, ℕ, ◌+◌, take}
use Rattle.rules.specs.State.{reading}
use Rattle.rules.specs.Answers.{Outcome}
use Rattle.rules.specs.SetUp.{fresh_rule}
use Rattle.rules.specs.Receipt.{receipt, receipt_rule}
use Rattle.rules.specs.Act.{act}
use Rattle.rules.specs.declared.state.Action.{Action}
use Rattle.rules.specs.declared.state.Action.TheVariants.{Begin, Write, Read}
use Rattle.rules.specs.declared.state.Refusal.TheVariants as refusal
use Rattle.rules.specs.declared.state.Answer.{Answer}
use Rattle.rules.specs.declared.state.Answer.TheVariants.{Begun, Reserved, Looked, Dropped, Marked, Promoted, Cleared, Pushed, Filled, Committed, Pending, Event, Empty, Found, Busy, Prepared, Swapped, Refused}
use Rattle.rules.specs.declared.state.Receipt.{Receipt}

-- ---- what a row says

-- what is said of the ring, or of the last answer
pub data Fact : Type 0 where
  -- the words of pages 0 to N
  Words : List ℕ → Fact
  ReaderPage : ℕ → Fact
  -- commit page and commit index
  CommitAt : ℕ → ℕ → Fact
  OverwrittenIs : ℕ → Fact
  CommittedIs : ℕ → Fact
  DepthIs : ℕ → Fact
  ReceiptIs : Receipt → Fact
  -- the number of the refusal in the last answer, the set-up's answer where no action has come; 0: nothing was refused
  RefusalIs : ℕ → Fact

pub record Row : Type 0 where
  pub actions : List Action
  pub answers : List Answer
  pub facts : List Fact

abbrev pub row : List Action → List Answer → List Fact → Row
row actions answers facts = record { actions = actions; answers = answers; facts = facts }

-- a set-up, fresh (N, S, mode), and the rows that follow
pub record Case : Type 0 where
  pub pages : ℕ
  pub slots : ℕ
  pub mode : ℕ
  pub rows : List Row

abbrev pub from : ℕ → ℕ → ℕ → List Row → Case
from pages slots mode rows = record { pages = pages; slots = slots; mode = mode; rows = rows }

-- ---- the same with what the rules give

-- a fact, as it is of the last outcome
abbrev pub seen : Fact → Outcome → Fact
seen (Words ws) o = Words (take (o.state.size.pages + 1) o.state.words)
seen (ReaderPage p) o = ReaderPage o.state.places.reader.0
seen (CommitAt p i) o = CommitAt o.state.places.commit.0 o.state.places.index
seen (OverwrittenIs k) o = OverwrittenIs o.state.counts.overwritten
seen (CommittedIs k) o = CommittedIs o.state.counts.committed
seen (DepthIs d) o = DepthIs o.state.depth
seen (ReceiptIs t) o = ReceiptIs (receipt_rule o.state)
seen (RefusalIs k) o = RefusalIs o.tells.refusal

abbrev pub all_seen : List Fact → Outcome → List Fact
all_seen [] o = []
all_seen (f ∷ rest) o = seen f o ∷ all_seen rest o

-- a list of actions made one by one: their answers, and the last outcome
pub record Played : Type 0 where
  pub answers : List Answer
  pub last : Outcome

abbrev pub play : Outcome → List Action → Played
play o [] = record { answers = []; last = o }
play o (a ∷ rest) =
    let next = act o.state a in
    let p = play next rest in
    record { answers = next.answer ∷ p.answers; last = p.last }

abbrev pub ruled_rows : Outcome → List Row → List Row
ruled_rows o [] = []
ruled_rows o (k ∷ rest) =
    let p = play o k.actions in
    row k.actions p.answers (all_seen k.facts p.last) ∷ ruled_rows p.last rest

abbrev pub ruled : Case → Case
ruled k = from k.pages k.slots k.mode (ruled_rows (fresh_rule k.pages k.slots k.mode) k.rows)

abbrev pub all_ruled : List Case → List Case
all_ruled [] = []
all_ruled (k ∷ rest) = ruled k ∷ all_ruled rest

-- "proved of the written rules as a single table under one statement"
abbrev pub Holds : List Case → Type 0
Holds cases = all_ruled cases ≡ cases

-- ---- the table

-- "N = 2, S = 1, overwrite."
abbrev pub small : List Row → Case
small rows = from 2 1 0 rows

-- K1 to K8 are one run
unfoldable pub k1_to_k8 : Case
k1_to_k8 =
    small
    -- "Words start 4, 1, 0."
    (row [] [] (Words (4 ∷ 1 ∷ 0 ∷ []) ∷ RefusalIs 0 ∷ [])
    -- K1
    ∷ row (Begin 70 ∷ Write ∷ Write ∷ Write ∷ []) (Begun 1 ∷ Reserved (reading 0) ∷ Filled ∷ Committed 1 ∷ []) []
    -- K2
    ∷ row (Begin 71 ∷ Write ∷ Write ∷ Write ∷ Write ∷ Write ∷ [])
    (Begun 1 ∷ Looked ∷ Pushed ∷ Reserved (reading 1) ∷ Filled ∷ Committed 2 ∷ [])
    (CommitAt 1 1 ∷ [])
    -- K3
    ∷ row (Begin 72 ∷ Write ∷ Write ∷ []) (Begun 1 ∷ Looked ∷ Marked ∷ []) (Words (4 ∷ 2 ∷ 0 ∷ []) ∷ OverwrittenIs 1 ∷ [])
    -- K4
    ∷ row (Read ∷ []) (Busy ∷ []) []
    -- K5
    ∷ row (Write ∷ []) (Promoted ∷ []) (Words (5 ∷ 2 ∷ 0 ∷ []) ∷ [])
    ∷ row (Write ∷ []) (Cleared ∷ []) (Words (5 ∷ 0 ∷ 0 ∷ []) ∷ [])
    ∷ row (Write ∷ Write ∷ []) (Pushed ∷ Reserved (reading 2) ∷ []) []
    -- K6
    ∷ row (Read ∷ Read ∷ []) (Found ∷ Prepared ∷ []) (Words (5 ∷ 0 ∷ 1 ∷ []) ∷ [])
    ∷ row (Read ∷ []) (Swapped ∷ []) (Words (8 ∷ 0 ∷ 1 ∷ []) ∷ ReaderPage 1 ∷ [])
    -- K7
    ∷ row (Read ∷ Read ∷ []) (Event (reading 1) 71 ∷ Empty ∷ []) []
    -- K8
    ∷ row (Write ∷ Write ∷ []) (Filled ∷ Committed 3 ∷ []) []
    ∷ row (Read ∷ Read ∷ []) (Found ∷ Prepared ∷ []) (Words (8 ∷ 9 ∷ 1 ∷ []) ∷ [])
    ∷ row (Read ∷ []) (Swapped ∷ []) (Words (8 ∷ 9 ∷ 4 ∷ []) ∷ [])
    ∷ row (Read ∷ []) (Event (reading 2) 72 ∷ []) (ReceiptIs (receipt 0 3 3 2 1 0 0 0 false) ∷ [])
    ∷ [])

-- "Each from fresh again"
unfoldable pub k9 : ℕ → ℕ → ℕ → Case
k9 A B C =
    small
    (row (Begin A ∷ Write ∷ []) (Begun 1 ∷ Reserved (reading 0) ∷ []) []
    ∷ row (Begin B ∷ Write ∷ Write ∷ Write ∷ Write ∷ Write ∷ [])
    (Begun 2 ∷ Looked ∷ Pushed ∷ Reserved (reading 1) ∷ Filled ∷ Pending ∷ [])
    []
    ∷ row (Begin C ∷ Write ∷ []) (Begun 2 ∷ Dropped ∷ []) []
    ∷ row (Write ∷ Write ∷ []) (Filled ∷ Committed 2 ∷ []) []
    ∷ [])

unfoldable pub k10 : ℕ → ℕ → ℕ → Case
k10 A B C =
    small
    (row (Begin A ∷ []) (Begun 1 ∷ []) []
    ∷ row (Begin B ∷ Write ∷ Write ∷ Write ∷ []) (Begun 2 ∷ Reserved (reading 0) ∷ Filled ∷ Pending ∷ []) []
    ∷ row (Begin C ∷ Write ∷ Write ∷ Write ∷ Write ∷ Write ∷ [])
    (Begun 2 ∷ Looked ∷ Pushed ∷ Reserved (reading 1) ∷ Filled ∷ Pending ∷ [])
    []
    -- E3: "K10 now ends with commit (page 1, index 1), committed 2, answer still Dropped"
    ∷ row (Write ∷ []) (Dropped ∷ [])
    (DepthIs 0 ∷ CommitAt 1 1 ∷ CommittedIs 2 ∷ ReceiptIs (receipt 0 3 2 0 0 1 2 0 false) ∷ [])
    ∷ [])

unfoldable pub k11 : ℕ → ℕ → ℕ → ℕ → ℕ → Case
k11 A B C D E =
    small
    (row (Write ∷ []) (Refused refusal.Nobody ∷ []) (RefusalIs 3 ∷ [])
    ∷ row (Begin A ∷ Begin B ∷ Begin C ∷ Begin D ∷ []) (Begun 1 ∷ Begun 2 ∷ Begun 3 ∷ Begun 4 ∷ []) (RefusalIs 0 ∷ [])
    ∷ row (Begin E ∷ []) (Refused refusal.Depth ∷ []) (RefusalIs 2 ∷ [])
    ∷ [])

-- K12: a set-up with no action after it, and the number of its refusal
abbrev pub set_up_gets : ℕ → ℕ → ℕ → ℕ → Case
set_up_gets pages slots mode number = from pages slots mode (row [] [] (RefusalIs number ∷ []) ∷ [])

-- all of it; the values in the readings of K9 to K11 are any
unfoldable pub table : ℕ → ℕ → ℕ → ℕ → ℕ → List Case
table A B C D E =
    k1_to_k8
    ∷ k9 A B C
    ∷ k10 A B C
    ∷ k11 A B C D E
    ∷ set_up_gets 1 1 0 5
    ∷ set_up_gets 17 1 0 5
    ∷ set_up_gets 2 0 0 5
    ∷ set_up_gets 2 1 0 0
    ∷ set_up_gets 16 16 1 0
    ∷ []
