-- An answer as numbers: the code of its kind, and the values in its brackets. Another answer has other numbers (`answer_back`, proofs/codes/Laws), and the values are
-- those that the answer tells (`values-told`). Assumes nothing.
use Rattle.std.specs.Prelude.{[], ◌∷◌, ℕ, ◌+◌, get_or}
use Rattle.rules.specs.State.{reading}
use Rattle.rules.specs.Answers.{refusal_number}
use Rattle.rules.specs.declared.state.Refusal.{Refusal}
use Rattle.rules.specs.declared.state.Refusal.TheVariants.{Shape, Depth, Nobody, Worn, SetUp, Mark, Version, Sizes, Action, Room}
use Rattle.rules.specs.declared.state.Answer.{Answer}
use Rattle.rules.specs.declared.state.Answer.TheVariants.{Accepted, Begun, Reserved, Looked, Dropped, Marked, Shared, Retry, Promoted, Standing, Cleared, Pushed, Passed, Filled, Committed, Pending, Event, Empty, Found, Busy, Prepared, Swapped, Missed, Refused}
use Rattle.rules.specs.declared.codes.Numbers.{Numbers}

-- how many kinds of answer there are, with each refusal as one of its own
abbrev pub kinds : ℕ
kinds = 33

-- the refusals follow the other kinds, the last of which has code 22, by their numbers in the rules
abbrev pub refusal_code : Refusal → ℕ
refusal_code why = 22 + refusal_number why

abbrev pub with_two : ℕ → ℕ → ℕ → Numbers
with_two code first second = record { code = code; first = first; second = second }

abbrev pub with_one : ℕ → ℕ → Numbers
with_one code first = with_two code first 0

abbrev pub kind : ℕ → Numbers
kind code = with_one code 0

abbrev pub numbers_of : Answer → Numbers
numbers_of Accepted = kind 0
numbers_of (Begun depth) = with_one 1 depth
numbers_of (Reserved n) = with_one 2 n.0
numbers_of Looked = kind 3
numbers_of Dropped = kind 4
numbers_of Marked = kind 5
numbers_of Shared = kind 6
numbers_of Retry = kind 7
numbers_of Promoted = kind 8
numbers_of Standing = kind 9
numbers_of Cleared = kind 10
numbers_of Pushed = kind 11
numbers_of Passed = kind 12
numbers_of Filled = kind 13
numbers_of (Committed count) = with_one 14 count
numbers_of Pending = kind 15
numbers_of (Event n v) = with_two 16 n.0 v
numbers_of Empty = kind 17
numbers_of Found = kind 18
numbers_of Busy = kind 19
numbers_of Prepared = kind 20
numbers_of Swapped = kind 21
numbers_of Missed = kind 22
numbers_of (Refused why) = kind (refusal_code why)

-- the answer that some numbers are: its kind by the code, with the values
abbrev pub answer_of : Numbers → Answer
answer_of n =
    get_or
    (Accepted
    ∷ Begun n.first
    ∷ Reserved (reading n.first)
    ∷ Looked
    ∷ Dropped
    ∷ Marked
    ∷ Shared
    ∷ Retry
    ∷ Promoted
    ∷ Standing
    ∷ Cleared
    ∷ Pushed
    ∷ Passed
    ∷ Filled
    ∷ Committed n.first
    ∷ Pending
    ∷ Event (reading n.first) n.second
    ∷ Empty
    ∷ Found
    ∷ Busy
    ∷ Prepared
    ∷ Swapped
    ∷ Missed
    ∷ Refused Shape
    ∷ Refused Depth
    ∷ Refused Nobody
    ∷ Refused Worn
    ∷ Refused SetUp
    ∷ Refused Mark
    ∷ Refused Version
    ∷ Refused Sizes
    ∷ Refused Action
    ∷ Refused Room
    ∷ [])
    n.code
    Accepted
