-- Answers: the number that a refusal has, the values that an answer tells, and what an action gives back. "Refusals by number"; "Where an
-- answer is an enum, a definition gives this paper's number and values for each case of the enum, and the promises use that definition."
-- Assumes nothing.
use Rattle.std.specs.Prelude.{List, [], ◌∷◌, ℕ}
use Rattle.rules.specs.State.{State}
use Rattle.rules.specs.declared.state.Refusal.{Refusal}
use Rattle.rules.specs.declared.state.Refusal.TheVariants.{Shape, Depth, Nobody, Worn, SetUp, Mark, Version, Sizes, Action, Room}
use Rattle.rules.specs.declared.state.Answer.{Answer}
use Rattle.rules.specs.declared.state.Answer.TheVariants.{Accepted, Begun, Reserved, Looked, Dropped, Marked, Shared, Retry, Promoted, Standing, Cleared, Pushed, Passed, Filled, Committed, Pending, Event, Empty, Found, Busy, Prepared, Swapped, Missed, Refused}

-- 1 SHAPE, 2 DEPTH, 3 NOBODY, 4 WORN, 5 SETUP; of a trace, 6 "longer than that, or mark wrong or cut", 7 "version other or cut", 8 "set-up cut, or
-- out of range", 9 "an unknown or cut action"; 10, a buffer lent that is too short
abbrev pub refusal_number : Refusal → ℕ
refusal_number Shape = 1
refusal_number Depth = 2
refusal_number Nobody = 3
refusal_number Worn = 4
refusal_number SetUp = 5
refusal_number Mark = 6
refusal_number Version = 7
refusal_number Sizes = 8
refusal_number Action = 9
refusal_number Room = 10

-- what an answer tells: the number of a refusal, 0 where nothing is refused, and the values in the answer's brackets, in their order
pub record Told : Type 0 where
  pub refusal : ℕ
  pub values : List ℕ

abbrev pub tells_of : ℕ → List ℕ → Told
tells_of refusal values = record { refusal = refusal; values = values }

abbrev pub says : List ℕ → Told
says values = tells_of 0 values

abbrev pub refuses : Refusal → Told
refuses why = tells_of (refusal_number why) []

abbrev pub told : Answer → Told
told Accepted = says []
told (Begun depth) = says (depth ∷ [])
told (Reserved n) = says (n.0 ∷ [])
told Looked = says []
told Dropped = says []
told Marked = says []
told Shared = says []
told Retry = says []
told Promoted = says []
told Standing = says []
told Cleared = says []
told Pushed = says []
told Passed = says []
told Filled = says []
told (Committed count) = says (count ∷ [])
told Pending = says []
told (Event n v) = says (n.0 ∷ v ∷ [])
told Empty = says []
told Found = says []
told Busy = says []
told Prepared = says []
told Swapped = says []
told Missed = says []
told (Refused why) = refuses why

-- "Each action takes a ring and gives the ring back, with an answer": these two, and what the answer tells.
pub record Outcome : Type 0 where
  pub state : State
  pub answer : Answer
  pub tells : Told

abbrev pub gives : Answer → State → Outcome
gives answer r = record { state = r; answer = answer; tells = told answer }
