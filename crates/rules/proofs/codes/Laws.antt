-- The code of an answer is that of one of the kinds; the answer is had back from its numbers, so that two answers never have the same; and the values among them are
-- those that the answer tells. Assumes nothing.
use mathlib.Core.Path.{◌≡◌, refl}
use mathlib.Core.List.{[], ◌∷◌}
use Prim.Native.Nat.{◌<◌}
use native.Mathlib.Omega.{arith}
use lib.ListN.{length, take}
use Rattle.rules.specs.Answers.{told}
use Rattle.rules.specs.Codes.{kinds, refusal_code, numbers_of, answer_of}
use Rattle.rules.specs.declared.state.Refusal.{Refusal}
use Rattle.rules.specs.declared.state.Refusal.TheVariants.{Shape, Depth, Nobody, Worn, SetUp, Mark, Version, Sizes, Action, Room}
use Rattle.rules.specs.declared.state.Answer.{Answer}
use Rattle.rules.specs.declared.state.Answer.TheVariants.{Accepted, Begun, Reserved, Looked, Dropped, Marked, Shared, Retry, Promoted, Standing, Cleared, Pushed, Passed, Filled, Committed, Pending, Event, Empty, Found, Busy, Prepared, Swapped, Missed, Refused}

pub refusal-below : (why : Refusal) → refusal_code why < kinds
refusal-below Shape = omega arith
refusal-below Depth = omega arith
refusal-below Nobody = omega arith
refusal-below Worn = omega arith
refusal-below SetUp = omega arith
refusal-below Mark = omega arith
refusal-below Version = omega arith
refusal-below Sizes = omega arith
refusal-below Action = omega arith
refusal-below Room = omega arith

pub code_below : (a : Answer) → (numbers_of a).code < kinds
code_below Accepted = omega arith
code_below (Begun _) = omega arith
code_below (Reserved _) = omega arith
code_below Looked = omega arith
code_below Dropped = omega arith
code_below Marked = omega arith
code_below Shared = omega arith
code_below Retry = omega arith
code_below Promoted = omega arith
code_below Standing = omega arith
code_below Cleared = omega arith
code_below Pushed = omega arith
code_below Passed = omega arith
code_below Filled = omega arith
code_below (Committed _) = omega arith
code_below Pending = omega arith
code_below (Event _ _) = omega arith
code_below Empty = omega arith
code_below Found = omega arith
code_below Busy = omega arith
code_below Prepared = omega arith
code_below Swapped = omega arith
code_below Missed = omega arith
code_below (Refused why) = omega (arith, refusal-below why)

pub answer_back : (a : Answer) → answer_of (numbers_of a) ≡ a
answer_back Accepted = refl
answer_back (Begun _) = refl
answer_back (Reserved _) = refl
answer_back Looked = refl
answer_back Dropped = refl
answer_back Marked = refl
answer_back Shared = refl
answer_back Retry = refl
answer_back Promoted = refl
answer_back Standing = refl
answer_back Cleared = refl
answer_back Pushed = refl
answer_back Passed = refl
answer_back Filled = refl
answer_back (Committed _) = refl
answer_back Pending = refl
answer_back (Event _ _) = refl
answer_back Empty = refl
answer_back Found = refl
answer_back Busy = refl
answer_back Prepared = refl
answer_back Swapped = refl
answer_back Missed = refl
answer_back (Refused Shape) = refl
answer_back (Refused Depth) = refl
answer_back (Refused Nobody) = refl
answer_back (Refused Worn) = refl
answer_back (Refused SetUp) = refl
answer_back (Refused Mark) = refl
answer_back (Refused Version) = refl
answer_back (Refused Sizes) = refl
answer_back (Refused Action) = refl
answer_back (Refused Room) = refl

-- the first values are those in the answer's brackets
pub values-told : (a : Answer) → take (length (told a).values) ((numbers_of a).first ∷ (numbers_of a).second ∷ []) ≡ (told a).values
values-told Accepted = refl
values-told (Begun _) = refl
values-told (Reserved _) = refl
values-told Looked = refl
values-told Dropped = refl
values-told Marked = refl
values-told Shared = refl
values-told Retry = refl
values-told Promoted = refl
values-told Standing = refl
values-told Cleared = refl
values-told Pushed = refl
values-told Passed = refl
values-told Filled = refl
values-told (Committed _) = refl
values-told Pending = refl
values-told (Event _ _) = refl
values-told Empty = refl
values-told Found = refl
values-told Busy = refl
values-told Prepared = refl
values-told Swapped = refl
values-told Missed = refl
values-told (Refused why) = refl
