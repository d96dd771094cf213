-- The refusals and their order. "Refusals by number": 1 SHAPE, 2 DEPTH, 3 NOBODY, 4 WORN, 5 SETUP. "Order: 1 before all, 2 before 4."
-- In each list the first row that applies decides; `fits` says whether the ring is in shape.
-- Assumes nothing.
use Rattle.std.specs.Prelude.{Bool, not, [], ◌∷◌, ℕ, eqb, Result, Ok, Err}
use Rattle.rules.specs.Limits.{most_depth, most_count}
use Rattle.rules.specs.Lists.{first}
use Rattle.rules.specs.Answers.{Outcome, gives}
use Rattle.rules.specs.State.{State}
use Rattle.rules.specs.declared.state.Refusal.{Refusal}
use Rattle.rules.specs.declared.state.Refusal.TheVariants.{Shape, Depth, Nobody, Worn, SetUp}
use Rattle.rules.specs.declared.state.Answer.TheVariants as answer

-- SHAPE "an action ... on a state not in shape", DEPTH "Begin at depth 4", WORN "Begin with begun = 4,294,967,295"
abbrev pub begin_verdict : Bool → ℕ → ℕ → Result (Unit {0}) Refusal
begin_verdict fits depth begun =
    first
    ((not fits, Err Shape)
    ∷ (eqb depth most_depth, Err Depth)
    ∷ (eqb begun most_count, Err Worn)
    ∷ [])
    (Ok tt)

-- SHAPE as before, NOBODY "Write at depth 0"
abbrev pub write_verdict : Bool → ℕ → Result (Unit {0}) Refusal
write_verdict fits depth = first ((not fits, Err Shape) ∷ (eqb depth 0, Err Nobody) ∷ []) (Ok tt)

-- a Read is refused with SHAPE alone
abbrev pub read_verdict : Bool → Result (Unit {0}) Refusal
read_verdict fits = first ((not fits, Err Shape) ∷ []) (Ok tt)

-- SETUP "fresh with N, S or mode out of range"; `fits` says whether they are in range
abbrev pub set_up_verdict : Bool → Result (Unit {0}) Refusal
set_up_verdict fits = first ((not fits, Err SetUp) ∷ []) (Ok tt)

-- "Comes back": the ring r with the refusal, or, of an action that is allowed, the outcome of its rule
abbrev pub judged : Result (Unit {0}) Refusal → State → Outcome → Outcome
judged (Ok allowed) r o = o
judged (Err why) r o = gives (answer.Refused why) r
