-- Writing a trace, so that what a logger writes is what the bench reads: the bytes of the header and of an action, where they stand, and when a call
-- is refused.
-- Assumes nothing.
use Rattle.std.specs.Prelude.{not, List, [], ◌∷◌, ◌++◌, ℕ, ◌+◌, ◌/◌, ◌%◌, ltb, length, take, drop, Result, Ok, Err}
use Rattle.rules.specs.Lists.{first}
use Rattle.rules.specs.State.{size_of}
use Rattle.rules.specs.Answers.{Told, says, refuses}
use Rattle.rules.specs.Shape.{size_fits}
use Rattle.rules.specs.Actions.{action_bytes}
use Rattle.trace.specs.Header.{most_length, letter_p, letter_t, letter_r, version, first_action}
use Rattle.rules.specs.declared.state.Refusal.{Refusal}
use Rattle.rules.specs.declared.state.Refusal.TheVariants.{Mark, Sizes, Room}
use Rattle.rules.specs.declared.state.Action.{Action}

-- "the mark "PTR", version 1 in two bytes, low first, then N, S and mode, one byte each"
abbrev pub header_bytes : ℕ → ℕ → ℕ → List ℕ
header_bytes pages slots mode = letter_p ∷ letter_t ∷ letter_r ∷ version % 256 ∷ version / 256 % 256 ∷ pages ∷ slots ∷ mode ∷ []

-- some bytes put at a place of others, the rest kept
abbrev pub put : List ℕ → ℕ → List ℕ → List ℕ
put bytes at out = take at out ++ bytes ++ drop (at + length bytes) out

-- what is there after a call: where it was refused, what was there before
abbrev pub kept : Result ℕ Refusal → List ℕ → List ℕ → List ℕ
kept (Ok next) new old = new
kept (Err why) new old = old

-- what a call gives: the place after what was put, or a refusal; and what that tells: the place, or the refusal's number
pub record PutOutcome : Type 0 where
  pub place : Result ℕ Refusal
  pub tells : Told

abbrev pub told_put : Result ℕ Refusal → Told
told_put (Ok next) = says (next ∷ [])
told_put (Err why) = refuses why

abbrev pub put_gives : Result ℕ Refusal → PutOutcome
put_gives p = record { place = p; tells = told_put p }

-- the place after so many bytes from a place on: refused with 6 where the trace would be "longer than that", then with 10 where the bytes lent are too few
abbrev pub place_for : ℕ → ℕ → ℕ → Result ℕ Refusal
place_for capacity at count =
    first
    ((ltb most_length (at + count), Err Mark)
    ∷ (ltb capacity (at + count), Err Room)
    ∷ [])
    (Ok (at + count))

-- the header: refused with 8 where the set-up is "out of range", then with 10 where the bytes lent are too few
abbrev pub header_place : ℕ → ℕ → ℕ → ℕ → Result ℕ Refusal
header_place capacity pages slots mode =
    first
    ((not (size_fits (size_of pages slots mode)), Err Sizes)
    ∷ (ltb capacity first_action, Err Room)
    ∷ [])
    (Ok first_action)

abbrev pub put_header_rule : ℕ → ℕ → ℕ → ℕ → PutOutcome
put_header_rule capacity pages slots mode = put_gives (header_place capacity pages slots mode)

abbrev pub header_put : List ℕ → ℕ → ℕ → ℕ → List ℕ
header_put out pages slots mode = kept (header_place (length out) pages slots mode) (put (header_bytes pages slots mode) 0 out) out

-- an action
abbrev pub action_place : ℕ → ℕ → Action → Result ℕ Refusal
action_place capacity at a = place_for capacity at (length (action_bytes a))

abbrev pub put_action_rule : ℕ → ℕ → Action → PutOutcome
put_action_rule capacity at a = put_gives (action_place capacity at a)

abbrev pub action_put : List ℕ → ℕ → Action → List ℕ
action_put out at a = kept (action_place (length out) at a) (put (action_bytes a) at out) out
