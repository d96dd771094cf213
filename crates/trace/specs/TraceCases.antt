-- Worked traces: what each refusal tells, with its number and, for 9, "the offset of that action's first byte"; and that 10 comes before 9 only where
-- answers have no place. Request E1 has no such cases; these fix by an example each what a caller is told.
-- Assumes nothing.
use Rattle.std.specs.Prelude.{◌≡◌, List, [], ◌∷◌, ◌++◌, ℕ, replicate}
use Rattle.rules.specs.Answers.{tells_of, says}
use Rattle.rules.specs.Replay.{ReplayOutcome}
use Rattle.trace.specs.Header.{first_action, header_rule}
use Rattle.trace.specs.Replays.{replayed_from}
use Rattle.trace.specs.Encode.{header_bytes, put_header_rule, put_action_rule}
use Rattle.rules.specs.declared.state.Action.TheVariants.{Begin}

-- the small ring of the paper, a Begin, and a byte that is no action, at offset 13
unfoldable pub broken : List ℕ
broken = header_bytes 2 1 0 ++ (1 ∷ 70 ∷ 0 ∷ 0 ∷ 0 ∷ 4 ∷ [])

-- its replay, with a buffer of so many numbers
abbrev pub with_room : ℕ → ReplayOutcome
with_room room = replayed_from broken first_action (replicate room 7)

pub record TraceCases : Type 0 where
  -- the one answer has a place: 9, with its offset; it has none: 10
  pub nine : (with_room 3).tells ≡ tells_of 9 (13 ∷ [])
  pub made : (with_room 3).made ≡ 1
  pub ten : (with_room 2).tells ≡ tells_of 10 []
  -- what a header tells: N, S and the mode that the ring gets, which byte 2 leaves to the plain ring; or a refusal's number
  pub ready : (header_rule (header_bytes 16 4 2)).tells ≡ says (16 ∷ 4 ∷ 0 ∷ [])
  pub mark : (header_rule (80 ∷ 84 ∷ [])).tells ≡ tells_of 6 []
  pub version : (header_rule (80 ∷ 84 ∷ 82 ∷ 0 ∷ 1 ∷ [])).tells ≡ tells_of 7 []
  pub sizes : (header_rule (header_bytes 17 4 2)).tells ≡ tells_of 8 []
  -- what the encoder tells: the place after what was put, or a refusal's number
  pub put : (put_action_rule 20 8 (Begin 70)).tells ≡ says (13 ∷ [])
  pub long : (put_action_rule 70000 65532 (Begin 70)).tells ≡ tells_of 6 []
  pub short : (put_header_rule 7 2 1 0).tells ≡ tells_of 10 []
