-- Worked replays: where a buffer is too short for the answers. Request E1 has no buffer; these fix by an example each that room is wanted for the
-- answers of the actions, and not for each byte, and what an unknown action leaves and tells.
-- Assumes nothing.
use Rattle.std.specs.Prelude.{◌≡◌, List, [], ◌∷◌, ℕ, length, replicate}
use Rattle.rules.specs.Limits.{overwrite_mode}
use Rattle.rules.specs.Answers.{tells_of}
use Rattle.rules.specs.Actions.{encoded}
use Rattle.rules.specs.Replay.{told_replay, replay_rule, buffer_rule, ReplayOutcome}
use Rattle.rules.specs.declared.state.Action.TheVariants.{Begin}
use Rattle.rules.specs.declared.state.Refusal.TheVariants.{SetUp, Action, Room}
use Rattle.rules.specs.declared.state.Answer.TheVariants.{Accepted, Refused}

-- thirteen Begins, of which four are accepted and the others refused with 2: "A refused Begin or Write in the trace is an ordinary answer"
unfoldable pub thirteen_begins : List ℕ
thirteen_begins = encoded (replicate 13 (Begin 70))

-- a Write, and a byte that is no action
abbrev pub then_unknown : List ℕ
then_unknown = 2 ∷ 9 ∷ []

-- on the small ring of the paper, with a buffer of so many sevens
abbrev pub on_small : List ℕ → ℕ → ReplayOutcome
on_small bytes room = replay_rule 2 1 overwrite_mode bytes (replicate room 7)

pub record ReplayCases : Type 0 where
  pub bytes : length thirteen_begins ≡ 65
  -- three numbers for each of the thirteen answers are enough, and one number less is not
  pub enough : (on_small thirteen_begins 39).answer ≡ Accepted
  pub made : (on_small thirteen_begins 39).made ≡ 13
  pub short : (on_small thirteen_begins 38).answer ≡ Refused Room
  pub number : (on_small thirteen_begins 38).tells.refusal ≡ 10
  pub kept : buffer_rule 2 1 overwrite_mode thirteen_begins (replicate 38 7) ≡ replicate 38 7
  -- no action wants no room; a set-up is refused first
  pub none : (on_small [] 0).answer ≡ Accepted
  pub first : (replay_rule 1 1 overwrite_mode thirteen_begins []).answer ≡ Refused SetUp
  -- an unknown action has no answer: room for the one before it is enough, and the replay stops there
  pub before : (on_small then_unknown 3).made ≡ 1
  pub stop : (on_small then_unknown 3).stop ≡ 1
  -- "9 ... with the offset of that action's first byte"
  pub offset : told_replay (Refused Action) 13 ≡ tells_of 9 (13 ∷ [])
