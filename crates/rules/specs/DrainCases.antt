-- Worked drains: two readings in the small ring of the paper, a ring whose drain the eight Reads in a row end, and one that its drain takes out of
-- shape. Request E2 has no such cases; these fix by an example each what no other statement here does: how an Event is stored, what the buffer keeps,
-- where the eight end, and what the last answer tells, of rings out of shape too. The last one shows that a refusal on the way ends the Reads.
-- Assumes nothing.
use Rattle.std.specs.Prelude.{◌≡◌, [], ◌∷◌, ◌+◌, ◌^◌, Some, None}
use Rattle.rules.specs.Limits.{overwrite_mode}
use Rattle.rules.specs.State.{page, reading, size_of, with_commit_page, with_commit_index, with_position, State}
use Rattle.rules.specs.Answers.{tells_of}
use Rattle.rules.specs.SetUp.{fresh_ring}
use Rattle.rules.specs.Replay.{state_after}
use Rattle.rules.specs.Drain.{drain_rule, buffer_after}
use Rattle.rules.specs.declared.state.Refusal.TheVariants.{Shape}
use Rattle.rules.specs.declared.state.Answer.TheVariants as answer
use Rattle.rules.specs.declared.state.Action.TheVariants.{Begin, Write}

-- K1 and K2: N = 2, S = 1, readings 0 and 1 with values 70 and 71
unfoldable pub two_readings : State
two_readings =
    state_after (fresh_ring (size_of 2 1 overwrite_mode))
    (Begin 70 ∷ Write ∷ Write ∷ Write ∷ Begin 71 ∷ Write ∷ Write ∷ Write ∷ Write ∷ Write ∷ [])

-- in shape, and reached by no run: every page is empty, and commit stands on the third page from the reader page
unfoldable pub commit_ahead : State
commit_ahead = with_commit_page (page 2) (fresh_ring (size_of 3 1 overwrite_mode))

-- out of shape: commit stands on a page that the ring does not have
unfoldable pub commit_nowhere : State
commit_nowhere = with_commit_page (page 4) (fresh_ring (size_of 3 1 overwrite_mode))

-- out of shape: the read position is past the slots that a page has
unfoldable pub position_past : State
position_past = with_position 2 (fresh_ring (size_of 3 1 overwrite_mode))

-- in shape, and reached by no run: two slots of the reader page are to be handed out and committed is 0, so that an Event takes the ring out of shape
unfoldable pub none_committed : State
none_committed = with_commit_page (page 3) (with_commit_index 2 (fresh_ring (size_of 3 2 overwrite_mode)))

pub record DrainCases : Type 0 where
  -- "until ... an answer is Empty"; "Each Event is stored as number × 2^32 + value"
  pub events : (drain_rule two_readings 3).events ≡ 70 ∷ (2 ^ 32 + 71) ∷ []
  pub empty : (drain_rule two_readings 3).last ≡ Some answer.Empty
  -- "the rest keeps its old contents"
  pub rest : buffer_after (drain_rule two_readings 3) (7 ∷ 8 ∷ 9 ∷ []) ≡ 70 ∷ (2 ^ 32 + 71) ∷ 9 ∷ []
  -- "until the buffer is full"
  pub full : (drain_rule two_readings 1).last ≡ Some (answer.Event (reading 0) 70)
  -- what the last answer tells: a number and a value, or a refusal's number
  pub told : (drain_rule two_readings 1).tells ≡ tells_of 0 (0 ∷ 70 ∷ [])
  pub refused : (drain_rule commit_nowhere 0).tells ≡ tells_of 1 []
  pub refused_position : (drain_rule position_past 0).tells ≡ tells_of 1 []
  -- "length 0 means no Read, ... last answer "none""
  pub no_read : (drain_rule two_readings 0).last ≡ None
  -- "or eight Reads in a row have brought none of these and no Event": Found, Prepared, Swapped, the same again, Found, Prepared
  pub eighth : (drain_rule commit_ahead 1).last ≡ Some answer.Prepared
  -- "or an answer is ... a refusal": no second Event, since the first took the ring out of shape
  pub out_of_shape : (drain_rule none_committed 2).events ≡ 0 ∷ []
  pub out_of_shape_last : (drain_rule none_committed 2).last ≡ Some (answer.Refused Shape)
