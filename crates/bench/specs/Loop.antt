-- The timed loop: readings in stop mode, each written and then read, an action at a time.
-- Assumes nothing.
use Rattle.std.specs.Prelude.{cond, ℕ, zero, suc, ltb}
use Rattle.rules.specs.Answers.{Outcome}
use Rattle.rules.specs.SetUp.{fresh_rule}
use Rattle.rules.specs.Act.{act}
use Rattle.rules.specs.State.{State}
use Rattle.rules.specs.declared.state.Action.{Action}
use Rattle.rules.specs.declared.state.Action.TheVariants.{Begin, Write, Read}

-- a Write while a writer is at work, then Reads until nothing waits, then a Begin
abbrev pub next_action : ℕ → ℕ → ℕ → ℕ → Action
next_action depth handed committed value = cond (ltb 0 depth) Write (cond (ltb handed committed) Read (Begin value))

abbrev pub next_on : State → ℕ → Outcome
next_on r i = act r (next_action r.depth r.counts.handed r.counts.committed i)

-- the outcome of the first k actions
unfoldable pub looped : ℕ → Outcome
looped zero = fresh_rule 16 16 1
looped (suc k) = next_on (looped k).state k

-- how many readings they hand out
abbrev pub handed_after : ℕ → ℕ
handed_after k = (looped k).state.counts.handed
