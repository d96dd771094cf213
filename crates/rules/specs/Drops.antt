-- Request E3 in its own words, of every state, reached or not: what a Write that is answered Dropped leaves.
-- Assumes nothing.
use Rattle.std.specs.Prelude.{◌≡◌, ◌≢◌, ℕ, ◌+◌, ◌-◌}
use Rattle.rules.specs.State.{with_commit_page, with_commit_index, with_committed, State}
use Rattle.rules.specs.Write.{drop, commit, write_rule}
use Rattle.rules.specs.declared.state.PageNo.{PageNo}
use Rattle.rules.specs.declared.state.Answer.TheVariants.{Dropped}

-- "commit page, commit index and committed"
pub record Committing : Type 0 where
  pub page : PageNo
  pub index : ℕ
  pub committed : ℕ

abbrev pub committing : State → Committing
committing s = record { page = s.places.commit; index = s.places.index; committed = s.counts.committed }

abbrev pub with_committing : Committing → State → State
with_committing c s = with_commit_page c.page (with_commit_index c.index (with_committed c.committed s))

-- after is what the drop leaves of the state s
pub record DropLeaves (s after : State) : Type 0 where
  pub counted : after.counts.dropped ≡ s.counts.dropped + 1
  pub popped : after.depth ≡ s.depth - 1
  -- "a drop at depth 1 moves commit page, commit index and committed exactly as a commit there does"
  pub moves : s.depth ≡ 1 → after ≡ with_committing (committing (commit s)) (drop s)
  -- deeper, as 01 has it: "nothing else"
  pub stays : s.depth ≢ 1 → after ≡ drop s

abbrev pub Drops : Type 0
Drops = (s : State) → (write_rule s).answer ≡ Dropped → DropLeaves s (write_rule s).state
