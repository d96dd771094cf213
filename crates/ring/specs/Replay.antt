-- What a replay of the code comes to, in the rules' terms, and how an answer is laid in the buffer that is lent.
-- Assumes nothing.
use Rattle.std.specs.Prelude.{List, ℕ, ◌+◌, set}
use Rattle.rules.specs.Replay.{ReplayOutcome, replay_with}
use Rattle.ring.specs.Ring.{state_of}
use Rattle.rules.specs.declared.codes.Numbers.{Numbers}
use Rattle.ring.specs.declared.state.Replay.{Replay}

abbrev pub replay_outcome : Replay → ReplayOutcome
replay_outcome r = replay_with (state_of r.ring) r.answer r.made r.stop

-- one answer laid at a place
abbrev pub laid_at : List ℕ → ℕ → Numbers → List ℕ
laid_at buffer at n = set (set (set buffer at n.code) (at + 1) n.first) (at + 2) n.second
