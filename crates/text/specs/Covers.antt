-- What a trace's refusal, by its number, says of what was read: 0 for none. Assumes nothing.
use Rattle.std.specs.Prelude.{ℕ, Bool, ◌||◌, ◌==◌}
use Rattle.rules.specs.Answers.{refusal_number}
use Rattle.rules.specs.declared.state.Refusal.TheVariants.{Action}

-- it was read whole
abbrev pub is_whole : ℕ → Bool
is_whole refusal = refusal == 0

-- a ring was set up: "On 9 the state is that after the last whole action; on the others it is the plain ring."
abbrev pub has_ring : ℕ → Bool
has_ring refusal = refusal == 0 || refusal == refusal_number Action
