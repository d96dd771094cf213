-- One action more of the timed loop.
-- Assumes nothing.
use mathlib.Core.Path.{◌≡◌, ap, ◌∙◌}
use Prim.Native.Nat.{ℕ, suc, ◌+◌}
use native.Mathlib.Omega.{arith}
use Rattle.rules.specs.Answers.{Outcome}
use Rattle.ring.specs.Ring.{state_of, outcome}
use Rattle.bench.specs.Loop.{next_on, looped}
use Rattle.ring.specs.declared.state.Step.{Step}

-- where s is the step of the first i actions, what comes next on its ring is that of the first i + 1
pub looped-next : {s : Step} {o : Outcome} (i : ℕ) → outcome s ≡ looped i → o ≡ next_on (state_of s.ring) i → o ≡ looped (i + 1)
unfolding looped
looped-next i here next =
    let one : suc i ≡ i + 1 = omega arith in
    next ∙ ap (λ (q : Outcome). next_on q.state i) here ∙ ap looped one
