-- After every list of actions from the ring of an accepted set-up the invariant holds.
-- Assumes nothing.
use mathlib.Core.Path.{◌≡◌, refl, sym, subst}
use mathlib.Core.Bool.{true}
use mathlib.Core.List.{List, [], ◌∷◌}
use Prim.Native.Nat.{ℕ}
use Rattle.rules.specs.State.{size_of, State}
use Rattle.rules.specs.Shape.{size_fits}
use Rattle.rules.specs.SetUp.{fresh_ring, fresh_rule}
use Rattle.rules.specs.Act.{act}
use Rattle.rules.specs.Remember.{History}
use Rattle.rules.specs.History.{value_in, Run, nothing, next, after, run_of, run_at}
use Rattle.rules.specs.declared.state.Refusal.TheVariants as refusal
use Rattle.rules.specs.declared.state.Answer.TheVariants as answer
use Rattle.rules.specs.declared.state.Action.{Action}
use Rattle.rules.specs.declared.state.Action.TheVariants as action
use Rattle.rules.proofs.Lists.{by_bool}
use Rattle.rules.proofs.runs.Begin.{begin-next}
use Rattle.rules.proofs.runs.Fresh.{fresh-invariant}
use Rattle.rules.proofs.runs.Invariant.{Invariant, Next}
use Rattle.rules.proofs.runs.Read.{read_next}
use Rattle.rules.proofs.runs.Write.{write-next}

action-next : (s : State) (h : History) → Invariant s h → (a : Action) → Next (value_in a) s h (act s a)
action-next s h g (action.Begin v) = begin-next v s h g
action-next s h g action.Write = write-next 0 s h g
action-next s h g action.Read = read_next 0 s h g

pub after-invariant : (actions : List Action) (r : Run) → Invariant r.now r.past → Invariant (after r actions).now (after r actions).past
after-invariant [] r g = g
after-invariant (a ∷ rest) r g = after-invariant rest (next r a) (action-next r.now r.past g a)

-- an accepted set-up is one whose sizes fit
pub accepted-fits : (pages slots mode : ℕ) → (fresh_rule pages slots mode).answer ≡ answer.Accepted → size_fits (size_of pages slots mode) ≡ true
accepted-fits pages slots mode e =
    by_bool (size_fits (size_of pages slots mode))
    (λ t. t)
    (λ f.
    let refused : answer.Refused refusal.SetUp ≡ answer.Accepted = rw f at e in
    absurd cc)

pub fresh-is : (pages slots mode : ℕ) → size_fits (size_of pages slots mode) ≡ true → (fresh_rule pages slots mode).state ≡ fresh_ring (size_of pages slots mode)
fresh-is pages slots mode e = rw e refl

pub always : (pages slots mode : ℕ) → (fresh_rule pages slots mode).answer ≡ answer.Accepted → (actions : List Action)
    → Invariant (run_of pages slots mode actions).now (run_of pages slots mode actions).past
always pages slots mode accepted actions =
    let fits = accepted-fits pages slots mode accepted in
    let start = subst (λ (s : State). Invariant s nothing) (sym (fresh-is pages slots mode fits)) (fresh-invariant (size_of pages slots mode) fits) in
    after-invariant actions (run_at (fresh_rule pages slots mode).state nothing) start
