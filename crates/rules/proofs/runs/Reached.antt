-- A ring that actions reach from an accepted set-up has the invariant, with some history, and is in shape; and what more actions make of it
-- is reached again.
-- Assumes nothing.
use mathlib.Core.Path.{◌≡◌, refl, sym, ap, ◌∙◌, subst}
use mathlib.Core.Bool.{true}
use mathlib.Core.List.{List, [], ◌∷◌, ◌++◌}
use Rattle.rules.specs.Shape.{in_shape}
use Rattle.rules.specs.SetUp.{fresh_ring}
use Rattle.rules.specs.Act.{act}
use Rattle.rules.specs.Remember.{History}
use Rattle.rules.specs.History.{Run, nothing, next, after, run_at}
use Rattle.rules.specs.Replay.{state_after, Reached}
use Rattle.rules.specs.State.{State}
use Rattle.rules.specs.declared.state.Action.{Action}
use Rattle.rules.proofs.demand.Shape.{invariant-in_shape}
use Rattle.rules.proofs.runs.Always.{after-invariant}
use Rattle.rules.proofs.runs.Fresh.{fresh-invariant}
use Rattle.rules.proofs.runs.Invariant.{Invariant}

-- the ring of the run that demand 3 speaks of
pub after-now : (r : Run) (actions : List Action) → (after r actions).now ≡ state_after r.now actions
after-now r [] = refl
after-now r (a ∷ rest) = after-now (next r a) rest

pub after-append : (r : State) (past done : List Action) → state_after r (past ++ done) ≡ state_after (state_after r past) done
after-append r [] done = refl
after-append r (a ∷ past) done = after-append (act r a).state past done

pub reached-more : (r : State) → Reached r → (done : List Action) → Reached (state_after r done)
reached-more r h done =
    record {
      size = h.size;
      fits = h.fits;
      actions = h.actions ++ done;
      reached = ap (λ (q : State). state_after q done) h.reached ∙ sym (after-append (fresh_ring h.size) h.actions done);
    }

-- a ring with the invariant
pub record RingOk (s : State) : Type 0 where
  pub history : History
  pub all : Invariant s history

pub ok-shape : (s : State) → RingOk s → in_shape s ≡ true
ok-shape s g = invariant-in_shape g.all.control g.all.accounts g.all.bounds

pub reached-ok : (s : State) → Reached s → RingOk s
reached-ok s h =
    let start : Run = run_at (fresh_ring h.size) nothing in
    let now : RingOk (after start h.actions).now = record { history = _; all = after-invariant h.actions start (fresh-invariant h.size h.fits) } in
    rw h.reached (subst RingOk (after-now start h.actions) now)

pub reached-shape : (r : State) → Reached r → (done : List Action) → in_shape (state_after r done) ≡ true
reached-shape r h done = ok-shape (state_after r done) (reached-ok (state_after r done) (reached-more r h done))
