-- HELD keeps control: only the phase changes, to FILLED; the value that is stored is not read by control.
-- Assumes nothing.
use mathlib.Core.Path.{◌≡◌, sym, subst}
use Prim.Native.Nat.{ℕ, ◌≤◌}
use Rattle.rules.specs.State.{page, top, State}
use Rattle.rules.specs.Write.{fill}
use Rattle.rules.specs.declared.state.WriterPhase.TheVariants as phase
use Rattle.rules.proofs.invariant.Order.{Held}
use Rattle.rules.proofs.invariant.Control.{Free, Above, Control}
use Rattle.rules.proofs.control.Phase.{top_above, unread-control, phase-control}

pub filled-control : {s : State} {L : ℕ → ℕ} {pc pt : ℕ} → Control s L pc pt → 1 ≤ s.depth → (p j : ℕ) → (top s).phase ≡ Held p j → Control (fill (page p) j s) L pc pt
filled-control v deep p j ph =
    let free = subst Free (sym ph) (λ q o. o) in
    unread-control
    (phase-control v deep phase.Filled free (λ q o. o) tt (λ o. absurd (subst (Above _ _) ph (top_above v deep free o))))
    _ _ _
