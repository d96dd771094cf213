-- Begin keeps the invariant.
-- Assumes nothing.
use mathlib.Core.Path.{sym, ap}
use mathlib.Core.Logic.{◌≢◌}
use Prim.Native.Nat.{ℕ, ◌<◌}
use native.Mathlib.Omega.{arith}
use borrow.Author.Tests.{eqb-false}
use lib.Dec.{eqb}
use lib.ListN.{length}
use Rattle.rules.specs.Limits.{most_depth, most_count}
use Rattle.rules.specs.Shape.{in_shape}
use Rattle.rules.specs.Begin.{begin, begin_rule}
use Rattle.rules.specs.Remember.{History}
use Rattle.rules.specs.State.{State}
use Rattle.rules.proofs.Lists.{by_bool}
use Rattle.rules.proofs.invariant.Accounts.{early}
use Rattle.rules.proofs.accounts.Begin.{begun-accounts}
use Rattle.rules.proofs.bounds.Steps.{bounds-begin}
use Rattle.rules.proofs.control.Begin.{begun-control}
use Rattle.rules.proofs.fates.Steps.{fates-begun}
use Rattle.rules.proofs.order.Records.{phase-same, phase-other}
use Rattle.rules.proofs.runs.Invariant.{Invariant, holds, Next}

module _ (v : ℕ) (s : State) (h : History) (g : Invariant s h) where
  -- a Begin that is allowed
  begun-next : s.depth ≢ most_depth → s.counts.begun ≢ most_count → Next v s h (begin v s)
  begun-next shallow fresh =
      let room : s.depth < length s.stack = omega (arith, g.control.depth, g.accounts.stack_room) in
      holds g.L g.pc g.pt g.a g.r0 g.gap
      (begun-control g.control v room)
      (begun-accounts g.accounts v room)
      (fates-begun g.fates v (λ i hi. sym (ap early (phase-other s.stack s.depth i _ (omega arith)))) (ap early (phase-same s.stack s.depth _ room)))
      (bounds-begin s g.bounds room fresh v)
      (λ none. absurd (omega arith))

  pub begin-next : Next v s h (begin_rule s v)
  begin-next =
      by_bool (in_shape s)
      (λ fits.
      by_bool (eqb s.depth most_depth)
      (λ d. rw (fits, d) g)
      (λ d.
      by_bool (eqb s.counts.begun most_count)
      (λ w. rw (fits, d, w) g)
      (λ w. rw (fits, d, w) (begun-next (eqb-false _ _ d) (eqb-false _ _ w)))))
      (λ fits. rw fits g)
