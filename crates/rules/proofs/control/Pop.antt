-- A popped record that owns no mark keeps control: a Pending and a Committed pop one in FILLED, a Dropped one in WANT.
-- Assumes nothing.
use mathlib.Core.Path.{◌≡◌, sym, subst}
use mathlib.Core.Logic.{◌≢◌}
use mathlib.Core.List.{List}
use Prim.Native.Nat.{ℕ, ◌≤◌, ◌<◌}
use native.Mathlib.Omega.{arith}
use lib.ListN.{set, length-set}
use Rattle.rules.specs.State.{no_writer, top, pop, State}
use Rattle.rules.specs.Write.{drop}
use Rattle.rules.specs.declared.state.WriterPhase.TheVariants as phase
use Rattle.rules.specs.declared.state.Writer.{Writer}
use Rattle.rules.proofs.invariant.Order.{N, R, T, top_at, phase_at, place}
use Rattle.rules.proofs.invariant.Control.{Owns, Free, Owners, Flags, headed, headless, FlagsIn, Control}
use Rattle.rules.proofs.control.Phase.{headless-records, stack-control, unread-control, not-owner}
use Rattle.rules.proofs.order.Records.{phase-other}

module _ {s : State} {L : ℕ → ℕ} {pc pt : ℕ} (v : Control s L pc pt) (deep : 1 ≤ s.depth) where
  abbrev stack' : List Writer
  stack' = set s.stack (top_at s) no_writer

  -- below the top the records stay
  below_top : (i : ℕ) → i < top_at s → phase_at stack' i ≡ phase_at s.stack i
  below_top i h = phase-other s.stack (top_at s) i no_writer (omega arith)

  flags-kept : Free (top s).phase → FlagsIn s L pc → Flags s.words (N s) (place (R s) L) (T s) pc stack' (top_at s)
  flags-kept free (headed h) = headed h
  flags-kept free (headless o) =
      let below = not-owner v deep free o in
      headless (headless-records o stack' (top_at s) below (below_top o.a below) (λ i lo hi. rw (below_top i hi) (o.above i lo (omega arith))))

  owners-kept : Free (top s).phase → Owners s.words (N s) stack' (top_at s)
  owners-kept free =
      record {
        small = v.owners.small;
        some = λ p hp f.
            let u = v.owners.some p hp f in
            let apart : u.0 ≢ top_at s = λ q. free p (subst (λ (i : ℕ). Owns (phase_at s.stack i) p) q u.2) in
            let below : u.0 < top_at s = omega (arith, u.1) in
            (u.0, below, rw (below_top u.0 below) u.2);
        one = λ i j p hi hj a b. v.owners.one i j p (omega arith) (omega arith) (rw (below_top i hi) at a) (rw (below_top j hj) at b);
      }

  -- the pop alone: all of Pending, and the first part of Dropped and Committed
  popped-control : Free (top s).phase → Control (pop s) L pc pt
  popped-control free =
      stack-control v _ _ _ (flags-kept free v.flags) (owners-kept free) (rw (length-set s.stack (top_at s) no_writer) (omega (arith, v.depth)))
      (λ i hi. rw (below_top i hi) (v.records i (omega arith)))

  pub finished-control : (top s).phase ≡ phase.Filled → Control (pop s) L pc pt
  finished-control ph = popped-control (subst Free (sym ph) (λ p o. o))

  pub dropped-control : (top s).phase ≡ phase.Want → Control (drop s) L pc pt
  dropped-control ph = unread-control (popped-control (subst Free (sym ph) (λ p o. o))) _ _ _
