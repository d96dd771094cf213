-- Begin keeps control: the new record is in WANT, which owns no mark and may stand above any owner.
-- Assumes nothing.
use mathlib.Core.Path.{◌≡◌, sym, ap, ◌∙◌, subst}
use mathlib.Core.Logic.{◌≢◌}
use mathlib.Core.List.{List}
use Prim.Native.Nat.{ℕ, ◌+◌, ◌-◌, ◌<◌}
use native.Mathlib.Omega.{arith}
use lib.ListN.{length, set, length-set}
use Rattle.rules.specs.State.{writer, State}
use Rattle.rules.specs.Begin.{begin}
use Rattle.rules.specs.declared.state.WriterPhase.{WriterPhase}
use Rattle.rules.specs.declared.state.WriterPhase.TheVariants as phase
use Rattle.rules.specs.declared.state.Writer.{Writer}
use Rattle.rules.proofs.Lists.{by-eq}
use Rattle.rules.proofs.invariant.Order.{N, R, phase_at, place}
use Rattle.rules.proofs.invariant.Control.{Owns, Above, headed, headless, RecordIn, FlagsIn, OwnersIn, Control}
use Rattle.rules.proofs.control.Phase.{headless-records, stack-control}
use Rattle.rules.proofs.order.Records.{phase-same, phase-other}

module _ {s : State} {L : ℕ → ℕ} {pc pt : ℕ} (v : Control s L pc pt) (b : ℕ) (room : s.depth < length s.stack) where
  abbrev new : Writer
  new = writer b phase.Want

  abbrev stack' : List Writer
  stack' = set s.stack s.depth new

  -- below the depth the records are the old ones, and at the depth it is the new one
  old-at : (i : ℕ) → i < s.depth → phase_at stack' i ≡ phase_at s.stack i
  old-at i h = phase-other s.stack s.depth i new (omega arith)

  new-at : phase_at stack' s.depth ≡ phase.Want
  new-at = phase-same s.stack s.depth new room

  -- a fact of every record
  each-record : (A : WriterPhase → Type 0) → A phase.Want → (i : ℕ) → i < s.depth + 1 → (i < s.depth → A (phase_at s.stack i)) → A (phase_at stack' i)
  each-record A want i hi old =
      by-eq i s.depth
      (λ q. subst A (sym (ap (phase_at stack') q ∙ new-at)) want)
      (λ n. subst A (sym (old-at i (omega arith))) (old (omega arith)))

  -- an owner is an old record
  owner-old : (i p : ℕ) → i < s.depth + 1 → Owns (phase_at stack' i) p → (i < s.depth) × Owns (phase_at s.stack i) p
  owner-old i p hi o =
      let below : i ≢ s.depth = λ q. subst (λ (ph : WriterPhase). Owns ph p) (ap (phase_at stack') q ∙ new-at) o in
      (omega arith, subst (λ (ph : WriterPhase). Owns ph p) (old-at i (omega arith)) o)

  flags-kept : FlagsIn s L pc → FlagsIn (begin b s).state L pc
  flags-kept (headed h) = headed h
  flags-kept (headless o) =
      headless (
      headless-records o stack' (s.depth + 1) (omega (arith, o.below)) (old-at o.a o.below)
      (λ i lo hi. each-record (Above (place (R s) L (N s - 1)) (place (R s) L (N s))) tt i hi (o.above i lo)))

  owners-kept : OwnersIn (begin b s).state
  owners-kept =
      record {
        small = v.owners.small;
        some = λ p hp f.
            let u = v.owners.some p hp f in
            (u.0, omega (arith, u.1), subst (λ (ph : WriterPhase). Owns ph p) (sym (old-at u.0 u.1)) u.2);
        one = λ i j p hi hj x y.
            let a = owner-old i p hi x in
            let b = owner-old j p hj y in
            v.owners.one i j p a.0 b.0 a.1 b.1;
      }

  pub begun-control : Control (begin b s).state L pc pt
  begun-control =
      stack-control v _ _ _ (flags-kept v.flags) owners-kept (rw (length-set s.stack s.depth new) (omega arith))
      (λ i hi. each-record (RecordIn s L pc pt) tt i hi (v.records i))
