-- A popped record keeps the accounts: a Pending and a Committed pop one in FILLED, a Dropped, which is counted, one in WANT.
-- Assumes nothing.
use mathlib.Core.Path.{◌≡◌, sym, ap, ◌∙◌, subst}
use mathlib.Core.List.{List}
use Prim.Native.Nat.{ℕ, ◌+◌, ◌≤◌}
use native.Mathlib.Omega.{arith}
use lib.ListN.{length, set, length-set}
use Rattle.rules.specs.State.{no_writer, with_dropped, top, pop, State}
use Rattle.rules.specs.Write.{drop}
use Rattle.rules.specs.Remember.{BegunWriter, By, with_droppers, History}
use Rattle.rules.specs.History.{others, on_ended, with_dropper}
use Rattle.rules.specs.declared.state.WriterPhase.{WriterPhase}
use Rattle.rules.specs.declared.state.WriterPhase.TheVariants as phase
use Rattle.rules.specs.declared.state.Writer.{Writer}
use Rattle.rules.proofs.Lists.{by-eq}
use Rattle.rules.proofs.invariant.Order.{N, S, R, top_at, phase_at, Held, place}
use Rattle.rules.proofs.invariant.Control.{Owns}
use Rattle.rules.proofs.invariant.Accounts.{Values, early, AtWork, Accounts}
use Rattle.rules.proofs.accounts.Laws.{value-other, earlies-above}
use Rattle.rules.proofs.accounts.Phase.{early-not-held, balance-top}
use Rattle.rules.proofs.accounts.Working.{others-length, others-at}
use Rattle.rules.proofs.order.Records.{phase-other}

module _ {s : State} {h : History} {L : ℕ → ℕ} {pc pt a r0 gap : ℕ} (b : Accounts s h L pc pt a r0 gap) (deep : 1 ≤ s.depth) (room : s.depth ≤ length s.stack) where
  abbrev stack' : List Writer
  stack' = set s.stack (top_at s) no_writer

  work' : AtWork h.marker stack' (top_at s) (others h.working)
  work' =
      let k = b.work in
      record {
        many = others-length h.working k.many deep;
        value = λ i hi.
            ap (λ (w : BegunWriter). w.value) (others-at h.working k.many i hi)
            ∙ k.value i (omega arith)
            ∙ sym (value-other s.stack (top_at s) i no_writer (omega arith));
        marks = λ i p hi o.
            k.marks i p (omega arith) (subst (λ (f : WriterPhase). Owns f p) (phase-other s.stack (top_at s) i no_writer (omega arith)) o)
            ∙ ap (λ (w : BegunWriter). By w.nth) (sym (others-at h.working k.many i hi));
      }

  -- the values, where the top record holds no slot
  values' : ((p j : ℕ) → (top s).phase ≡ Held p j → ⊥)
      → Values s.numbers s.values s.used (N s) (S s) stack' (top_at s) (place (R s) L) pc pt s.counts.committed h.readings
  values' free =
      record {
        held = λ i hi.
            rw (value-other s.stack (top_at s) i no_writer (omega arith), phase-other s.stack (top_at s) i no_writer (omega arith)) (b.values.held i (omega arith));
        stored = λ p j hp hj new.
            b.values.stored p j hp hj
            (λ i hi z.
            by-eq i (top_at s)
            (λ y. free p j (ap (phase_at s.stack) (sym y) ∙ z))
            (λ k. new i (omega arith) (phase-other s.stack (top_at s) i no_writer k ∙ z)));
      }

  -- the pop, with so many drops after it
  popped-accounts : (dropped : ℕ) (droppers : List BegunWriter) → ((p j : ℕ) → (top s).phase ≡ Held p j → ⊥) → s.counts.dropped + early (top s).phase ≡ dropped
      → Accounts (with_dropped dropped (pop s)) (on_ended (with_droppers droppers h)) L pc pt a r0 gap
  popped-accounts dropped droppers free q =
      record {
        contents = b.contents;
        sums = b.sums;
        values = values' free;
        quiet = b.quiet;
        recorded = b.recorded;
        work = work';
        balance = omega (arith, balance-top b deep room, earlies-above s.stack (top_at s) (top_at s) no_writer (omega arith));
        stack_room = length-set s.stack (top_at s) no_writer ∙ b.stack_room;
      }

  pub finished-accounts : (top s).phase ≡ phase.Filled → Accounts (pop s) (on_ended h) L pc pt a r0 gap
  finished-accounts q = popped-accounts s.counts.dropped h.droppers (λ p j z. cc) (omega (arith, ap early q))

  pub dropped-accounts : (top s).phase ≡ phase.Want → Accounts (drop s) (on_ended (with_dropper h)) L pc pt a r0 gap
  dropped-accounts q = popped-accounts (s.counts.dropped + 1) _ (λ p j. early-not-held p j (ap early q)) (omega (arith, ap early q))
