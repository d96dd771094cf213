-- Begin keeps the accounts: one record more, before its reservation, and one writer more at work.
-- Assumes nothing.
use mathlib.Core.Path.{◌≡◌, sym, ap, ◌∙◌, subst}
use mathlib.Core.List.{List, [], ◌∷◌, ◌++◌}
use Prim.Native.Nat.{ℕ, ◌+◌, ◌<◌}
use native.Mathlib.Omega.{arith}
use native.Mathlib.Numerals.{add-one}
use lib.ListN.{length, set, length-set}
use Rattle.rules.specs.State.{writer, State}
use Rattle.rules.specs.Begin.{begin}
use Rattle.rules.specs.Remember.{BegunWriter, By, History, begun_writer}
use Rattle.rules.specs.History.{on_begun}
use Rattle.rules.specs.declared.state.WriterPhase.{WriterPhase}
use Rattle.rules.specs.declared.state.WriterPhase.TheVariants as phase
use Rattle.rules.specs.declared.state.Writer.{Writer}
use Rattle.rules.proofs.Lists.{by-eq}
use Rattle.rules.proofs.invariant.Order.{S, R, phase_at, stored_at, place}
use Rattle.rules.proofs.invariant.Control.{Owns}
use Rattle.rules.proofs.invariant.Accounts.{HeldOk, earlies, worker_at, AtWork, Accounts}
use Rattle.rules.proofs.accounts.Laws.{value_same, value-other, earlies-top}
use Rattle.rules.proofs.accounts.Working.{begun-length, begun-old, begun-new}
use Rattle.rules.proofs.order.Records.{phase-same, phase-other}

module _ {s : State} {h : History} {L : ℕ → ℕ} {pc pt a r0 gap : ℕ} (b : Accounts s h L pc pt a r0 gap) (v : ℕ) (room : s.depth < length s.stack) where
  abbrev new : Writer
  new = writer v phase.Want

  abbrev stack' : List Writer
  stack' = set s.stack s.depth new

  abbrev working' : List BegunWriter
  working' = h.working ++ (begun_writer h.begins v ∷ [])

  abbrev Ok : ℕ → WriterPhase → Type 0
  Ok = HeldOk s.numbers s.used (S s) (place (R s) L) pc pt s.counts.committed h.readings

  held' : (i : ℕ) → i < s.depth + 1 → Ok (stored_at stack' i) (phase_at stack' i)
  held' i hi =
      by-eq i s.depth
      (λ z. subst (Ok (stored_at stack' i)) (sym (ap (phase_at stack') z ∙ phase-same s.stack s.depth new room)) tt)
      (λ n. rw (value-other s.stack s.depth i new n, phase-other s.stack s.depth i new n) (b.values.held i (omega arith)))

  work' : AtWork h.marker stack' (s.depth + 1) working'
  work' =
      let k = b.work in
      record {
        many = begun-length h.working k.many _;
        value = λ i hi.
            by-eq i s.depth
            (λ z. ap (λ (j : ℕ). (worker_at working' j).value) z ∙ ap (λ (w : BegunWriter). w.value) (begun-new h.working k.many _)
            ∙ sym (ap (stored_at stack') z ∙ value_same s.stack s.depth new room))
            (λ n. ap (λ (w : BegunWriter). w.value) (begun-old h.working k.many _ i (omega arith)) ∙ k.value i (omega arith) ∙ sym (value-other s.stack s.depth i new n));
        marks = λ i p hi o.
            by-eq i s.depth
            (λ z. absurd (subst (λ (f : WriterPhase). Owns f p) (ap (phase_at stack') z ∙ phase-same s.stack s.depth new room) o))
            (λ n. k.marks i p (omega arith) (subst (λ (f : WriterPhase). Owns f p) (phase-other s.stack s.depth i new n) o)
            ∙ ap (λ (w : BegunWriter). By w.nth) (sym (begun-old h.working k.many _ i (omega arith))));
      }

  earlies-new : earlies stack' (s.depth + 1) ≡ 1 + earlies s.stack s.depth
  earlies-new = rw add-one (earlies-top s.stack s.depth new room)

  pub begun-accounts : Accounts (begin v s).state (on_begun v h) L pc pt a r0 gap
  begun-accounts =
      record {
        contents = b.contents;
        sums = b.sums;
        values = record {
          held = held';
          stored = λ p j hp hj no.
              b.values.stored p j hp hj (λ i hi z. no i (omega arith) (phase-other s.stack s.depth i new (omega arith) ∙ z));
        };
        quiet = b.quiet;
        recorded = b.recorded;
        work = work';
        balance = omega (arith, b.balance, earlies-new);
        stack_room = length-set s.stack s.depth new ∙ b.stack_room;
      }
