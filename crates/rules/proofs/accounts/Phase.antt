-- Steps that leave the numbers alone keep the accounts: another word, another phase of the reader, another phase of a record before its reservation.
-- Assumes nothing.
use mathlib.Core.Path.{◌≡◌, refl, sym, ap, ◌∙◌, subst}
use mathlib.Core.List.{List}
use Prim.Native.Nat.{ℕ, suc, ◌+◌, ◌≤◌, ◌<◌}
use native.Mathlib.Omega.{arith}
use lib.ListN.{length, set, length-set}
use Rattle.rules.specs.State.{with_words, with_reader, top, set_phase, State}
use Rattle.rules.specs.Remember.{History}
use Rattle.rules.specs.declared.state.WriterPhase.{WriterPhase}
use Rattle.rules.specs.declared.state.Writer.{Writer}
use Rattle.rules.specs.declared.state.ReaderPhase.{ReaderPhase}
use Rattle.rules.proofs.Lists.{by-eq}
use Rattle.rules.proofs.invariant.Order.{S, R, top_at, used_of, phase_at, stored_at, rephase, Held, place}
use Rattle.rules.proofs.invariant.Control.{Owns}
use Rattle.rules.proofs.invariant.Accounts.{HeldOk, Quiet, early, earlies, Accounts}
use Rattle.rules.proofs.accounts.Laws.{value_same, value-other, earlies-top, held-early, work-top}
use Rattle.rules.proofs.order.Records.{phase-same, phase-other}

-- a record before its reservation holds no slot
pub early-not-held : {ph : WriterPhase} (p j : ℕ) → early ph ≡ 1 → ph ≡ Held p j → ⊥
early-not-held p j was z = omega (arith, ap early z)

module _ {s : State} {h : History} {L : ℕ → ℕ} {pc pt a r0 gap : ℕ} (b : Accounts s h L pc pt a r0 gap) where
  -- no clause reads the words, and one reads the reader's phase
  pub read-accounts : (words : List ℕ) (ph : ReaderPhase) → Quiet ph s.places.position (used_of s (R s)) → Accounts (with_words words (with_reader ph s)) h L pc pt a r0 gap
  read-accounts words ph q =
      record {
        contents = b.contents;
        sums = b.sums;
        values = b.values;
        quiet = q;
        recorded = b.recorded;
        work = b.work;
        balance = b.balance;
        stack_room = b.stack_room;
      }

  pub words-accounts : (words : List ℕ) → Accounts (with_words words s) h L pc pt a r0 gap
  words-accounts words = read-accounts words s.reader b.quiet

  pub reader-accounts : (ph : ReaderPhase) → Quiet ph s.places.position (used_of s (R s)) → Accounts (with_reader ph s) h L pc pt a r0 gap
  reader-accounts ph q = read-accounts s.words ph q

  module _ (deep : 1 ≤ s.depth) (room : s.depth ≤ length s.stack) where
    abbrev Ok : ℕ → WriterPhase → Type 0
    Ok = HeldOk s.numbers s.used (S s) (place (R s) L) pc pt s.counts.committed h.readings

    -- every record's held slot, after the top record is replaced
    pub held-top : (w : Writer) → Ok w.value w.phase → (i : ℕ) → i < s.depth → Ok (stored_at (set s.stack (top_at s) w) i) (phase_at (set s.stack (top_at s) w) i)
    held-top w o i hi =
        by-eq i (top_at s)
        (λ z.
        subst (λ (k : ℕ). Ok (stored_at (set s.stack (top_at s) w) k) (phase_at (set s.stack (top_at s) w) k)) (sym z)
        (rw (value_same s.stack (top_at s) w (omega arith), phase-same s.stack (top_at s) w (omega arith)) o))
        (λ n. rw (value-other s.stack (top_at s) i w n, phase-other s.stack (top_at s) i w n) (b.values.held i hi))

    -- no record held the slot before, if none does now and the top one did not
    pub unheld : (w : Writer) (p j : ℕ) → ((top s).phase ≡ Held p j → ⊥) → ((i : ℕ) → i < s.depth → phase_at (set s.stack (top_at s) w) i ≡ Held p j → ⊥)
        → (i : ℕ) → i < s.depth → phase_at s.stack i ≡ Held p j → ⊥
    unheld w p j was new i hi z =
        by-eq i (top_at s)
        (λ y. was (ap (phase_at s.stack) (sym y) ∙ z))
        (λ n. new i hi (phase-other s.stack (top_at s) i w n ∙ z))

    -- the count of early records, with the top record apart
    pub balance-top : s.counts.begun ≡ s.counts.taken + s.counts.dropped + (early (top s).phase + earlies s.stack (top_at s))
    balance-top =
        let d : s.depth ≡ suc (top_at s) = omega arith in
        b.balance ∙ ap (λ (k : ℕ). s.counts.taken + s.counts.dropped + earlies s.stack k) d

    -- the same after the top record is replaced
    pub earlies-set : (w : Writer) → earlies (set s.stack (top_at s) w) s.depth ≡ early w.phase + earlies s.stack (top_at s)
    earlies-set w =
        let d : s.depth ≡ suc (top_at s) = omega arith in
        ap (earlies (set s.stack (top_at s) w)) d ∙ earlies-top s.stack (top_at s) w (omega arith)

    -- an early record becomes another early record
    pub phase-accounts : (ph : WriterPhase) → early (top s).phase ≡ 1 → early ph ≡ 1 → ((p : ℕ) → Owns ph p → Owns (top s).phase p)
        → Accounts (set_phase ph s) h L pc pt a r0 gap
    phase-accounts ph was is own =
        let w = rephase s.stack (top_at s) ph in
        record {
          contents = b.contents;
          sums = b.sums;
          values = record {
            held = held-top w (held-early s.numbers s.used (S s) (place (R s) L) pc pt s.counts.committed h.readings (stored_at s.stack (top_at s)) ph is);
            stored = λ p j hp hj no. b.values.stored p j hp hj (unheld w p j (early-not-held p j was) no);
          };
          quiet = b.quiet;
          recorded = b.recorded;
          work = work-top h.marker s.stack s.depth (top_at s) w h.working (omega arith) refl own b.work;
          balance = omega (arith, balance-top, earlies-set w);
          stack_room = length-set s.stack (top_at s) w ∙ b.stack_room;
        }
