-- A push keeps the accounts: the tail moves on from a full page to an empty one.
-- Assumes nothing.
use mathlib.Core.Path.{◌≡◌}
use Prim.Native.Nat.{ℕ, suc}
use native.Mathlib.Omega.{arith}
use Rattle.rules.specs.State.{page, with_tail, State}
use Rattle.rules.specs.Remember.{History}
use Rattle.rules.proofs.invariant.Order.{S, R, T, used_of, phase_at, stored_at, place}
use Rattle.rules.proofs.invariant.Accounts.{Accounts}
use Rattle.rules.proofs.accounts.Laws.{held-map}

pub tail-accounts : {s : State} {h : History} {L : ℕ → ℕ} {pc pt a r0 gap : ℕ} → Accounts s h L pc pt a r0 gap
    → (n : ℕ) → used_of s (T s) ≡ S s → used_of s n ≡ 0 → Accounts (with_tail (page n) s) h L pc (suc pt) a r0 gap
tail-accounts {s} {h} {L} {pc} {pt} b n full empty =
    let c = b.sums in
    record {
      contents = b.contents;
      sums = record {
        taken_is = omega (arith, c.taken_is);
        committed_is = c.committed_is;
        indexed = c.indexed;
        read = c.read;
        read_committed = c.read_committed;
        joined = c.joined;
        reader_from = c.reader_from;
        ring_from = c.ring_from;
        total = c.total;
      };
      values = record {
        held = λ i hi.
            held-map s.numbers s.numbers s.used s.used (S s) (place (R s) L) (place (R s) L) pc pc pt (suc pt) s.counts.committed
            s.counts.committed h.readings h.readings
            (λ p j v o. record { k = o.k; lo = o.lo; hi = omega arith; is = o.is; slot = o.slot; late = o.late; own = o.own })
            (stored_at s.stack i) (phase_at s.stack i) (b.values.held i hi);
        stored = b.values.stored;
      };
      quiet = b.quiet;
      recorded = b.recorded;
      work = b.work;
      balance = b.balance;
      stack_room = b.stack_room;
    }
