-- The claim from control, accounts, fates and none open, field by field; what each field rests on is proved in a file of its own.
-- Assumes nothing.
use mathlib.Core.Path.{sym, ◌∙◌}
use Prim.Native.Nat.{ℕ}
use native.Mathlib.Omega.{arith}
use borrow.Author.Tests.{lt-ltb}
use Rattle.rules.specs.History.{run_at}
use Rattle.rules.specs.Receipt.{receipt_of}
use Rattle.rules.specs.Remember.{History}
use Rattle.rules.specs.Demand.{Claim}
use Rattle.rules.specs.State.{State}
use Rattle.rules.proofs.invariant.Control.{Control}
use Rattle.rules.proofs.invariant.Accounts.{Accounts}
use Rattle.rules.proofs.invariant.Fates.{FatesOf}
use Rattle.rules.proofs.invariant.Open.{NoneOpen}
use Rattle.rules.proofs.accounts.Readings.{own_at, committed-at, numbered_below, numbered-once}
use Rattle.rules.proofs.demand.Counts.{given-numbered, handed-count, overwritten-count, open-count, waiting-count, sum}
use Rattle.rules.proofs.demand.Events.{given-value, given-rising, handed-once}
use Rattle.rules.proofs.demand.Marks.{visits, marks, clears}
use Rattle.rules.proofs.demand.Places.{open-from, settled-committed, one_place}

pub demand : {s : State} {h : History} {L : ℕ → ℕ} {pc pt a r0 gap : ℕ} → Control s L pc pt → Accounts s h L pc pt a r0 gap → FatesOf s h
    → NoneOpen s → Claim (receipt_of s.counts) (run_at s h)
demand {s} v b f none =
    record {
      working = b.work.many;
      numbered_once = numbered-once b.recorded.ordered;
      numbered_below = numbered_below b.recorded.ordered;
      one_place = one_place v b;
      handed_once = λ m x. handed-once b.recorded.past x;
      handed_value = λ m k x. given-value b.recorded.past x ∙ sym (own_at b.recorded.ordered m (given-numbered v b x));
      handed_numbered = λ m k x. given-numbered v b x;
      handed_count = handed-count v b;
      overwritten_count = overwritten-count v b;
      waiting_count = waiting-count v b;
      open_count = open-count v b;
      sum = sum v b;
      begun_count = sym f.begun_is;
      dropped_count = sym f.dropped_is;
      rising = λ m n j k x y lt. given-rising b.recorded.past x y lt;
      above = λ m n o x. omega (arith, open-from v b o, settled-committed v b x);
      oldest_taken = b.recorded.rightly;
      visits = visits v;
      marks = marks v b;
      clears = clears v b;
      each_committed = λ ended m lt. committed-at b.recorded.ordered m lt ∙ lt-ltb m s.counts.committed (omega (arith, none ended));
      none_open = λ ended. omega (arith, none ended);
    }
