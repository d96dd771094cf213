-- With no record left, all that is taken is committed and the accounts are kept: what the outermost writer's commit and its drop share.
-- Assumes nothing.
use mathlib.Core.Path.{◌≡◌, sym, ap, ◌∙◌}
use mathlib.Core.List.{List}
use Prim.Native.Nat.{ℕ}
use native.Mathlib.Omega.{arith}
use borrow.Author.Tests.{lt-ltb}
use Rattle.rules.specs.State.{State}
use Rattle.rules.specs.Write.{commit_taken}
use Rattle.rules.specs.Remember.{BegunWriter, Numbered, History}
use Rattle.rules.specs.History.{all_committed, with_all_committed}
use Rattle.rules.proofs.Lists.{by-eq}
use Rattle.rules.proofs.invariant.Order.{S, R, T, used_of, place}
use Rattle.rules.proofs.invariant.Control.{Control}
use Rattle.rules.proofs.invariant.Accounts.{Sums, nth_value, Ordered, lost_of, Past, Accounts}
use Rattle.rules.proofs.accounts.Readings.{length-all_committed, all_committed-number, all_committed-own, all_committed-committed}

module _ {s : State} {h : History} {L : ℕ → ℕ} {pc pt a r0 gap : ℕ} (v : Control s L pc pt) (b : Accounts s h L pc pt a r0 gap) (none : s.depth ≡ 0) where
  abbrev readings' : List Numbered
  readings' = all_committed h.readings

  same-value : (m : ℕ) → nth_value h.readings m ≡ nth_value readings' m
  same-value m = ap (λ (w : BegunWriter). w.value) (sym (all_committed-own h.readings m))

  sums' : Sums (S s) (used_of s (R s)) (used_of s (T s)) (used_of s (T s)) (used_of s (T s)) s.places.position s.counts.taken s.counts.taken
      s.counts.handed s.counts.overwritten pt pt a r0 gap
  sums' =
      let c = b.sums in
      let o = v.order in
      record {
        taken_is = c.taken_is;
        committed_is = c.taken_is;
        indexed = omega arith;
        read = c.read;
        read_committed = λ z.
            let y : used_of s (R s) ≡ used_of s (T s) = ap (used_of s) (ap (place (R s) L) (sym z) ∙ o.tail_at) in
            omega (arith, c.read);
        joined = λ z. c.joined (omega (arith, o.le));
        reader_from = λ z. c.reader_from (omega (arith, o.le));
        ring_from = λ z.
            by-eq pc 0
            (λ y. omega (arith, o.full0 y (omega arith), c.joined y, c.reader_from y))
            (λ y. c.ring_from (omega arith));
        total = c.total;
      }

  past' : Past h.events (lost_of h.overwritings) readings' s.counts.handed s.counts.overwritten r0 s.places.position (used_of s (R s)) gap
  past' =
      let k = b.recorded.past in
      record {
        handed_is = k.handed_is;
        overwritten_is = k.overwritten_is;
        given = k.given;
        rising = k.rising;
        own = λ i hi. k.own i hi ∙ same-value _;
        lost_low = k.lost_low;
        lost_apart = k.lost_apart;
        lost_rising = k.lost_rising;
        covered = k.covered;
        gone = k.gone;
        apart = k.apart;
      }

  ordered' : Ordered readings' s.counts.taken s.counts.taken
  ordered' =
      let o = b.recorded.ordered in
      record {
        size = length-all_committed h.readings ∙ o.size;
        nth = λ k hk. all_committed-number h.readings k ∙ o.nth k hk;
        committed_below = λ k hk.
            all_committed-committed h.readings k (omega (arith, o.size)) ∙ sym (lt-ltb k s.counts.taken hk);
      }

  pub commit-accounts : Accounts (commit_taken s) (with_all_committed h) L pt pt a r0 gap
  commit-accounts =
      record {
        contents = b.contents;
        sums = sums';
        values = record {
          held = λ i hi. absurd (omega arith);
          stored = λ p j hp hj new. b.values.stored p j hp hj new ∙ same-value _;
        };
        quiet = b.quiet;
        recorded = record {
          past = past';
          ordered = ordered';
          rightly = b.recorded.rightly;
        };
        work = b.work;
        balance = b.balance;
        stack_room = b.stack_room;
      }
