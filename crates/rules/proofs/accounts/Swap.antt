-- A successful swap keeps the accounts: all of the old reader page was handed out, the numbers of the gap were lost, and every place moves down by one.
-- Assumes nothing.
use mathlib.Core.Path.{◌≡◌, refl, sym, ◌∙◌, subst}
use mathlib.Core.Logic.{◌≢◌, inl, inr}
use mathlib.Core.List.{List}
use Prim.Native.Nat.{ℕ, suc, ◌+◌, ◌-◌, ◌*◌, ◌≤◌, ◌<◌}
use native.Mathlib.Omega.{arith}
use lib.ListN.{length, get_or, set}
use Rattle.rules.specs.State.{page, State}
use Rattle.rules.specs.Read.{swap}
use Rattle.rules.specs.Remember.{History}
use Rattle.rules.specs.declared.state.ReaderPhase.{ReaderPhase}
use Rattle.rules.proofs.Lists.{by-lt}
use Rattle.rules.proofs.invariant.Order.{N, S, R, T, C, used_of, phase_at, stored_at, Ready, place, swapped}
use Rattle.rules.proofs.invariant.Control.{Control}
use Rattle.rules.proofs.invariant.Accounts.{Numbers, Sums, Holding, Quiet, lost_of, Past, Accounts}
use Rattle.rules.proofs.accounts.Emptied.{emptied-other, emptied-slot, emptied-cap, emptied-below, lower-number}
use Rattle.rules.proofs.accounts.Laws.{held-map, holding-lower, lower-sum}
use Rattle.rules.proofs.control.Swap.{commit-ahead, h-oldest, lower-swap, newest-swap}
use Rattle.rules.proofs.order.Places.{place-off, place-swap}

module _ {s : State} {h : History} {L : ℕ → ℕ} {pc pt a r0 gap : ℕ} (v : Control s L pc pt) (b : Accounts s h L pc pt a r0 gap)
    (p h0 : ℕ) (ready : s.reader ≡ Ready p h0) (word-is : get_or s.words p 0 ≡ 4 * h0 + 1) where
  abbrev P : ℕ → ℕ
  P = place (R s) L

  abbrev P' : ℕ → ℕ
  P' = place (L 0) (swapped L (R s))

  abbrev used' : List ℕ
  used' = set s.used (R s) 0

  abbrev uR : ℕ
  uR = used_of s (R s)

  1≤pc : 1 ≤ pc
  1≤pc = commit-ahead v p h0 ready word-is

  off : (i : ℕ) → 1 ≤ i → P i ≢ R s
  off = place-off v.links.cycle

  all_read : s.places.position ≡ uR
  all_read = subst (λ (q : ReaderPhase). Quiet q s.places.position uR) ready b.quiet

  from : r0 + uR + gap ≡ S s * a
  from = b.sums.ring_from 1≤pc

  R-room : R s < length s.used
  R-room = omega (arith, v.links.cycle.reader, v.order.room)

  kept : (q : ℕ) → q ≢ R s → get_or used' q 0 ≡ used_of s q
  kept = emptied-other s.used (R s) R-room

  numbers-kept : Numbers s.numbers used' (N s) (S s) (L 0) P' (suc a) (S s * a) s.counts.taken
  numbers-kept =
      record {
        slot = lower-number s.used (R s) R-room b.contents.numbers P' (newest-swap v p h0 ready word-is) (λ i lo hi. place-swap v.links.cycle i hi);
        reader = λ j hj.
            let was : j < used_of s (L 0) = subst (λ (k : ℕ). j < k) (kept (L 0) (off 1 (omega arith))) hj in
            omega (arith, b.contents.numbers.slot 1 j (omega arith) (omega (arith, v.links.cycle.two)) was);
        below = emptied-below s.used (R s) R-room b.contents.numbers;
      }

  holding-kept : (q j w : ℕ) → Holding s.numbers s.used (S s) P pc pt s.counts.committed h.readings q j w
      → Holding s.numbers used' (S s) P' (pc - 1) (pt - 1) s.counts.committed h.readings q j w
  holding-kept q j w =
      holding-lower 1≤pc (λ i lo hi. lower-swap v p h0 ready word-is i (omega (arith, 1≤pc)) (omega (arith, v.order.top)))
      (λ o. kept q (λ z. off o.k (omega (arith, 1≤pc, o.lo)) (o.is ∙ z)))

  sums_kept : Sums (S s) (get_or used' (L 0) 0) (get_or used' (T s) 0) (get_or used' (C s) 0) s.places.index 0 s.counts.taken s.counts.committed s.counts.handed
      s.counts.overwritten (pc - 1) (pt - 1) (suc a) (S s * a) 0
  sums_kept =
      let c = b.sums in
      let y = 1≤pc in
      let le = v.order.le in
      let first = kept (L 0) (off 1 (omega arith)) in
      let tail-kept = kept (T s) (λ l. off pt (omega arith) (v.order.tail_at ∙ l)) in
      let commit-kept = kept (C s) (λ l. off pc y (v.order.commit_at ∙ l)) in
      record {
        taken_is = omega (arith, c.taken_is, lower-sum (S s) a pt (omega arith));
        committed_is = omega (arith, c.committed_is, lower-sum (S s) a pc y);
        indexed = omega (arith, c.indexed);
        read = omega arith;
        read_committed = λ q. omega arith;
        joined = λ q. refl;
        reader_from = λ q. omega arith;
        ring_from = λ q. omega (arith, v.order.full 1 (omega arith) (omega arith));
        total = omega (arith, c.total, from, all_read);
      }

  past-kept : Past h.events (lost_of h.overwritings) h.readings s.counts.handed s.counts.overwritten (S s * a) 0 (get_or used' (L 0) 0) 0
  past-kept =
      let k = b.recorded.past in
      let f = from in
      let ar = all_read in
      record {
        handed_is = k.handed_is;
        overwritten_is = k.overwritten_is;
        given = λ i hi. omega (arith, k.given i hi);
        rising = k.rising;
        own = k.own;
        lost_low = λ i hi. omega (arith, k.lost_low i hi);
        lost_apart = λ i hi. inl (omega (arith, k.lost_low i hi));
        lost_rising = k.lost_rising;
        covered = λ m hm. by-lt m (r0 + s.places.position) (λ lt. k.covered m lt) (λ ge. inr (k.gone m (omega arith) (omega arith)));
        gone = λ m lo hi. absurd (omega arith);
        apart = k.apart;
      }

  swapped-oldest : Accounts (swap (page p) (page (L 0)) s) h (swapped L (R s)) (pc - 1) (pt - 1) (suc a) (S s * a) 0
  swapped-oldest =
      record {
        contents = record {
          sizes = b.contents.sizes;
          rooms = b.contents.rooms;
          cap = emptied-cap s.used (R s) R-room (N s) (S s) b.contents.cap;
          numbers = numbers-kept;
        };
        sums = sums_kept;
        values = record {
          held = λ i hi.
              held-map s.numbers s.numbers s.used used' (S s) P P' pc (pc - 1) pt (pt - 1) s.counts.committed s.counts.committed h.readings h.readings
              holding-kept (stored_at s.stack i) (phase_at s.stack i) (b.values.held i hi);
          stored = λ q j hq hj free. emptied-slot s.used (R s) R-room q j hj (λ ne o. b.values.stored q j hq o free);
        };
        quiet = tt;
        recorded = record {
          past = past-kept;
          ordered = b.recorded.ordered;
          rightly = b.recorded.rightly;
        };
        work = b.work;
        balance = b.balance;
        stack_room = b.stack_room;
      }

  pub swapped-accounts : Accounts (swap (page p) (page h0) s) h (swapped L (R s)) (pc - 1) (pt - 1) (suc a) (S s * a) 0
  swapped-accounts =
      subst (λ (q : ℕ). Accounts (swap (page p) (page q) s) h (swapped L (R s)) (pc - 1) (pt - 1) (suc a) (S s * a) 0) (sym (h-oldest v p h0 ready word-is)) swapped-oldest
