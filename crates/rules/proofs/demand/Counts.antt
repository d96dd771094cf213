-- How many numbered readings are in each place: the numbers handed out and those overwritten are rising lists, those not yet committed an interval, and the rest wait.
-- Assumes nothing.
use mathlib.Core.Path.{◌≡◌, refl}
use Prim.Native.Nat.{ℕ, ◌+◌, ◌≤◌, ◌<◌}
use native.Mathlib.Omega.{arith}
use lib.ListN.{length, get_or}
use Rattle.rules.specs.History.{run_at}
use Rattle.rules.specs.Receipt.{waiting, uncommitted}
use Rattle.rules.specs.Remember.{History}
use Rattle.rules.specs.Demand.{only_first, only_second, only_third, only_fourth, Count, EventAt, HandedOut, Overwritten, NotCommitted, Waiting}
use Rattle.rules.specs.State.{State}
use Rattle.rules.proofs.invariant.Control.{Control}
use Rattle.rules.proofs.invariant.Accounts.{lost_of, given_number, Accounts}
use Rattle.rules.proofs.accounts.Laws.{committed-taken}
use Rattle.rules.proofs.demand.Counting.{count_map, count-once, rising-count, from-count, Parts, parts}
use Rattle.rules.proofs.demand.Lost.{lost-in, lost-out}
use Rattle.rules.proofs.demand.Places.{Placed, handed-committed, lost-committed, waiting-committed, open-from, one_place}

module _ {s : State} {h : History} {L : ℕ → ℕ} {pc pt a r0 gap : ℕ} (v : Control s L pc pt) (b : Accounts s h L pc pt a r0 gap) where
  -- ---- handed out

  pub given-numbered : {m k : ℕ} → EventAt h.events m k → m < s.counts.taken
  given-numbered {k = k} x = omega (arith, handed-committed v b (record { nth = k; event = x }), committed-taken v b)

  pub handed-count : Count (HandedOut (run_at s h)) s.counts.taken s.counts.handed
  handed-count =
      rw (← b.recorded.past.handed_is)
      (count_map
      (λ m lt l. record { nth = l.nth; event = record { below = l.below; gave = l.is } })
      (λ m lt x. record { nth = x.nth; below = x.event.below; is = x.event.gave })
      (rising-count (given_number h.events) s.counts.taken (length h.events) b.recorded.past.rising
      (λ k lt. given-numbered (record { below = lt; gave = refl }))))

  -- ---- overwritten

  abbrev lost_number : ℕ → ℕ
  lost_number k = get_or (lost_of h.overwritings) k 0

  lost-under : (k : ℕ) → k < length (lost_of h.overwritings) → lost_number k < s.counts.taken
  lost-under k lt =
      let x = lost-out h.overwritings (lost_number k) (record { nth = k; below = lt; is = refl }) in
      omega (arith, lost-committed v b x, committed-taken v b)

  pub overwritten-count : Count (Overwritten (run_at s h)) s.counts.taken s.counts.overwritten
  overwritten-count =
      rw (← b.recorded.past.overwritten_is)
      (count_map
      (λ m lt l. lost-out h.overwritings m (record { nth = l.nth; below = l.below; is = l.is }))
      (λ m lt x. let l = lost-in h.overwritings m x in record { nth = l.nth; below = l.below; is = l.is })
      (rising-count lost_number s.counts.taken (length (lost_of h.overwritings)) b.recorded.past.lost_rising lost-under))

  -- ---- not yet committed

  still_open : {m : ℕ} → s.counts.committed ≤ m → Placed s h m → NotCommitted (run_at s h) m
  still_open le (only_first x y w o) = absurd (omega (arith, handed-committed v b x))
  still_open le (only_second x y w o) = absurd (omega (arith, lost-committed v b y))
  still_open le (only_third x y w o) = absurd (omega (arith, waiting-committed v b w))
  still_open le (only_fourth x y w o) = o

  pub open-count : Count (NotCommitted (run_at s h)) s.counts.taken (uncommitted s.counts)
  open-count = count_map (λ m lt le. still_open le (one_place v b m lt)) (λ m lt o. open-from v b o) (from-count s.counts.committed s.counts.taken)

  -- ---- waiting

  abbrev four : Parts (HandedOut (run_at s h)) (Overwritten (run_at s h)) (Waiting (run_at s h)) (NotCommitted (run_at s h)) s.counts.taken
  four = parts s.counts.taken (one_place v b)

  four-sum : s.counts.taken ≡ s.counts.handed + s.counts.overwritten + four.third + uncommitted s.counts
  four-sum =
      omega (arith, four.sum, count-once four.of_a handed-count, count-once four.of_b overwritten-count, count-once four.of_d open-count)

  waiting-is : four.third ≡ waiting s.counts
  waiting-is = omega (arith, four-sum, committed-taken v b)

  pub waiting-count : Count (Waiting (run_at s h)) s.counts.taken (waiting s.counts)
  waiting-count = rw (← waiting-is) four.of_c

  pub sum : s.counts.taken ≡ s.counts.handed + s.counts.overwritten + waiting s.counts + uncommitted s.counts
  sum = rw (← waiting-is) four-sum
