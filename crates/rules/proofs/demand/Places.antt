-- Each numbered reading is in exactly one of the four places, by where its number stands: what was read of the reader page, the rest of it, the gap, the ring.
-- Assumes nothing.
use mathlib.Core.Path.{◌≡◌, sym, ap, ◌∙◌}
use mathlib.Core.Logic.{◌⊎◌, inl, inr, ⊎_elim}
use Prim.Native.Nat.{ℕ, ◌+◌, ◌≤◌, ◌<◌}
use native.Mathlib.Omega.{arith}
use borrow.Author.Tests.{ltb-true, ltb-false, lt-ltb, le-ltb}
use Rattle.rules.specs.History.{run_at}
use Rattle.rules.specs.State.{page, value_at, State}
use Rattle.rules.specs.Remember.{History}
use Rattle.rules.specs.Demand.{ExactlyOne, only_first, only_second, only_third, only_fourth, own_value, HandedOut, Overwritten, LiesAt, NotCommitted, Waiting}
use Rattle.rules.specs.declared.state.PageNo.{PageNo}
use Rattle.rules.proofs.Lists.{by-eq, by-lt}
use Rattle.rules.proofs.invariant.Order.{R, used_of}
use Rattle.rules.proofs.invariant.Control.{Control}
use Rattle.rules.proofs.invariant.Accounts.{nth_value, Accounts}
use Rattle.rules.proofs.accounts.Laws.{stored-own, read-le, page-le}
use Rattle.rules.proofs.accounts.Readings.{committed-at, own_at}
use Rattle.rules.proofs.demand.Events.{given-low}
use Rattle.rules.proofs.demand.Lost.{lost-in, lost-out}
use Rattle.rules.proofs.demand.Slots.{lies-below, reader-number, ring-from, ring-after, lies-once, in-reader, in-ring}
use Rattle.rules.proofs.order.Places.{page-once}

abbrev pub Placed : State → History → ℕ → Type 0
Placed s h m = ExactlyOne (HandedOut (run_at s h) m) (Overwritten (run_at s h) m) (Waiting (run_at s h) m) (NotCommitted (run_at s h) m)

module _ {s : State} {h : History} {L : ℕ → ℕ} {pc pt a r0 gap : ℕ} (v : Control s L pc pt) (b : Accounts s h L pc pt a r0 gap) where
  -- ---- what was read is committed, and so is the gap

  read-committed : r0 + s.places.position ≤ s.counts.committed
  read-committed = read-le b.sums

  gap-committed : {m : ℕ} → r0 + used_of s (R s) ≤ m → m < r0 + used_of s (R s) + gap → m < s.counts.committed
  gap-committed lo hi =
      by-eq pc 0
      (λ e. absurd (omega (arith, b.sums.joined e)))
      (λ n. omega (arith, page-le b.sums (omega arith)))

  -- ---- which numbers are in a place

  handed-low : {m : ℕ} → HandedOut (run_at s h) m → m < r0 + s.places.position
  handed-low x = given-low b.recorded.past x.event

  pub handed-committed : {m : ℕ} → HandedOut (run_at s h) m → m < s.counts.committed
  handed-committed x = omega (arith, handed-low x, read-committed)

  lost-low : {m : ℕ} → Overwritten (run_at s h) m → m < r0 + used_of s (R s) + gap
  lost-low {m} x =
      let l = lost-in h.overwritings m x in
      omega (arith, b.recorded.past.lost_low l.nth l.below)

  lost-apart : {m : ℕ} → Overwritten (run_at s h) m → m < r0 + s.places.position ⊎ r0 + used_of s (R s) ≤ m
  lost-apart {m} x =
      let l = lost-in h.overwritings m x in
      rw l.is at (b.recorded.past.lost_apart l.nth l.below)

  pub lost-committed : {m : ℕ} → Overwritten (run_at s h) m → m < s.counts.committed
  lost-committed x = ⊎_elim (λ lt. omega (arith, read-committed)) (λ le. gap-committed le (lost-low x)) (lost-apart x)

  pub waiting-committed : {m : ℕ} → Waiting (run_at s h) m → m < s.counts.committed
  waiting-committed {m} w = ltb-true m s.counts.committed (sym (committed-at b.recorded.ordered m (lies-below v b w.slot.has.lies)) ∙ w.committed)

  pub open-from : {m : ℕ} → NotCommitted (run_at s h) m → s.counts.committed ≤ m
  open-from {m} o = ltb-false m s.counts.committed (sym (committed-at b.recorded.ordered m (lies-below v b o.slot.has)) ∙ o.uncommitted)

  -- whatever is handed out, overwritten or waiting is committed
  pub settled-committed : {m : ℕ} → HandedOut (run_at s h) m ⊎ (Overwritten (run_at s h) m ⊎ Waiting (run_at s h) m) → m < s.counts.committed
  settled-committed x = ⊎_elim handed-committed (λ y. ⊎_elim lost-committed waiting-committed y) x

  -- a number that was read, or one of the gap, is not waiting
  not-waiting : {m : ℕ} → m < r0 + s.places.position ⊎ r0 + used_of s (R s) ≤ m → m < r0 + used_of s (R s) + gap → ¬ Waiting (run_at s h) m
  not-waiting settled lt w =
      let x = w.slot.has in
      by-eq w.slot.page.0 (R s)
      (λ e.
      let y = reader-number v b x.lies e in
      let z = x.unread (ap page e) in
      ⊎_elim (λ read. omega (arith, y)) (λ past. omega (arith, y)) settled)
      (λ n. omega (arith, ring-from v b x.lies n, ring-after v b))

  -- ---- a number in a slot that is still to be read: waiting, if it is committed, and else not yet committed

  own-stored : {m j : ℕ} {p : PageNo} → LiesAt s m p j → m < s.counts.committed → value_at s p j ≡ own_value h.readings m
  own-stored {m} {j} {p} l lt =
      stored-own b.values p.0 j l.page l.below (rw l.number lt) ∙ ap (nth_value h.readings) l.number ∙ sym (own_at b.recorded.ordered m (lies-below v b l))

  waits : {m j : ℕ} {p : PageNo} → LiesAt s m p j → (p ≡ s.places.reader → s.places.position ≤ j) → m < s.counts.committed → Waiting (run_at s h) m
  waits {m} {j} {p} l unread lt =
      record {
        committed = committed-at b.recorded.ordered m (lies-below v b l) ∙ lt-ltb m s.counts.committed lt;
        slot = record {
          page = p;
          slot = j;
          has = record { lies = l; unread = unread; value = own-stored l lt };
          alone = λ q k x. lies-once v b x.lies l;
        };
      }

  opens : {m j : ℕ} {p : PageNo} → LiesAt s m p j → s.counts.committed ≤ m → NotCommitted (run_at s h) m
  opens {m} {j} {p} l le =
      record {
        uncommitted = committed-at b.recorded.ordered m (lies-below v b l) ∙ le-ltb m s.counts.committed le;
        slot = record { page = p; slot = j; has = l; alone = λ q k x. lies-once v b x l };
      }

  placed-unread : {m j : ℕ} {p : PageNo} → LiesAt s m p j → (p ≡ s.places.reader → s.places.position ≤ j)
      → ¬ HandedOut (run_at s h) m → ¬ Overwritten (run_at s h) m → Placed s h m
  placed-unread {m} l unread not_handed not_lost =
      by-lt m s.counts.committed
      (λ lt. only_third not_handed not_lost (waits l unread lt) (λ o. omega (arith, open-from o)))
      (λ le. only_fourth not_handed not_lost (λ w. omega (arith, waiting-committed w)) (opens l le))

  -- ---- by where the number stands

  -- what was read was handed out or overwritten
  placed-read : (m : ℕ) → m < r0 + s.places.position → Placed s h m
  placed-read m lt =
      let not_waiting : ¬ Waiting (run_at s h) m = not-waiting (inl lt) (omega (arith, b.sums.read)) in
      let not_open : ¬ NotCommitted (run_at s h) m = λ o. omega (arith, open-from o, read-committed) in
      ⊎_elim
      (λ x. only_first x (λ y. b.recorded.past.apart m x (lost-in h.overwritings m y)) not_waiting not_open)
      (λ x. only_second (λ y. b.recorded.past.apart m y x) (lost-out h.overwritings m x) not_waiting not_open)
      (b.recorded.past.covered m lt)

  -- the numbers of the gap were overwritten
  placed-gap : (m : ℕ) → r0 + used_of s (R s) ≤ m → m < r0 + used_of s (R s) + gap → Placed s h m
  placed-gap m lo hi =
      only_second
      (λ x. omega (arith, handed-low x, b.sums.read))
      (lost-out h.overwritings m (b.recorded.past.gone m lo hi))
      (not-waiting (inr lo) hi)
      (λ o. omega (arith, open-from o, gap-committed lo hi))

  placed-reader : (m : ℕ) → r0 + s.places.position ≤ m → m < r0 + used_of s (R s) → Placed s h m
  placed-reader m lo hi =
      placed-unread (in-reader v b m (omega arith) hi) (λ e. omega arith)
      (λ x. omega (arith, handed-low x))
      (λ x. ⊎_elim (λ lt. omega arith) (λ le. omega arith) (lost-apart x))

  placed-ring : (m : ℕ) → r0 + used_of s (R s) + gap ≤ m → m < s.counts.taken → Placed s h m
  placed-ring m lo hi =
      let l = in-ring v b m lo hi in
      placed-unread l.3 (λ e. absurd (l.2 (page-once e)))
      (λ x. omega (arith, handed-low x, b.sums.read))
      (λ x. omega (arith, lost-low x))

  pub one_place : (m : ℕ) → m < s.counts.taken → Placed s h m
  one_place m hm =
      by-lt m (r0 + s.places.position) (placed-read m)
      (λ unread. by-lt m (r0 + used_of s (R s)) (placed-reader m unread)
      (λ later. by-lt m (r0 + used_of s (R s) + gap) (placed-gap m later)
      (λ far. placed-ring m far hm)))
