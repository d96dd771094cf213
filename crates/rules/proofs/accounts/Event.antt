-- An Event keeps the accounts: the number at the read position is the next one above all that were handed out, it is committed, and its slot has its own value.
-- Assumes nothing.
use mathlib.Core.Path.{◌≡◌, refl, sym, ap, ◌∙◌, subst}
use mathlib.Core.Logic.{inl, inr, ⊎_elim}
use mathlib.Core.List.{List, [], ◌∷◌, ◌++◌}
use Prim.Native.Nat.{ℕ, ◌+◌, ◌*◌, ◌<◌}
use native.Mathlib.Omega.{arith}
use lib.ListN.{length, get_or, length-append, get_or-append}
use lib.Seq.{get_or_at}
use Rattle.rules.specs.State.{number_at, value_at, State}
use Rattle.rules.specs.Read.{hand_out}
use Rattle.rules.specs.Remember.{ReadEvent, History, read_event}
use Rattle.rules.specs.History.{on_event}
use Rattle.rules.specs.Demand.{no_event, EventIn}
use Rattle.rules.specs.declared.state.ReaderPhase.{ReaderPhase}
use Rattle.rules.specs.declared.state.ReaderPhase.TheVariants as reading
use Rattle.rules.proofs.Lists.{by-eq, by-lt}
use Rattle.rules.proofs.invariant.Order.{S, R, used_of}
use Rattle.rules.proofs.invariant.Control.{Control}
use Rattle.rules.proofs.invariant.Accounts.{nth_value, Quiet, lost_of, Past, Accounts}
use Rattle.rules.proofs.accounts.Laws.{stored-own, page-le}

module _ {s : State} {h : History} {L : ℕ → ℕ} {pc pt a r0 gap : ℕ} (v : Control s L pc pt) (b : Accounts s h L pc pt a r0 gap) (idle : s.reader ≡ reading.Idle)
    (in_page : s.places.position < used_of s (R s)) (in_commit : pc ≡ 0 → s.places.position < s.places.index) where
  abbrev position : ℕ
  position = s.places.position

  abbrev m : ℕ
  m = number_at s s.places.reader s.places.position

  abbrev new : ReadEvent
  new = read_event (number_at s s.places.reader s.places.position) (value_at s s.places.reader s.places.position)

  abbrev events' : List ReadEvent
  events' = h.events ++ (read_event (number_at s s.places.reader s.places.position) (value_at s s.places.reader s.places.position) ∷ [])

  m-is : m ≡ r0 + position
  m-is = b.contents.numbers.reader position in_page

  m-committed : m < s.counts.committed
  m-committed =
      let q = m-is in
      by-eq pc 0
      (λ z. omega (arith, ap (λ (i : ℕ). S s * (a + i)) z, b.sums.reader_from z, in_commit z, b.sums.committed_is))
      (λ n. omega (arith, page-le b.sums (omega arith)))

  -- ---- the Events, one more

  old-event : (k : ℕ) → k < length h.events → get_or events' k no_event ≡ get_or h.events k no_event
  old-event k hk = get_or-append h.events (new ∷ []) no_event k hk

  last-event : (k : ℕ) → length h.events ≡ k → get_or events' k no_event ≡ new
  last-event k q = get_or_at h.events new [] no_event k q

  size : length events' ≡ length h.events + 1
  size = length-append h.events (new ∷ [])

  event-cases : {A : Type 0} (k : ℕ) → k < length events' → (k < length h.events → get_or events' k no_event ≡ get_or h.events k no_event → A)
      → (length h.events ≡ k → get_or events' k no_event ≡ new → A) → A
  event-cases k hk old last =
      by-lt k (length h.events)
      (λ lt. old lt (old-event k lt))
      (λ ge.
      let z : length h.events ≡ k = omega (arith, size) in
      last z (last-event k z))

  number_of : {y z : ReadEvent} → y ≡ z → y.number ≡ z.number
  number_of q = ap (λ (g : ReadEvent). g.number) q

  value_of : {y z : ReadEvent} → y ≡ z → y.value ≡ z.value
  value_of q = ap (λ (g : ReadEvent). g.value) q

  given-before : {n : ℕ} → EventIn h.events n → EventIn events' n
  given-before o =
      let e = o.event in
      record { nth = o.nth; event = record { below = omega (arith, size, e.below); gave = number_of (old-event o.nth e.below) ∙ e.gave } }

  past-kept : Past events' (lost_of h.overwritings) h.readings (s.counts.handed + 1) s.counts.overwritten r0 (position + 1) (used_of s (R s)) gap
  past-kept =
      let k = b.recorded.past in
      let mi = m-is in
      record {
        handed_is = size ∙ ap (λ (i : ℕ). i + 1) k.handed_is;
        overwritten_is = k.overwritten_is;
        given = λ i hi. event-cases i hi (λ lt y. omega (arith, number_of y, k.given i lt)) (λ q y. omega (arith, number_of y));
        rising = λ i j lt hj.
            event-cases j hj
            (λ jl y. omega (arith, number_of y, number_of (old-event i (omega arith)), k.rising i j lt jl))
            (λ q y.
            let il : i < length h.events = omega arith in
            omega (arith, number_of y, number_of (old-event i il), k.given i il));
        own = λ i hi.
            event-cases i hi
            (λ lt y. value_of y ∙ k.own i lt ∙ ap (nth_value h.readings) (sym (number_of y)))
            (λ q y.
            value_of y ∙ stored-own b.values (R s) position v.links.cycle.reader in_page m-committed
            ∙ ap (nth_value h.readings) (sym (number_of y)));
        lost_low = k.lost_low;
        lost_apart = λ i hi. ⊎_elim (λ y. inl (omega arith)) (λ y. inr y) (k.lost_apart i hi);
        lost_rising = k.lost_rising;
        covered = λ n hn.
            by-lt n (r0 + position)
            (λ lt.
            ⊎_elim
            (λ o. inl (given-before o))
            (λ o. inr o)
            (k.covered n lt))
            (λ ge.
            inl (record { nth = length h.events; event = record { below = omega (arith, size); gave = number_of (last-event (length h.events) refl) ∙ omega arith } }));
        gone = k.gone;
        apart = λ n o w.
            event-cases o.nth o.event.below
            (λ lt y. k.apart n (record { nth = o.nth; event = record { below = lt; gave = sym (number_of y) ∙ o.event.gave } }) w)
            (λ q y.
            let z = number_of y in
            let given = o.event.gave in
            let lost = w.is in
            ⊎_elim (λ l. omega arith) (λ l. omega arith) (k.lost_apart w.nth w.below));
      }

  pub event-accounts : Accounts (hand_out s) (on_event (number_at s s.places.reader s.places.position) (value_at s s.places.reader s.places.position) h) L pc pt a r0 gap
  event-accounts =
      let c = b.sums in
      record {
        contents = b.contents;
        sums = record {
          taken_is = c.taken_is;
          committed_is = c.committed_is;
          indexed = c.indexed;
          read = omega arith;
          read_committed = λ z. omega (arith, in_commit z);
          joined = c.joined;
          reader_from = c.reader_from;
          ring_from = c.ring_from;
          total = omega (arith, c.total);
        };
        values = b.values;
        quiet = subst (λ (q : ReaderPhase). Quiet q (position + 1) (used_of s (R s))) (sym idle) tt;
        recorded = record {
          past = past-kept;
          ordered = b.recorded.ordered;
          rightly = b.recorded.rightly;
        };
        work = b.work;
        balance = b.balance;
        stack_room = b.stack_room;
      }
