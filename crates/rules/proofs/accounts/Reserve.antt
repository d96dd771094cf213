-- A reservation keeps the accounts: the tail page's next slot gets the next number, and the latest writer is the reading's own.
-- Assumes nothing.
use mathlib.Core.Path.{◌≡◌, refl, sym, ap, ◌∙◌, subst}
use mathlib.Core.Logic.{◌≢◌, inl, inr, ⊎_elim}
use mathlib.Core.Bool.{false}
use mathlib.Core.List.{List, [], ◌∷◌, ◌++◌}
use Prim.Native.Nat.{ℕ, ◌+◌, ◌*◌, ◌≤◌, ◌<◌}
use native.Mathlib.Omega.{arith}
use borrow.Author.Tests.{le-ltb}
use lib.ListN.{length, get_or, set, length-set, length-append}
use lib.Seq.{get_or-set_same, get_or-set_other}
use Rattle.rules.specs.State.{top, State}
use Rattle.rules.specs.Write.{reserve}
use Rattle.rules.specs.Remember.{BegunWriter, Numbered, History, numbered}
use Rattle.rules.specs.History.{latest, on_reserved}
use Rattle.rules.specs.declared.state.WriterPhase.{WriterPhase}
use Rattle.rules.specs.declared.state.WriterPhase.TheVariants as phase
use Rattle.rules.specs.declared.state.Writer.{Writer}
use Rattle.rules.proofs.Lists.{by-eq, by-lt}
use Rattle.rules.proofs.invariant.Order.{N, S, R, T, C, top_at, used_of, cell, phase_at, stored_at, rephase, Held, place}
use Rattle.rules.proofs.invariant.Control.{Control}
use Rattle.rules.proofs.invariant.Accounts.{Numbers, Sums, nth_value, Ordered, Holding, HeldOk, Values, early, lost_of, Past, Accounts}
use Rattle.rules.proofs.accounts.Laws.{value_same, value-other, held-map, work-top, quiet-map, cell-once, cell_room, read-le, committed-taken}
use Rattle.rules.proofs.accounts.Phase.{early-not-held, unheld, balance-top, earlies-set}
use Rattle.rules.proofs.accounts.Readings.{nth_reading-before, nth_reading-last}
use Rattle.rules.proofs.accounts.Working.{latest-at}
use Rattle.rules.proofs.control.Phase.{placed-le, tail-le, top_below}
use Rattle.rules.proofs.order.Places.{place-once, place-le}
use Rattle.rules.proofs.order.Records.{phase-same, phase-other}

module _ {s : State} {h : History} {L : ℕ → ℕ} {pc pt a r0 gap : ℕ} (v : Control s L pc pt) (b : Accounts s h L pc pt a r0 gap) (deep : 1 ≤ s.depth)
    (want : (top s).phase ≡ phase.Want) (room : used_of s (T s) < S s) where
  abbrev P : ℕ → ℕ
  P = place (R s) L

  -- the slot
  abbrev new-slot : ℕ
  new-slot = used_of s (T s)

  abbrev new-cell : ℕ
  new-cell = cell (S s) (T s) (used_of s (T s))

  abbrev used' : List ℕ
  used' = set s.used (T s) (used_of s (T s) + 1)

  abbrev numbers' : List ℕ
  numbers' = set s.numbers (cell (S s) (T s) (used_of s (T s))) s.counts.taken

  -- the reading
  abbrev new : Numbered
  new = numbered s.counts.taken (latest h.working) false

  abbrev readings' : List Numbered
  readings' = h.readings ++ (numbered s.counts.taken (latest h.working) false ∷ [])

  abbrev held : Writer
  held = rephase s.stack (top_at s) (Held (T s) (used_of s (T s)))

  -- ---- used

  used-same : get_or used' (T s) 0 ≡ new-slot + 1
  used-same = get_or-set_same s.used (T s) (new-slot + 1) 0 (omega (arith, tail-le v, v.order.room))

  used-other : (p : ℕ) → p ≢ T s → get_or used' p 0 ≡ used_of s p
  used-other p n = get_or-set_other s.used (T s) p (new-slot + 1) 0 n

  grows : (p : ℕ) → used_of s p ≤ get_or used' p 0
  grows p =
      by-eq p (T s)
      (λ z. omega (arith, used-same, ap (λ (k : ℕ). get_or used' k 0) z, ap (used_of s) z))
      (λ n. omega (arith, used-other p n))

  -- a slot below used is the new one, or an old one
  slot_cases : {A : Type 0} (p j : ℕ) → j < get_or used' p 0 → (p ≡ T s → j ≡ new-slot → A) → (j < used_of s p → A) → A
  slot_cases p j hj fresh old =
      by-eq p (T s)
      (λ z.
      let y : j < new-slot + 1 = subst (λ (k : ℕ). j < k) (ap (λ (k : ℕ). get_or used' k 0) z ∙ used-same) hj in
      by-eq j new-slot (λ w. fresh z w) (λ n. old (subst (λ (k : ℕ). j < used_of s k) (sym z) (omega arith))))
      (λ n. old (subst (λ (k : ℕ). j < k) (used-other p n) hj))

  -- ---- numbers

  number-new : get_or numbers' new-cell 0 ≡ s.counts.taken
  number-new =
      let z = b.contents.sizes in
      let inside = cell_room (S s) (T s) new-slot (omega (arith, tail-le v, z.pages)) z.slots (omega (arith, z.slots)) in
      get_or-set_same s.numbers new-cell s.counts.taken 0 (omega (arith, b.contents.rooms.numbers_room))

  number_at : (p j : ℕ) → p ≡ T s → j ≡ new-slot → get_or numbers' (cell (S s) p j) 0 ≡ s.counts.taken
  number_at p j z y = ap (λ (k : ℕ). get_or numbers' (cell (S s) k j) 0) z ∙ ap (λ (k : ℕ). get_or numbers' (cell (S s) (T s) k) 0) y ∙ number-new

  number-old : (p j : ℕ) → p ≤ N s → j < used_of s p → get_or numbers' (cell (S s) p j) 0 ≡ get_or s.numbers (cell (S s) p j) 0
  number-old p j hp hj =
      get_or-set_other s.numbers new-cell (cell (S s) p j) s.counts.taken 0
      (λ z.
      let y = cell-once (S s) p (T s) j new-slot (omega (arith, b.contents.cap p hp)) room z in
      omega (arith, ap (used_of s) y.0, y.1))

  at_tail : (i : ℕ) → i ≤ N s → P i ≡ T s → i ≡ pt
  at_tail i hi z = place-once v.links.cycle i pt hi v.order.top (z ∙ sym v.order.tail_at)

  numbers-kept : Numbers numbers' used' (N s) (S s) (R s) P a r0 (s.counts.taken + 1)
  numbers-kept =
      record {
        slot = λ i j lo hi hj.
            slot_cases (P i) j hj
            (λ z y. omega (arith, number_at (P i) j z y, b.sums.taken_is, ap (λ (k : ℕ). S s * (a + k)) (at_tail i hi z)))
            (λ o. omega (arith, number-old (P i) j (place-le v.links.cycle i) o, b.contents.numbers.slot i j lo hi o));
        reader = λ j hj.
            slot_cases (R s) j hj
            (λ z y.
            let first : pt ≡ 0 = sym (at_tail 0 (omega arith) z) in
            let from = b.sums.reader_from (omega (arith, v.order.le)) in
            omega (arith, number_at (R s) j z y, b.sums.taken_is, ap (λ (k : ℕ). S s * (a + k)) first))
            (λ o. omega (arith, number-old (R s) j v.links.cycle.reader o, b.contents.numbers.reader j o));
        below = λ p j hp hj.
            slot_cases p j hj
            (λ z y. omega (arith, number_at p j z y))
            (λ o. omega (arith, number-old p j hp o, b.contents.numbers.below p j hp o));
      }

  -- ---- sums

  -- the tail page is the reader page only while the commit page is
  off : 1 ≤ pc → R s ≢ T s
  off lo z = omega (arith, v.order.le, at_tail 0 (omega arith) z)

  sums_kept : Sums (S s) (get_or used' (R s) 0) (get_or used' (T s) 0) (get_or used' (C s) 0) s.places.index s.places.position (s.counts.taken + 1)
      s.counts.committed s.counts.handed s.counts.overwritten pc pt a r0 gap
  sums_kept =
      let c = b.sums in
      record {
        taken_is = omega (arith, c.taken_is, used-same);
        committed_is = c.committed_is;
        indexed = omega (arith, c.indexed, grows (C s));
        read = omega (arith, c.read, grows (R s));
        read_committed = c.read_committed;
        joined = c.joined;
        reader_from = c.reader_from;
        ring_from = λ lo. omega (arith, used-other (R s) (off lo), c.ring_from lo);
        total = c.total;
      }

  -- ---- readings

  size : length h.readings ≡ s.counts.taken
  size = b.recorded.ordered.size

  value-kept : (m : ℕ) → m < s.counts.taken → nth_value readings' m ≡ nth_value h.readings m
  value-kept m hm = ap (λ (x : Numbered). x.own.value) (nth_reading-before h.readings new m (omega (arith, size)))

  latest-value : (latest h.working).value ≡ (top s).value
  latest-value =
      let k = b.work in
      ap (λ (w : BegunWriter). w.value) (latest-at h.working k.many) ∙ k.value (top_at s) (omega arith)

  value-new : nth_value readings' s.counts.taken ≡ (top s).value
  value-new = ap (λ (x : Numbered). x.own.value) (nth_reading-last h.readings new s.counts.taken size) ∙ latest-value

  ordered-kept : Ordered readings' (s.counts.taken + 1) s.counts.committed
  ordered-kept =
      let o = b.recorded.ordered in
      record {
        size = length-append h.readings _ ∙ omega (arith, size);
        nth = λ i hi.
            by-lt i s.counts.taken
            (λ lt. ap (λ (x : Numbered). x.number) (nth_reading-before h.readings new i (omega (arith, size))) ∙ o.nth i lt)
            (λ ge. ap (λ (x : Numbered). x.number) (nth_reading-last h.readings new i (omega (arith, size))) ∙ omega arith);
        committed_below = λ i hi.
            by-lt i s.counts.taken
            (λ lt. ap (λ (x : Numbered). x.committed) (nth_reading-before h.readings new i (omega (arith, size))) ∙ o.committed_below i lt)
            (λ ge.
            ap (λ (x : Numbered). x.committed) (nth_reading-last h.readings new i (omega (arith, size)))
            ∙ sym (le-ltb i s.counts.committed (omega (arith, committed-taken v b))));
      }

  -- ---- values

  new-holding : Holding numbers' used' (S s) P pc pt s.counts.committed readings' (T s) new-slot (top s).value
  new-holding =
      record {
        k = pt;
        lo = v.order.le;
        hi = omega arith;
        is = v.order.tail_at;
        slot = omega (arith, used-same);
        late = omega (arith, number-new, committed-taken v b);
        own = sym (ap (nth_value readings') number-new ∙ value-new);
      }

  holding-kept : (p j w : ℕ) → Holding s.numbers s.used (S s) P pc pt s.counts.committed h.readings p j w
      → Holding numbers' used' (S s) P pc pt s.counts.committed readings' p j w
  holding-kept p j w o =
      let p≤N : p ≤ N s = placed-le v o.k p o.is in
      let n = number-old p j p≤N o.slot in
      record {
        k = o.k;
        lo = o.lo;
        hi = o.hi;
        is = o.is;
        slot = omega (arith, grows p, o.slot);
        late = omega (arith, o.late);
        own = o.own ∙ sym (ap (nth_value readings') n ∙ value-kept _ (b.contents.numbers.below p j p≤N o.slot));
      }

  abbrev Ok : ℕ → WriterPhase → Type 0
  Ok = HeldOk numbers' used' (S s) P pc pt s.counts.committed readings'

  values-kept : Values numbers' s.values used' (N s) (S s) (set s.stack (top_at s) held) s.depth P pc pt s.counts.committed readings'
  values-kept =
      record {
        held = λ i hi.
            by-eq i (top_at s)
            (λ z.
            subst (λ (k : ℕ). Ok (stored_at (set s.stack (top_at s) held) k) (phase_at (set s.stack (top_at s) held) k)) (sym z)
            (rw (value_same s.stack (top_at s) held (top_below v deep), phase-same s.stack (top_at s) held (top_below v deep)) new-holding))
            (λ n.
            rw (value-other s.stack (top_at s) i held n, phase-other s.stack (top_at s) i held n)
            (held-map s.numbers numbers' s.used used' (S s) P P pc pc pt pt s.counts.committed s.counts.committed h.readings readings' holding-kept
            (stored_at s.stack i) (phase_at s.stack i) (b.values.held i hi)));
        stored = λ p j hp hj free.
            slot_cases p j hj
            (λ z y. absurd (free (top_at s) (omega arith) (phase-same s.stack (top_at s) held (top_below v deep) ∙ ap (λ (k : ℕ). Held k new-slot) (sym z) ∙ ap (Held p) (sym y))))
            (λ o.
            b.values.stored p j hp o (unheld b deep v.depth held p j (early-not-held p j (ap early want)) free)
            ∙ sym (ap (nth_value readings') (number-old p j hp o) ∙ value-kept _ (b.contents.numbers.below p j hp o)));
      }

  -- ---- history

  past-kept : Past h.events (lost_of h.overwritings) readings' s.counts.handed s.counts.overwritten r0 s.places.position (get_or used' (R s) 0) gap
  past-kept =
      let k = b.recorded.past in
      let c = b.sums in
      record {
        handed_is = k.handed_is;
        overwritten_is = k.overwritten_is;
        given = k.given;
        rising = k.rising;
        own = λ i hi. k.own i hi ∙ sym (value-kept _ (omega (arith, k.given i hi, read-le c, committed-taken v b)));
        lost_low = λ i hi. omega (arith, k.lost_low i hi, grows (R s));
        lost_apart = λ i hi.
            by-eq pc 0
            (λ y. ⊎_elim (λ m. inl m) (λ m. absurd (omega (arith, k.lost_low i hi, c.joined y))) (k.lost_apart i hi))
            (λ n. ⊎_elim (λ m. inl m) (λ m. inr (omega (arith, used-other (R s) (off (omega arith))))) (k.lost_apart i hi));
        lost_rising = k.lost_rising;
        covered = k.covered;
        gone = λ m lo hi.
            by-eq pc 0
            (λ y. absurd (omega (arith, c.joined y)))
            (λ n.
            let same = used-other (R s) (off (omega arith)) in
            k.gone m (omega arith) (omega arith));
        apart = k.apart;
      }

  cap-kept : (p : ℕ) → p ≤ N s → get_or used' p 0 ≤ S s
  cap-kept p hp =
      by-eq p (T s)
      (λ z. omega (arith, ap (λ (k : ℕ). get_or used' k 0) z, used-same))
      (λ n. omega (arith, used-other p n, b.contents.cap p hp))

  pub reserved-accounts : Accounts (reserve s.places.tail (used_of s (T s)) s) (on_reserved s.counts.taken h) L pc pt a r0 gap
  reserved-accounts =
      record {
        contents = record {
          sizes = b.contents.sizes;
          rooms = record { numbers_room = length-set s.numbers new-cell s.counts.taken ∙ b.contents.rooms.numbers_room; values_room = b.contents.rooms.values_room };
          cap = cap-kept;
          numbers = numbers-kept;
        };
        sums = sums_kept;
        values = values-kept;
        quiet =
            quiet-map s.words (N s) (R s) pc s.places.position (used_of s (R s)) s.places.position (get_or used' (R s) 0)
            (λ lo y. y ∙ sym (used-other (R s) (off lo))) s.reader v.reader b.quiet;
        recorded = record {
          past = past-kept;
          ordered = ordered-kept;
          rightly = b.recorded.rightly;
        };
        work = work-top h.marker s.stack s.depth (top_at s) held h.working (top_below v deep) refl (λ i w. absurd w) b.work;
        balance =
            omega (arith, balance-top b deep v.depth, earlies-set b deep v.depth held, ap early want);
        stack_room = length-set s.stack (top_at s) held ∙ b.stack_room;
      }
