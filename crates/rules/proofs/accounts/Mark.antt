-- A successful MARK keeps the accounts: the oldest page's numbers are lost, all of them committed, every place moves down by one, and the overwriting was a rightful one.
-- Assumes nothing.
use mathlib.Core.Path.{◌≡◌, refl, sym, ap, ◌∙◌, subst}
use mathlib.Core.Logic.{◌≢◌, inl, inr, ⊎_elim}
use mathlib.Core.Bool.{true}
use mathlib.Core.List.{List, ◌++◌}
use Prim.Native.Nat.{ℕ, suc, ◌+◌, ◌-◌, ◌*◌, ◌≤◌, ◌<◌}
use native.Mathlib.Omega.{arith}
use native.Mathlib.Nat.{mul-le-mul_left}
use borrow.Author.Tests.{lt-ltb, eq-eqb, ne_eqb}
use lib.ListN.{length, get_or, set, length-set, length-append, get_or-append}
use lib.Seq.{get_or-append-add}
use Rattle.std.proofs.lemmas.List.Elements.{All-push}
use Rattle.rules.specs.State.{page, number_at, top, State}
use Rattle.rules.specs.Write.{mark}
use Rattle.rules.specs.Remember.{Marker, By, History, overwriting}
use Rattle.rules.specs.History.{latest, marked_by, on_mark, on_marked}
use Rattle.rules.specs.Demand.{is_committed, RightlyTaken}
use Rattle.rules.specs.declared.state.PageNo.{PageNo}
use Rattle.rules.specs.declared.state.WriterPhase.{WriterPhase}
use Rattle.rules.specs.declared.state.Writer.{Writer}
use Rattle.rules.proofs.Lists.{by-eq, by-lt}
use Rattle.rules.proofs.invariant.Order.{N, S, R, T, C, top_at, used_of, cell, phase_at, stored_at, rephase, Mark, Promote, place, turn}
use Rattle.rules.proofs.invariant.Control.{Owns, Control}
use Rattle.rules.proofs.invariant.Accounts.{Numbers, Sums, Holding, HeldOk, Values, early, numbers_on, lost_of, Lost, Past, worker_at, AtWork, Accounts}
use Rattle.rules.proofs.accounts.Emptied.{emptied-other, emptied-slot, emptied-cap, emptied-below, lower-number}
use Rattle.rules.proofs.accounts.Laws.{value_same, value-other, held-map, holding-lower, quiet-map, lower-sum}
use Rattle.rules.proofs.accounts.Lost.{numbers_on-length, numbers_on-at, lost_of-snoc}
use Rattle.rules.proofs.accounts.Phase.{early-not-held, unheld, balance-top, earlies-set}
use Rattle.rules.proofs.accounts.Readings.{committed-at}
use Rattle.rules.proofs.control.Mark.{marking, t-newest, n-oldest, tail-newest, tail-is, commit-off, n≤N, n≢R, away, t≢n, lower, newest-now, unowned}
use Rattle.rules.proofs.control.Phase.{top_below}
use Rattle.rules.proofs.order.Places.{page-once, ring-place, place-turn}
use Rattle.rules.proofs.order.Records.{phase-same, phase-other}

module _ {s : State} {h : History} {L : ℕ → ℕ} {pc pt a r0 gap : ℕ} (v : Control s L pc pt) (b : Accounts s h L pc pt a r0 gap) (deep : 1 ≤ s.depth)
    (t n : ℕ) (phase-is : (top s).phase ≡ Mark t n) (word-is : get_or s.words t 0 ≡ 4 * n + 1) where
  abbrev P : ℕ → ℕ
  P = place (R s) L

  abbrev P' : ℕ → ℕ
  P' = place (R s) (turn L)

  abbrev used' : List ℕ
  used' = set s.used n 0

  abbrev owner : Writer
  owner = rephase s.stack (top_at s) (Promote t n true)

  abbrev uR : ℕ
  uR = used_of s (R s)

  -- ---- page n, by what control says

  n-le : n ≤ N s
  n-le = n≤N v deep t n phase-is word-is

  n-is : n ≡ P 1
  n-is = n-oldest v deep t n phase-is word-is

  pt-is : pt ≡ N s
  pt-is = tail-newest v deep t n phase-is word-is

  2≤pc : 2 ≤ pc
  2≤pc = commit-off v deep t n phase-is word-is

  away-from-n : (k : ℕ) → 2 ≤ k → k ≤ N s → P k ≢ n
  away-from-n = away v deep t n phase-is word-is

  R≢n : R s ≢ n
  R≢n z = n≢R v deep t n phase-is word-is (sym z)

  n_room : n < length s.used
  n_room = omega (arith, n-le, v.order.room)

  kept : (p : ℕ) → p ≢ n → get_or used' p 0 ≡ used_of s p
  kept = emptied-other s.used n n_room

  n-full : used_of s n ≡ S s
  n-full = ap (used_of s) n-is ∙ v.order.full 1 (omega arith) (omega (arith, pt-is, v.links.cycle.two))

  from : r0 + uR + gap ≡ S s * a
  from = b.sums.ring_from (omega (arith, 2≤pc))

  n-number : (j : ℕ) → j < S s → get_or s.numbers (cell (S s) n j) 0 ≡ S s * a + j
  n-number j hj =
      let below : j < used_of s (P 1) = subst (λ (k : ℕ). j < k) (sym n-full ∙ ap (used_of s) n-is) hj in
      let first = b.contents.numbers.slot 1 j (omega arith) (omega (arith, v.links.cycle.two)) below in
      omega (arith, ap (λ (k : ℕ). get_or s.numbers (cell (S s) k j) 0) n-is)

  -- ---- the numbers lost

  abbrev old : List ℕ
  old = lost_of h.overwritings

  abbrev new : List ℕ
  new = numbers_on s (page n) 0 (used_of s n)

  abbrev lost' : List ℕ
  lost' = lost_of h.overwritings ++ numbers_on s (page n) 0 (used_of s n)

  new-at : (i : ℕ) → i < S s → get_or lost' (length old + i) 0 ≡ r0 + uR + gap + i
  new-at i hi =
      let same : number_at s (page n) (0 + i) ≡ number_at s (page n) i = ap (number_at s (page n)) (omega arith) in
      get_or-append-add old new i 0 ∙ numbers_on-at s (page n) 0 (used_of s n) i (omega (arith, n-full)) ∙ same ∙ omega (arith, n-number i hi, from)

  old-at : (k : ℕ) → k < length old → get_or lost' k 0 ≡ get_or old k 0
  old-at k hk = get_or-append old new 0 k hk

  lost-length : length lost' ≡ length old + S s
  lost-length = length-append old new ∙ ap (λ (k : ℕ). length old + k) (numbers_on-length s (page n) 0 (used_of s n) ∙ n-full)

  lost-cases : {A : Type 0} (k : ℕ) → k < length lost' → (k < length old → get_or lost' k 0 ≡ get_or old k 0 → A)
      → ((i : ℕ) → i < S s → k ≡ length old + i → get_or lost' k 0 ≡ r0 + uR + gap + i → A) → A
  lost-cases k hk before fresh =
      by-lt k (length old)
      (λ lt. before lt (old-at k lt))
      (λ ge.
      let size = lost-length in
      let z : k ≡ length old + (k - length old) = omega arith in
      fresh (k - length old) (omega arith) z (ap (λ (m : ℕ). get_or lost' m 0) z ∙ new-at (k - length old) (omega arith)))

  lost-up : (m : ℕ) → Lost old m → Lost lost' m
  lost-up m o = record { nth = o.nth; below = omega (arith, lost-length, o.below); is = old-at o.nth o.below ∙ o.is }

  lost-new : (m : ℕ) → r0 + uR + gap ≤ m → m < r0 + uR + gap + S s → Lost lost' m
  lost-new m lo hi =
      record {
        nth = length old + (m - (r0 + uR + gap));
        below = omega (arith, lost-length);
        is = new-at (m - (r0 + uR + gap)) (omega arith) ∙ omega arith;
      }

  past-kept : Past h.events lost' h.readings s.counts.handed (s.counts.overwritten + used_of s n) r0 s.places.position (get_or used' (R s) 0) (gap + S s)
  past-kept =
      let k = b.recorded.past in
      let same = kept (R s) R≢n in
      let rd = b.sums.read in
      record {
        handed_is = k.handed_is;
        overwritten_is = lost-length ∙ omega (arith, k.overwritten_is, n-full);
        given = k.given;
        rising = k.rising;
        own = k.own;
        lost_low = λ i hi. lost-cases i hi (λ lt y. omega (arith, k.lost_low i lt)) (λ j hj q y. omega arith);
        lost_apart = λ i hi.
            lost-cases i hi
            (λ lt y. ⊎_elim (λ z. inl (omega arith)) (λ z. inr (omega arith)) (k.lost_apart i lt))
            (λ j hj q y. inr (omega arith));
        lost_rising = λ i j lt hj.
            lost-cases j hj
            (λ jl jy. omega (arith, old-at i (omega arith), k.lost_rising i j lt jl))
            (λ jj jjh jq jy.
            lost-cases i (omega arith)
            (λ il iy. omega (arith, k.lost_low i il))
            (λ ii iih iq iy. omega arith));
        covered = λ m hm. ⊎_elim (λ o. inl o) (λ o. inr (lost-up m o)) (k.covered m hm);
        gone = λ m lo hi. by-lt m (r0 + uR + gap) (λ lt. lost-up m (k.gone m (omega arith) lt)) (λ ge. lost-new m ge (omega arith));
        apart = λ m o w.
            lost-cases w.nth w.below
            (λ lt y. k.apart m o (record { nth = w.nth; below = lt; is = sym y ∙ w.is }))
            (λ j hj q y. omega (arith, k.given o.nth o.event.below, o.event.gave, w.is));
      }

  -- ---- the numbers kept

  numbers-kept : Numbers s.numbers used' (N s) (S s) (R s) P' (suc a) r0 s.counts.taken
  numbers-kept =
      record {
        slot = lower-number s.used n n_room b.contents.numbers P' (newest-now v deep t n phase-is word-is) (λ i lo hi. place-turn (R s) L i lo);
        reader = λ j hj. b.contents.numbers.reader j (subst (λ (k : ℕ). j < k) (kept (R s) R≢n) hj);
        below = emptied-below s.used n n_room b.contents.numbers;
      }

  holding-kept : (p j w : ℕ) → Holding s.numbers s.used (S s) P pc pt s.counts.committed h.readings p j w
      → Holding s.numbers used' (S s) P' (pc - 1) (pt - 1) s.counts.committed h.readings p j w
  holding-kept p j w =
      holding-lower (omega (arith, 2≤pc)) (λ i lo hi. lower v deep t n phase-is word-is i (omega (arith, 2≤pc)))
      (λ o. kept p (λ q. away-from-n o.k (omega (arith, 2≤pc, o.lo)) (omega (arith, pt-is, o.hi)) (o.is ∙ q)))

  abbrev Ok : ℕ → WriterPhase → Type 0
  Ok = HeldOk s.numbers used' (S s) P' (pc - 1) (pt - 1) s.counts.committed h.readings

  values-kept : Values s.numbers s.values used' (N s) (S s) (set s.stack (top_at s) owner) s.depth P' (pc - 1) (pt - 1) s.counts.committed h.readings
  values-kept =
      record {
        held = λ i hi.
            by-eq i (top_at s)
            (λ z. subst (Ok (stored_at (set s.stack (top_at s) owner) i)) (sym (ap (phase_at (set s.stack (top_at s) owner)) z ∙ phase-same s.stack (top_at s) owner (top_below v deep))) tt)
            (λ ne.
            rw (value-other s.stack (top_at s) i owner ne, phase-other s.stack (top_at s) i owner ne)
            (held-map s.numbers s.numbers s.used used' (S s) P P' pc (pc - 1) pt (pt - 1) s.counts.committed s.counts.committed h.readings h.readings
            holding-kept (stored_at s.stack i) (phase_at s.stack i) (b.values.held i hi)));
        stored = λ p j hp hj free.
            emptied-slot s.used n n_room p j hj (λ ne o. b.values.stored p j hp o (unheld b deep v.depth owner p j (early-not-held p j (ap early phase-is)) free));
      }

  -- ---- the page taken

  all-full : (i : ℕ) → 1 ≤ i → i ≤ N s → used_of s (P i) ≡ S s
  all-full i lo hi =
      by-lt i (N s)
      (λ lt. v.order.full i lo (omega (arith, pt-is)))
      (λ ge.
      let last : i ≡ N s = omega arith in
      ap (used_of s) (ap P last ∙ sym (t-newest v deep t n phase-is word-is)) ∙ (marking v deep t n phase-is).spot.full)

  n-committed : (j : ℕ) → j < used_of s n → is_committed h.readings (get_or s.numbers (cell (S s) n j) 0) ≡ true
  n-committed j hj =
      let z = n-number j (omega (arith, n-full)) in
      let lies = b.contents.numbers.below n j n-le hj in
      let after : S s * (a + 2) ≤ S s * (a + pc) = mul-le-mul_left (S s) (omega (arith, 2≤pc)) in
      committed-at b.recorded.ordered _ lies
      ∙ lt-ltb _ s.counts.committed (omega (arith, b.sums.committed_is, n-full))

  rightly : RightlyTaken (overwriting (page n) s h.readings)
  rightly =
      record {
        ring = record { page = n-le; apart = λ z. R≢n (sym (page-once z)) };
        lowest = 0;
        there = omega (arith, n-full, b.contents.sizes.some);
        oldest = λ p j rp ne hj.
            let o = ring-place v.links.cycle p.0 rp.page (λ z. rp.apart (ap page z)) in
            let not_first : o.0 ≢ 1 = λ q. ne (ap page (sym o.3 ∙ ap P q ∙ sym n-is)) in
            let y = b.contents.numbers.slot o.0 j o.1 o.2 (subst (λ (k : ℕ). j < used_of s k) (sym o.3) hj) in
            let same = ap (λ (k : ℕ). get_or s.numbers (cell (S s) k j) 0) (sym o.3) in
            let later : S s * (a + 2) ≤ S s * (a + o.0) = mul-le-mul_left (S s) (omega (arith, o.1)) in
            omega (arith, n-number 0 b.contents.sizes.some, b.contents.sizes.some);
        committed = n-committed;
        full = λ p rp.
            let o = ring-place v.links.cycle p.0 rp.page (λ z. rp.apart (ap page z)) in
            ap (used_of s) (sym o.3) ∙ all-full o.0 o.1 o.2;
      }

  -- ---- the writer of the mark

  abbrev mine : Marker
  mine = By (latest h.working).nth

  abbrev marker' : PageNo → Marker
  marker' = marked_by (page t) (By (latest h.working).nth) h.marker

  marked-here : marker' (page t) ≡ mine
  marked-here = rw (eq-eqb t t refl) refl

  marked_other : (p : ℕ) → p ≢ t → marker' (page p) ≡ h.marker (page p)
  marked_other p n = rw (ne_eqb p t n) refl

  work-kept : AtWork marker' (set s.stack (top_at s) owner) s.depth h.working
  work-kept =
      let k = b.work in
      record {
        many = k.many;
        value = λ i hi.
            by-eq i (top_at s)
            (λ z. k.value i hi ∙ ap (stored_at s.stack) z ∙ sym (ap (stored_at (set s.stack (top_at s) owner)) z ∙ value_same s.stack (top_at s) owner (top_below v deep)))
            (λ ne. k.value i hi ∙ sym (value-other s.stack (top_at s) i owner ne));
        marks = λ i p hi o.
            by-eq i (top_at s)
            (λ z.
            let here : t ≡ p = subst (λ (f : WriterPhase). Owns f p) (ap (phase_at (set s.stack (top_at s) owner)) z ∙ phase-same s.stack (top_at s) owner (top_below v deep)) o in
            let last : length h.working - 1 ≡ i = omega (arith, k.many) in
            ap (λ (q : ℕ). marker' (page q)) (sym here) ∙ marked-here ∙ ap (λ (j : ℕ). By (worker_at h.working j).nth) last)
            (λ ne.
            let was : Owns (phase_at s.stack i) p = subst (λ (f : WriterPhase). Owns f p) (phase-other s.stack (top_at s) i owner ne) o in
            marked_other p (λ q. unowned v deep t n phase-is word-is i hi (subst (Owns (phase_at s.stack i)) q was)) ∙ k.marks i p hi was);
      }

  -- ---- all of it

  sums_kept : Sums (S s) (get_or used' (R s) 0) (get_or used' (T s) 0) (get_or used' (C s) 0) s.places.index s.places.position s.counts.taken s.counts.committed
      s.counts.handed (s.counts.overwritten + used_of s n) (pc - 1) (pt - 1) (suc a) r0 (gap + S s)
  sums_kept =
      let c = b.sums in
      let y = 2≤pc in
      let w = pt-is in
      let same = kept (R s) R≢n in
      let tail-kept = kept (T s) (λ l. t≢n v deep t n phase-is word-is (sym (tail-is v deep t n phase-is word-is) ∙ l)) in
      let commit-kept = kept (C s) (λ l. away-from-n pc y (omega (arith, v.order.le)) (v.order.commit_at ∙ l)) in
      record {
        taken_is = omega (arith, c.taken_is, lower-sum (S s) a pt (omega (arith, v.order.le)));
        committed_is = omega (arith, c.committed_is, lower-sum (S s) a pc (omega arith));
        indexed = omega (arith, c.indexed);
        read = omega (arith, c.read);
        read_committed = λ q. absurd (omega arith);
        joined = λ q. absurd (omega arith);
        reader_from = λ q. absurd (omega arith);
        ring_from = λ q. omega (arith, from);
        total = omega (arith, c.total, n-full);
      }

  mark-accounts : Accounts (mark (page t) (page n) s) (on_mark (page t) (page n) s h) (turn L) (pc - 1) (pt - 1) (suc a) r0 (gap + S s)
  mark-accounts =
      record {
        contents = record {
          sizes = b.contents.sizes;
          rooms = b.contents.rooms;
          cap = emptied-cap s.used n n_room (N s) (S s) b.contents.cap;
          numbers = numbers-kept;
        };
        sums = sums_kept;
        values = values-kept;
        quiet =
            quiet-map s.words (N s) (R s) pc s.places.position uR s.places.position (get_or used' (R s) 0) (λ lo q. q ∙ sym (kept (R s) R≢n))
            s.reader v.reader b.quiet;
        recorded = record {
          past =
              subst
              (λ (l : List ℕ).
              Past h.events l h.readings s.counts.handed (s.counts.overwritten + used_of s n) r0 s.places.position (get_or used' (R s) 0) (gap + S s))
              (sym (lost_of-snoc h.overwritings _)) past-kept;
          ordered = b.recorded.ordered;
          rightly = All-push RightlyTaken h.overwritings _ b.recorded.rightly rightly;
        };
        work = work-kept;
        balance = omega (arith, balance-top b deep v.depth, earlies-set b deep v.depth owner, ap early phase-is);
        stack_room = length-set s.stack (top_at s) owner ∙ b.stack_room;
      }

  pub marked-accounts : Accounts (mark (page t) (page n) s) (on_marked (top s).phase s h) (turn L) (pc - 1) (pt - 1) (suc a) r0 (gap + S s)
  marked-accounts =
      subst (λ (f : WriterPhase). Accounts (mark (page t) (page n) s) (on_marked f s h) (turn L) (pc - 1) (pt - 1) (suc a) r0 (gap + S s)) (sym phase-is) mark-accounts
