-- A successful swap keeps control: p was the newest page and h the oldest. Every place moves down by one, h becomes the reader page, and the old reader page, with the
-- header mark that was prepared in its word, the newest.
-- Assumes nothing.
use mathlib.Core.Path.{◌≡◌, sym, ap, ◌∙◌, subst}
use mathlib.Core.Logic.{◌≢◌}
use mathlib.Core.List.{List}
use Prim.Native.Nat.{ℕ, suc, ◌+◌, ◌-◌, ◌*◌, ◌/◌, ◌%◌, ◌≤◌, ◌<◌}
use native.Mathlib.Omega.{arith}
use lib.ListN.{get_or, set, length-set}
use lib.Seq.{get_or-set_same, get_or-set_other}
use Rattle.rules.specs.State.{page, State}
use Rattle.rules.specs.Read.{swap}
use Rattle.rules.proofs.Lists.{by-eq, by-lt}
use Rattle.rules.proofs.invariant.Order.{N, S, R, T, C, next_of, flag_of, used_of, phase_at, Ready, place, swapped}
use Rattle.rules.proofs.invariant.Control.{At, Moving, Marking, RecordOk, Headed, headed, Order, Joined, ReaderOk, HeadedIn, Control}
use Rattle.rules.proofs.control.Phase.{head_of, owner-in}
use Rattle.rules.proofs.order.Lower.{spot-lower}
use Rattle.rules.proofs.order.Places.{place-once, place-off, last-next, place-swap, place-swap-last}
use Rattle.rules.proofs.order.Records.{record-map, owners-word}
use Rattle.rules.proofs.order.Swap.{swap-links}

module _ {s : State} {L : ℕ → ℕ} {pc pt : ℕ} (v : Control s L pc pt) (p h : ℕ) (ready : s.reader ≡ Ready p h) (word-is : get_or s.words p 0 ≡ 4 * h + 1) where
  abbrev P : ℕ → ℕ
  P = place (R s) L

  abbrev P' : ℕ → ℕ
  P' = place (L 0) (swapped L (R s))

  abbrev words' : List ℕ
  words' = set s.words p (4 * R s + 0)

  abbrev used' : List ℕ
  used' = set s.used (R s) 0

  -- ---- which pages p and h are

  reader-ok : ReaderOk s.words (N s) (R s) pc (Ready p h)
  reader-ok = subst (ReaderOk s.words (N s) (R s) pc) ready v.reader

  pub commit-ahead : 1 ≤ pc
  commit-ahead = reader-ok.0

  head : HeadedIn s L
  head = head_of v.flags p reader-ok.1 reader-ok.2 (omega arith)

  p-newest : p ≡ P (N s)
  p-newest = head.only p reader-ok.1 reader-ok.2 (omega arith)

  to-oldest : next_of s.words p ≡ L 0
  to-oldest = ap (next_of s.words) p-newest ∙ last-next v.links

  pub h-oldest : h ≡ L 0
  h-oldest =
      let next : next_of s.words p ≡ h = omega arith in
      sym next ∙ to-oldest

  from-reader : next_of s.words (R s) ≡ L 1
  from-reader =
      let next : next_of s.words (R s) ≡ next_of s.words h = omega (arith, reader-ok.5) in
      next ∙ ap (next_of s.words) h-oldest ∙ v.links.linked.step 0

  oldest-not-p : L 0 ≢ p
  oldest-not-p q = omega (arith, v.links.cycle.two, place-once v.links.cycle 1 (N s) (omega (arith, v.links.cycle.two)) (omega arith) (q ∙ p-newest))

  -- ---- words

  here : get_or words' p 0 ≡ 4 * R s + 0
  here = get_or-set_same s.words p (4 * R s + 0) 0 (omega (arith, v.links.linked.room, reader-ok.1))

  other : (q : ℕ) → q ≢ p → get_or words' q 0 ≡ get_or s.words q 0
  other q n = get_or-set_other s.words p q (4 * R s + 0) 0 n

  same_flag : (q : ℕ) → q ≢ p → flag_of words' q ≡ flag_of s.words q
  same_flag q n = ap (λ (w : ℕ). w % 4) (other q n)

  same_next : (q : ℕ) → q ≢ p → next_of words' q ≡ next_of s.words q
  same_next q n = ap (λ (w : ℕ). w / 4) (other q n)

  -- p has no mark now
  marked-apart : (q f : ℕ) → f ≢ 0 → flag_of words' q ≡ f → q ≢ p
  marked-apart q f n h e = n (omega (arith, here, ap (flag_of words') e))

  -- ---- places, one lower

  pub lower-swap : (i : ℕ) → 1 ≤ i → i ≤ N s → P' (i - 1) ≡ P i
  lower-swap i lo hi =
      let q : suc (i - 1) ≡ i = omega arith in
      place-swap v.links.cycle (i - 1) (omega arith) ∙ ap P q

  pub newest-swap : P' (N s) ≡ R s
  newest-swap = place-swap-last v.links.cycle

  -- ---- records

  seen-off : (x : ℕ) → At s.used (S s) P pc pt x → x ≢ R s
  seen-off x a q = place-off v.links.cycle a.k (omega (arith, a.lo, commit-ahead)) (a.is ∙ q)

  spot-kept : (x : ℕ) → At s.used (S s) P pc pt x → At used' (S s) P' (pc - 1) (pt - 1) x
  spot-kept =
      spot-lower commit-ahead (λ i lo hi. lower-swap i (omega (arith, commit-ahead)) (omega (arith, v.order.top)))
      (λ x a. get_or-set_other s.used (R s) x 0 0 (seen-off x a))

  moving-kept : (x y : ℕ) → Moving s.words s.used (N s) (S s) P pc pt x y → Moving words' used' (N s) (S s) P' (pc - 1) (pt - 1) x y
  moving-kept x y m =
      record {
        spot = spot-kept x m.spot;
        next = same_next x (λ q. m.not_last (q ∙ p-newest)) ∙ m.next;
        not_last = λ q. seen-off x m.spot (q ∙ newest-swap);
      }

  marking-kept : (x : ℕ) → Marking s.used (N s) (S s) P pc pt x → Marking used' (N s) (S s) P' (pc - 1) (pt - 1) x
  marking-kept x m = record { spot = spot-kept x m.spot; room = λ q. absurd (seen-off x m.spot (q ∙ newest-swap)) }

  record-kept : (i : ℕ) → i < s.depth → RecordOk words' used' (N s) (S s) P' (pc - 1) (pt - 1) (phase_at s.stack i)
  record-kept i hi =
      record-map moving-kept marking-kept (phase_at s.stack i)
      (λ q o.
      let k = owner-in v i q hi o in
      same_flag q (λ e. k.1 (e ∙ p-newest)) ∙ k.2)
      (v.records i hi)

  -- ---- order, flags and owners

  used-kept : (i : ℕ) → 1 ≤ i → get_or used' (P i) 0 ≡ used_of s (P i)
  used-kept i lo = get_or-set_other s.used (R s) (P i) 0 0 (place-off v.links.cycle i lo)

  order-kept : Order used' (N s) (S s) (T s) (C s) P' (pc - 1) (pt - 1)
  order-kept =
      let one = commit-ahead in
      let o = v.order in
      let two = v.links.cycle.two in
      record {
        tail_at = lower-swap pt (omega (arith, o.le)) o.top ∙ o.tail_at;
        commit_at = lower-swap pc one (omega (arith, o.le, o.top)) ∙ o.commit_at;
        le = omega (arith, o.le);
        top = omega (arith, o.top);
        room = rw (length-set s.used (R s) 0) o.room;
        cap = rw (← o.tail_at) (omega (arith, used-kept pt (omega (arith, o.le)), ap (used_of s) o.tail_at, o.cap));
        full = λ i lo hi. rw (place-swap v.links.cycle i (omega (arith, o.top))) (used-kept (suc i) (omega arith) ∙ o.full (suc i) (omega arith) (omega arith));
        full0 = λ q hi. used-kept 1 (omega arith) ∙ o.full 1 (omega arith) (omega arith);
        empty = λ i lo hi.
            by-lt i (N s)
            (λ b. rw (place-swap v.links.cycle i b) (used-kept (suc i) (omega arith) ∙ o.empty (suc i) (omega arith) (omega arith)))
            (λ b.
            let q : i ≡ N s = omega arith in
            rw (q, newest-swap) (get_or-set_same s.used (R s) 0 0 (omega (arith, o.room, v.links.cycle.reader))));
      }

  headed-kept : Headed words' (N s) P'
  headed-kept =
      record {
        last = rw newest-swap (omega (arith, other (R s) (λ q. reader-ok.2 (sym q)), reader-ok.5));
        only = λ q hq nq f.
            let apart = marked-apart q 1 (λ z. omega arith) f in
            by-eq q (R s)
            (λ e. e ∙ sym newest-swap)
            (λ n. absurd (apart (head.only q hq n (sym (same_flag q apart) ∙ f) ∙ sym p-newest)));
      }

  -- the new reader page still leads into the ring
  joined-now : pc - 1 ≡ 0 → Joined words' P'
  joined-now z =
      record {
        next = same_next (L 0) oldest-not-p ∙ v.links.linked.step 0 ∙ sym (place-swap v.links.cycle 1 v.links.cycle.two);
        flag = λ f. oldest-not-p (head.only (L 0) (v.links.cycle.bound 0) (v.links.cycle.off 0) (sym (same_flag (L 0) oldest-not-p) ∙ f) ∙ sym p-newest);
      }

  swapped-oldest : Control (swap (page p) (page (L 0)) s) (swapped L (R s)) (pc - 1) (pt - 1)
  swapped-oldest =
      record {
        links = swap-links v.links p reader-ok.1 reader-ok.2 to-oldest from-reader;
        order = order-kept;
        joined = joined-now;
        flags = headed headed-kept;
        owners = owners-word v.owners words' p same_flag (omega (arith, here));
        depth = v.depth;
        records = record-kept;
        reader = tt;
      }

  pub swapped-control : Control (swap (page p) (page h) s) (swapped L (R s)) (pc - 1) (pt - 1)
  swapped-control = subst (λ (x : ℕ). Control (swap (page p) (page x) s) (swapped L (R s)) (pc - 1) (pt - 1)) (sym h-oldest) swapped-oldest
