-- Eight Reads in a row never end a drain of a ring that is reached from a fresh one: single Reads bring an Event, Empty or Busy within six.
-- The Read after a swap tells an Event or Empty, since the new reader page is the commit page or is full. A swap does not miss where only
-- Reads were made since the Found. So an idle reader needs at most four Reads, one in READY five, and one in FOUND six.
-- Assumes nothing.
use mathlib.Core.Path.{◌≡◌, refl, sym, ap, ◌∙◌, subst}
use mathlib.Core.Logic.{◌≢◌}
use mathlib.Core.Bool.{true≢false}
use Prim.Native.Nat.{ℕ, zero, suc, ◌+◌, ◌*◌, ◌≤◌}
use native.Mathlib.Omega.{arith}
use borrow.Author.Tests.{ltb-false, eqb-true, eqb-false, eq-eqb}
use lib.Dec.{ltb}
use lib.ListN.{get_or}
use lib.Seq.{get_or-set_other}
use Rattle.std.specs.Prelude.{Option, Some, None}
use Rattle.rules.specs.Limits.{header_flag, most_in_row}
use Rattle.rules.specs.State.{page, with_reader, State}
use Rattle.rules.specs.Answers.{Outcome}
use Rattle.rules.specs.Words.{reader_on_commit, links, find_header}
use Rattle.rules.specs.Shape.{in_shape}
use Rattle.rules.specs.Read.{read_limit, find_by, plan_reader, prepare, swap, fetched, read_rule}
use Rattle.rules.specs.Replay.{Reached}
use Rattle.rules.specs.Drain.{DrainOutcome, told_last, drain_reads, drain_rule, Brought, an_event, an_empty, a_busy, enough, Brings}
use Rattle.rules.specs.declared.state.Answer.{Answer}
use Rattle.rules.specs.declared.state.PageNo.{PageNo}
use Rattle.rules.specs.declared.state.ReaderPhase.{ReaderPhase}
use Rattle.rules.specs.declared.state.ReaderPhase.TheVariants as reading
use Rattle.rules.specs.declared.moves.Fetch.{Fetch}
use Rattle.rules.specs.declared.moves.Fetch.TheVariants as fetch
use Rattle.rules.proofs.Lists.{by_bool, by_cond}
use Rattle.rules.proofs.control.Swap.{commit-ahead, h-oldest}
use Rattle.rules.proofs.drain.Soon.{ok_read, Soon, brought, next, in-row-same, in-row-brings}
use Rattle.rules.proofs.invariant.Order.{N, S, R, C, used_of, Found, Ready, place}
use Rattle.rules.proofs.order.Search.{Tells, search-tells}
use Rattle.rules.proofs.runs.Reached.{RingOk, ok-shape, reached-ok}

-- ---- one Read

module _ (s : State) (g : RingOk s) where
  -- the rule of a phase
  abbrev pub by-phase : ReaderPhase → Fetch
  by-phase ph = plan_reader ph s.size s.places s.words s.used

  pub read_is : (ph : ReaderPhase) → s.reader ≡ ph → read_rule s ≡ fetched (by-phase ph) s
  read_is ph q =
      let ruled : read_rule s ≡ fetched (by-phase s.reader) s = rw (ok-shape s g) refl in
      ruled ∙ ap (λ (f : ReaderPhase). fetched (by-phase f) s) q

  -- what is to be shown of the rule that applies
  abbrev After : ℕ → Fetch → Type 0
  After k f = RingOk (fetched f s).state → Soon k (fetched f s)

  read-soon : {k : ℕ} (ph : ReaderPhase) → s.reader ≡ ph → After k (by-phase ph) → Soon k (read_rule s)
  read-soon {k} ph q after = subst (λ (o : Outcome). RingOk o.state → Soon k o) (sym (read_is ph q)) after (ok_read s g)

  -- answers that are brought
  event-after : {k : ℕ} → After k fetch.Event
  event-after z = brought (an_event _ _)

  empty-after : {k : ℕ} → After k fetch.Empty
  empty-after z = brought an_empty

  busy-after : {k : ℕ} → After k fetch.Busy
  busy-after z = brought a_busy

-- ---- a swap that does not miss

module _ (s : State) (g : RingOk s) (p h : ℕ) (ready : s.reader ≡ Ready p h) (word-is : get_or s.words p 0 ≡ 4 * h + 1) where
  abbrev s' : State
  s' = swap (page p) (page h) s

  oldest : h ≡ g.all.L 0
  oldest = h-oldest g.all.control p h ready word-is

  -- a new reader page that is not the commit page stood before it, so before the tail page
  new-full : C s ≢ h → used_of s' h ≡ S s
  new-full apart =
      let v = g.all.control in
      let off : h ≢ R s = λ q. v.links.cycle.off 0 (sym oldest ∙ q) in
      let later : g.all.pc ≢ 1 = λ q. apart (sym v.order.commit_at ∙ ap (place (R s) g.all.L) q ∙ sym oldest) in
      get_or-set_other s.used (R s) h 0 0 off
      ∙ ap (used_of s) oldest
      ∙ v.order.full 1 (omega arith) (omega (arith, commit-ahead v p h ready word-is, v.order.le))

  -- the Read after the swap
  swapped-soon : {k : ℕ} → RingOk s' → Soon k (read_rule s')
  swapped-soon {k} z =
      read-soon s' z reading.Idle refl
      (by_cond (After s' z k) (ltb 0 (read_limit s'.places s'.used))
      (λ t. event-after s' z)
      (λ t.
      by_cond (After s' z k) (reader_on_commit s'.places)
      (λ c. empty-after s' z)
      (λ c.
      let none : used_of s' h ≤ 0 = rw c at (ltb-false 0 (read_limit s'.places s'.used) t) in
      absurd (omega (arith, new-full (eqb-false (C s) h c), g.all.accounts.contents.sizes.some)))))

  -- the swap
  swap-soon : {k : ℕ} → Soon (suc k) (read_rule s)
  swap-soon {k} =
      read-soon s g (Ready p h) ready (rw (eq-eqb (get_or s.words p 0) (4 * h + 1) word-is) (λ z. next refl (swapped-soon z)))

-- ---- from each phase

module _ (s : State) (g : RingOk s) (p h : ℕ) (word-is : get_or s.words p 0 ≡ 4 * h + 1) (off : p ≢ R s) where
  -- FOUND, where p's word still is h HEADER: only the reader page's word changes, so the swap that follows does not miss
  prepared-soon : {k : ℕ} → s.reader ≡ Found p h → Soon (suc (suc k)) (read_rule s)
  prepared-soon at =
      read-soon s g (Found p h) at
      (λ z. next refl (swap-soon (prepare (page p) (page h) s) z p h refl (get_or-set_other s.words (R s) p _ 0 off ∙ word-is)))

-- IDLE
module _ (s : State) (g : RingOk s) where
  find-after : {k : ℕ} (r : Option (PageNo × PageNo)) → Tells s.words (N s) (R s) r → After s g (suc (suc (suc k))) (find_by r)
  find-after (Some (p, h)) tells z =
      next refl (prepared-soon (with_reader (reading.Found p h) s) z p.0 h.0 (omega (arith, tells.2, tells.3)) tells.1 refl)
  find-after None tells z = busy-after s g z

  idle-soon : (k : ℕ) → s.reader ≡ reading.Idle → Soon (suc (suc (suc k))) (read_rule s)
  idle-soon k q =
      read-soon s g reading.Idle q
      (by_cond (After s g (suc (suc (suc k)))) (ltb s.places.position (read_limit s.places s.used))
      (λ t. event-after s g)
      (λ t.
      by_cond (After s g (suc (suc (suc k)))) (reader_on_commit s.places)
      (λ c. empty-after s g)
      (λ c. find-after (find_header s.words (N s) s.places.reader) (search-tells s.words (N s) s.places.reader))))

-- READY: the swap may miss, and the reader is idle then
ready-soon : (s : State) → RingOk s → (k p h : ℕ) → s.reader ≡ Ready p h → Soon (suc (suc (suc (suc k)))) (read_rule s)
ready-soon s g k p h q =
    by_bool (links s.words (page p) (page h) header_flag)
    (λ t. swap-soon s g p h q (eqb-true (get_or s.words p 0) (4 * h + 1) t))
    (λ t. read-soon s g (Ready p h) q (rw t (λ z. next refl (idle-soon (with_reader reading.Idle s) z k refl))))

-- FOUND, whatever p's word is
found-soon : (s : State) → RingOk s → (k p h : ℕ) → s.reader ≡ Found p h → Soon (suc (suc (suc (suc (suc k))))) (read_rule s)
found-soon s g k p h q = read-soon s g (Found p h) q (λ z. next refl (ready-soon (prepare (page p) (page h) s) z k p h refl))

-- from any phase: the first Read, and at most five more
pub within-six : (s : State) → RingOk s → Soon 5 (read_rule s)
within-six s g = go s.reader refl
  where
    go : (ph : ReaderPhase) → s.reader ≡ ph → Soon 5 (read_rule s)
    go reading.Idle q = idle-soon s g 2 q
    go (reading.Found p h) q = found-soon s g 0 p.0 h.0 q
    go (reading.Ready p h) q = ready-soon s g 1 p.0 h.0 q

-- ---- drains

module _ (most : ℕ) (fits : enough ≤ most) where
  -- the last answer; where there is no space, it is the one before
  reads-bring : (space : ℕ) (s : State) → RingOk s → (last : Option Answer) → (space ≡ 0 → Brought last) → Brought (drain_reads most space s last).last
  reads-bring zero s g last b = b refl
  reads-bring (suc space) s g last b =
      in-row-brings (drain_reads most space) (λ s g last b. reads-bring space s g last (λ q. b)) 5 s g (within-six s g) most fits last

  -- the same as with the limit of eight
  reads_same : (space : ℕ) (s : State) → RingOk s → (last : Option Answer) → drain_reads most space s last ≡ drain_reads most_in_row space s last
  reads_same zero s g last = refl
  reads_same (suc space) s g last =
      in-row-same (drain_reads most space) (drain_reads most_in_row space) (reads_same space) 5 s g (within-six s g) most most_in_row fits (omega arith) last

pub reached-brings : (r : State) → Reached r → Brings r
reached-brings r h =
    let g = reached-ok r h in
    record {
      within = reads-bring enough (omega arith) 1 r g None (λ q. absurd (omega arith));
      ends = λ space.
          by_cond (λ (d : DrainOutcome). Brought d.last) (in_shape r)
          (λ fits. reads-bring most_in_row (omega arith) (suc space) r g None (λ q. absurd (omega arith)))
          (λ fits. absurd (true≢false (sym (ok-shape r g) ∙ fits)));
      same_above = λ most space fits. reads_same most fits space r g None;
    }

-- so no drain of such a ring is refused
brought-told : {last : Option Answer} → Brought last → (told_last last).refusal ≡ 0
brought-told (an_event n v) = refl
brought-told an_empty = refl
brought-told a_busy = refl

pub drain-unrefused : (r : State) (space : ℕ) → Reached r → (told_last (drain_rule r space).last).refusal ≡ 0
drain-unrefused r zero h = rw (ok-shape r (reached-ok r h)) refl
drain-unrefused r (suc space) h = brought-told ((reached-brings r h).ends space)
