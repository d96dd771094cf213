-- Read keeps the invariant: for each phase of the reader and each rule that applies.
-- Assumes nothing.
use mathlib.Core.Path.{◌≡◌, refl, sym, ap, ◌∙◌, subst}
use mathlib.Core.Logic.{◌≢◌}
use Prim.Native.Nat.{ℕ, suc, ◌+◌, ◌-◌, ◌*◌, ◌≤◌, ◌<◌}
use native.Mathlib.Omega.{arith}
use borrow.Author.Tests.{ltb-true, ltb-false, eqb-true, eqb-false}
use lib.Dec.{ltb}
use lib.ListN.{get_or}
use Rattle.std.specs.Prelude.{Option, Some, None}
use Rattle.rules.specs.Limits.{header_flag}
use Rattle.rules.specs.State.{page, State}
use Rattle.rules.specs.Words.{reader_on_commit, links, find_header}
use Rattle.rules.specs.Shape.{in_shape}
use Rattle.rules.specs.Read.{read_limit, find_by, plan_idle, plan_ready, plan_reader, fetched, read_rule}
use Rattle.rules.specs.Remember.{History}
use Rattle.rules.specs.declared.state.PageNo.{PageNo}
use Rattle.rules.specs.declared.state.ReaderPhase.{ReaderPhase}
use Rattle.rules.specs.declared.state.ReaderPhase.TheVariants as reading
use Rattle.rules.specs.declared.moves.Fetch.{Fetch}
use Rattle.rules.specs.declared.moves.Fetch.TheVariants as fetch
use Rattle.rules.proofs.Lists.{by_bool, by_cond}
use Rattle.rules.proofs.invariant.Order.{N, S, R, C, next_of, used_of, Found, Ready, place, swapped}
use Rattle.rules.proofs.invariant.Control.{Control}
use Rattle.rules.proofs.invariant.Accounts.{Quiet, Accounts}
use Rattle.rules.proofs.accounts.Event.{event-accounts}
use Rattle.rules.proofs.accounts.Phase.{words-accounts, reader-accounts}
use Rattle.rules.proofs.accounts.Swap.{swapped-accounts}
use Rattle.rules.proofs.bounds.Steps.{bounds-prepare, bounds-swap}
use Rattle.rules.proofs.control.Find.{handed-control, found-control, missed-control}
use Rattle.rules.proofs.control.Prepare.{prepared-control}
use Rattle.rules.proofs.control.Swap.{swapped-control}
use Rattle.rules.proofs.order.Search.{Tells, search-tells}
use Rattle.rules.proofs.runs.Invariant.{Invariant, holds, holds_same, Next}

module _ (x : ℕ) (s : State) (h : History) (g : Invariant s h) where
  abbrev v : Control s g.L g.pc g.pt
  v = g.control

  abbrev b : Accounts s h g.L g.pc g.pt g.a g.r0 g.gap
  b = g.accounts

  -- the invariant after a rule
  abbrev After : Fetch → Type 0
  After f = Next x s h (fetched f s)

  -- ---- the limit of the reader page

  limit-page : s.places.position < read_limit s.places s.used → s.places.position < used_of s (R s)
  limit-page =
      by_cond (λ (l : ℕ). s.places.position < l → s.places.position < used_of s (R s)) (reader_on_commit s.places)
      (λ t z. omega (arith, b.sums.indexed, ap (used_of s) (eqb-true (C s) (R s) t)))
      (λ t z. z)

  limit-commit : s.places.position < read_limit s.places s.used → g.pc ≡ 0 → s.places.position < s.places.index
  limit-commit =
      by_cond (λ (l : ℕ). s.places.position < l → g.pc ≡ 0 → s.places.position < s.places.index) (reader_on_commit s.places)
      (λ t z q. z)
      (λ t z q. absurd (eqb-false (C s) (R s) t (sym v.order.commit_at ∙ ap (place (R s) g.L) q)))

  -- past the limit while the commit page is another: the whole page was read
  limit-out : read_limit s.places s.used ≤ s.places.position → C s ≢ R s → s.places.position ≡ used_of s (R s)
  limit-out =
      by_cond (λ (l : ℕ). l ≤ s.places.position → C s ≢ R s → s.places.position ≡ used_of s (R s)) (reader_on_commit s.places)
      (λ t z n. absurd (n (eqb-true (C s) (R s) t)))
      (λ t z n. omega (arith, b.sums.read))

  -- ---- IDLE

  event-next : s.reader ≡ reading.Idle → s.places.position < read_limit s.places s.used → After fetch.Event
  event-next q l = holds_same g (handed-control v) (event-accounts v b q (limit-page l) (limit-commit l)) g.fates g.bounds g.none_open

  find-next : C s ≢ R s → s.places.position ≡ used_of s (R s) → (r : Option (PageNo × PageNo)) → Tells s.words (N s) (R s) r → After (find_by r)
  find-next n q (Some (p, h0)) k =
      let to : h0.0 ≡ next_of s.words p.0 = k.3 in
      holds_same g
      (found-control v n p.0 h0.0 k.0 k.1 k.2 to)
      (reader-accounts b (Found p.0 h0.0) q)
      g.fates
      g.bounds
      g.none_open
  find-next n q None k = g

  idle-next : s.reader ≡ reading.Idle → After (plan_idle s.size s.places s.words s.used)
  idle-next q =
      by_cond After (ltb s.places.position (read_limit s.places s.used))
      (λ t. event-next q (ltb-true _ _ t))
      (λ t.
      by_cond After (reader_on_commit s.places)
      (λ k. g)
      (λ k.
      let apart = eqb-false (C s) (R s) k in
      find-next apart (limit-out (ltb-false _ _ t) apart) (find_header s.words (N s) s.places.reader) (search-tells s.words (N s) s.places.reader)))

  -- ---- FOUND

  prepare-next : (p h0 : ℕ) → s.reader ≡ Found p h0 → After (fetch.Prepare (page p) (page h0))
  prepare-next p h0 q =
      let whole = subst (λ (f : ReaderPhase). Quiet f s.places.position (used_of s (R s))) q b.quiet in
      holds_same g
      (prepared-control v p h0 q)
      (reader-accounts (words-accounts b _) (Ready p h0) whole)
      g.fates
      (bounds-prepare v g.bounds p h0 q)
      g.none_open

  -- ---- READY

  ready-next : (p h0 : ℕ) → s.reader ≡ Ready p h0 → After (plan_ready (page p) (page h0) s.words)
  ready-next p h0 q =
      by_cond After (links s.words (page p) (page h0) header_flag)
      (λ k.
      let hw = eqb-true (get_or s.words p 0) (4 * h0 + 1) k in
      holds (swapped g.L (R s)) (g.pc - 1) (g.pt - 1) (suc g.a) (S s * g.a) 0
      (swapped-control v p h0 q hw)
      (swapped-accounts v b p h0 q hw)
      g.fates
      (bounds-swap v g.bounds p h0 q)
      g.none_open)
      (λ k. holds_same g (missed-control v) (reader-accounts b reading.Idle tt) g.fates g.bounds g.none_open)

  -- ---- by the reader's phase

  reader-next : (ph : ReaderPhase) → s.reader ≡ ph → After (plan_reader ph s.size s.places s.words s.used)
  reader-next reading.Idle q = idle-next q
  reader-next (reading.Found p h0) q = prepare-next p.0 h0.0 q
  reader-next (reading.Ready p h0) q = ready-next p.0 h0.0 q

  pub read_next : Next x s h (read_rule s)
  read_next = by_bool (in_shape s) (λ fits. rw fits (reader-next s.reader refl)) (λ fits. rw fits g)
