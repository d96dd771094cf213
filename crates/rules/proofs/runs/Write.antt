-- Write keeps the invariant: for each phase of the top record and each move that its rule decides on, the parts of the invariant that the step changes.
-- Assumes nothing.
use mathlib.Core.Path.{◌≡◌, refl, sym, ap, ◌∙◌, subst}
use mathlib.Core.Logic.{◌≢◌}
use mathlib.Core.Bool.{Bool, true, false, ◌&&◌, ◌||◌}
use Prim.Native.Nat.{ℕ, suc, ◌+◌, ◌-◌, ◌*◌, ◌≤◌, ◌<◌}
use native.Mathlib.Omega.{arith}
use borrow.Author.Tests.{ltb-true, ltb-false, eqb-true, eqb-false, eq-eqb}
use lib.Dec.{eqb, ltb}
use lib.ListN.{length, get_or, set}
use Rattle.std.proofs.lemmas.Bool.{or_parts}
use Rattle.std.specs.Prelude.{Option, Some, None}
use Rattle.rules.specs.Limits.{stop_mode, header_flag, update_flag}
use Rattle.rules.specs.State.{page, no_writer, word_at, used_at, top, set_phase, pop, State}
use Rattle.rules.specs.Words.{page_in, flag_in, same_page, reader_on_commit, links}
use Rattle.rules.specs.Shape.{in_shape}
use Rattle.rules.specs.Write.{plan_drop, plan_full, plan_mark, after_promote, promote_by, promote_look, plan_promote, plan_clear, plan_push, plan_filled, plan_phase, drop, mark, moved, write_rule}
use Rattle.rules.specs.Remember.{History}
use Rattle.rules.specs.History.{on_ended, with_dropper, on_marked}
use Rattle.rules.specs.declared.state.PageNo.{PageNo}
use Rattle.rules.specs.declared.state.WriterPhase.{WriterPhase}
use Rattle.rules.specs.declared.state.WriterPhase.TheVariants as phase
use Rattle.rules.specs.declared.state.Writer.{Writer}
use Rattle.rules.specs.declared.state.Answer.TheVariants as answer
use Rattle.rules.specs.declared.moves.Move.{Move}
use Rattle.rules.specs.declared.moves.Move.TheVariants as move
use Rattle.rules.proofs.Lists.{by_bool, by-eq, by_cond, and-false}
use Rattle.rules.proofs.invariant.Order.{N, S, R, T, top_at, next_of, flag_of, used_of, phase_at, rephase, Mark, Promote, Clear, Push, Held, turn}
use Rattle.rules.proofs.invariant.Control.{Owns, Free, Control}
use Rattle.rules.proofs.invariant.Accounts.{early, Accounts}
use Rattle.rules.proofs.invariant.Fates.{FatesOf}
use Rattle.rules.proofs.invariant.Bounds.{AimFits, BoundsOf}
use Rattle.rules.proofs.accounts.Commit.{commit-accounts}
use Rattle.rules.proofs.accounts.Fill.{filled-accounts}
use Rattle.rules.proofs.accounts.Mark.{marked-accounts}
use Rattle.rules.proofs.accounts.Phase.{words-accounts, phase-accounts}
use Rattle.rules.proofs.accounts.Pop.{finished-accounts, dropped-accounts}
use Rattle.rules.proofs.accounts.Push.{tail-accounts}
use Rattle.rules.proofs.accounts.Reserve.{reserved-accounts}
use Rattle.rules.proofs.bounds.Steps.{words-fit, bounds-flag, bounds-phase, bounds-reserve, bounds-pop}
use Rattle.rules.proofs.control.Clear.{cleared-control}
use Rattle.rules.proofs.control.Commit.{commit-control}
use Rattle.rules.proofs.control.Fill.{filled-control}
use Rattle.rules.proofs.control.Look.{look-reader, look-push, look-mark}
use Rattle.rules.proofs.control.Mark.{retry-control, shared-control, marked-control}
use Rattle.rules.proofs.control.Phase.{head_of, tail-le, top_below, top-ok}
use Rattle.rules.proofs.control.Pop.{finished-control, dropped-control}
use Rattle.rules.proofs.control.Promote.{own-after, standing-control, promoted-control}
use Rattle.rules.proofs.control.Push.{passed-control, pushed-control}
use Rattle.rules.proofs.control.Reserve.{reserved-control}
use Rattle.rules.proofs.fates.Steps.{fates-same, fates-committed, fates-reserved, fates-ended, fates-dropped}
use Rattle.rules.proofs.order.Records.{phase-same, phase-other}
use Rattle.rules.proofs.order.Search.{Tells, search-tells}
use Rattle.rules.proofs.runs.Invariant.{Invariant, holds, holds_same, Next}

-- ---- the phase after PROMOTE: early, with no aim

early-after : (own : Bool) (t n : ℕ) → ◌≡◌ {A = ℕ} (early (after_promote (page t) (page n) own)) 1
early-after true t n = refl
early-after false t n = refl

aim-after : (N : ℕ) (own : Bool) (t n : ℕ) → AimFits N (after_promote (page t) (page n) own)
aim-after N true t n = tt
aim-after N false t n = tt

module _ (x : ℕ) {s : State} {h : History} (g : Invariant s h) (deep : 1 ≤ s.depth) where
  abbrev v : Control s g.L g.pc g.pt
  v = g.control

  abbrev b : Accounts s h g.L g.pc g.pt g.a g.r0 g.gap
  b = g.accounts

  -- the invariant after a move
  abbrev After : Move → Type 0
  After m = Next x s h (moved m s)

  -- ---- another phase of the top record

  -- as early as it was
  phase-fates : (ph : WriterPhase) → early (top s).phase ≡ early ph → FatesOf (set_phase ph s) h
  phase-fates ph q =
      let w = rephase s.stack (top_at s) ph in
      fates-same g.fates
      (λ i hi.
      by-eq i (top_at s)
      (λ z. ap (λ (k : ℕ). early (phase_at s.stack k)) z ∙ q
      ∙ sym (ap (λ (k : ℕ). early (phase_at (set s.stack (top_at s) w) k)) z ∙ ap early (phase-same s.stack (top_at s) w (top_below v deep))))
      (λ n. sym (ap early (phase-other s.stack (top_at s) i w n))))

  phase-bounds : (ph : WriterPhase) → AimFits (N s) ph → BoundsOf (set_phase ph s)
  phase-bounds = bounds-phase s g.bounds deep v.depth

  -- an early record becomes another that owns no mark: all of the invariant but control
  rephased : (ph : WriterPhase) → early (top s).phase ≡ 1 → early ph ≡ 1 → Free ph → AimFits (N s) ph → Control (set_phase ph s) g.L g.pc g.pt
      → Invariant (set_phase ph s) h
  rephased ph was is free aim control =
      holds_same g control
      (phase-accounts b deep v.depth ph was is (λ p o. absurd (free p o)))
      (phase-fates ph (was ∙ sym is))
      (phase-bounds ph aim)
      g.none_open

  -- the records below the top one are as early as they were
  early-below : (w : Writer) (i : ℕ) → i < s.depth - 1 → early (phase_at s.stack i) ≡ early (phase_at (set s.stack (top_at s) w) i)
  early-below w i hi = sym (ap early (phase-other s.stack (top_at s) i w (omega arith)))

  -- ---- WANT

  module _ (want : (top s).phase ≡ phase.Want) where
    -- the page after the tail page, and the flag in the tail page's word
    abbrev n : PageNo
    n = page_in (word_at s.words s.places.tail)

    abbrev flag : ℕ
    flag = flag_in (word_at s.words s.places.tail)

    reserve-next : used_of s (T s) < S s → After (move.Reserve s.places.tail (used_at s.used s.places.tail))
    reserve-next room =
        let held = rephase s.stack (top_at s) (Held (T s) (used_of s (T s))) in
        let now = ap early (phase-same s.stack (top_at s) held (top_below v deep)) in
        holds_same g
        (reserved-control v deep want room)
        (reserved-accounts v b deep want room)
        (fates-reserved g.fates deep (early-below held) s.counts.taken (ap early want) now)
        (bounds-reserve s g.bounds deep v.depth s.places.tail (used_of s (T s)))
        (λ none. absurd (omega arith))

    -- the drop alone, before commit moves
    abbrev drop-accounts : Accounts (drop s) (on_ended (with_dropper h)) g.L g.pc g.pt g.a g.r0 g.gap
    drop-accounts = dropped-accounts b deep v.depth want

    drop-fates : FatesOf (drop s) (on_ended (with_dropper h))
    drop-fates = fates-dropped g.fates deep (early-below no_writer) (ap early want)

    -- the writers at work are as many as the records
    working-is : (k : Bool) → eqb s.depth 1 ≡ k → eqb (length h.working) 1 ≡ k
    working-is k d = rw b.work.many d

    -- the outermost writer's: no record is left, and what it leaves is committed
    alone-next : eqb s.depth 1 ≡ true → After move.DropCommit
    alone-next d =
        let none : s.depth - 1 ≡ 0 = omega (arith, eqb-true s.depth 1 d) in
        let control = dropped-control v deep want in
        rw (working-is true d)
        (holds g.L g.pt g.pt g.a g.r0 g.gap
        (commit-control control none)
        (commit-accounts control drop-accounts none)
        (fates-committed drop-fates)
        (bounds-pop s g.bounds)
        (λ z. refl))

    deeper-next : eqb s.depth 1 ≡ false → After move.Drop
    deeper-next d =
        let deeper = eqb-false s.depth 1 d in
        rw (working-is false d)
        (holds_same g (dropped-control v deep want) drop-accounts drop-fates (bounds-pop s g.bounds) (λ none. absurd (omega arith)))

    drop-next : After (plan_drop s.depth)
    drop-next = by_cond After (eqb s.depth 1) alone-next deeper-next

    push-look : Control (set_phase (Push (T s) n.0) s) g.L g.pc g.pt → After (move.Become (Push (T s) n.0) answer.Looked)
    push-look = rephased (Push (T s) n.0) (ap early want) refl (λ p o. o) tt

    mark-look : Control (set_phase (Mark (T s) n.0) s) g.L g.pc g.pt → After (move.Become (Mark (T s) n.0) answer.Looked)
    mark-look = rephased (Mark (T s) n.0) (ap early want) refl (λ p o. o) (words-fit v g.bounds (T s) (tail-le v))

    -- neither HEADER nor UPDATE
    flag-normal : eqb flag header_flag || eqb flag update_flag ≡ false → flag_of s.words (T s) ≡ 0
    flag-normal neither =
        let no = or_parts (eqb flag header_flag) (eqb flag update_flag) neither in
        omega (arith, v.owners.small (T s) (tail-le v), eqb-false flag header_flag no.0, eqb-false flag update_flag no.1)

    full-next : S s ≤ used_of s (T s) → After (plan_full s.size s.places s.depth n flag)
    full-next full =
        by_cond After (same_page s.places.tail s.places.reader) (λ a. push-look (look-reader v deep want full (eqb-true _ _ a))) (λ not_a.
        by_cond After (same_page n s.places.commit) (λ b. drop-next) (λ not-b.
        by_cond After (eqb flag header_flag && reader_on_commit s.places) (λ c. drop-next) (λ not-c.
        by_cond After (eqb flag header_flag && eqb s.size.mode stop_mode) (λ d. drop-next) (λ not-d.
        by_cond After (eqb flag header_flag || eqb flag update_flag)
        (λ e. mark-look (look-mark v deep want full (eqb-false _ _ not-b) (λ q. eqb-false _ _ (and-false _ _ not-c (eq-eqb flag header_flag q)))))
        (λ not-e. push-look (look-push v deep want full (flag-normal not-e)))))))

  -- ---- MARK

  module _ (t n : ℕ) (phase-is : (top s).phase ≡ Mark t n) where
    -- a Marked changes nothing that the fates read
    marked-fates : FatesOf (mark (page t) (page n) s) (on_marked (top s).phase s h)
    marked-fates =
        subst (λ (ph : WriterPhase). FatesOf (mark (page t) (page n) s) (on_marked ph s h)) (sym phase-is) (phase-fates (Promote t n true) (ap early phase-is))

    marked_next : get_or s.words t 0 ≡ 4 * n + 1 → After (move.Mark (page t) (page n))
    marked_next word-is =
        holds (turn g.L) (g.pc - 1) (g.pt - 1) (suc g.a) g.r0 (g.gap + S s)
        (marked-control v deep t n phase-is word-is)
        (marked-accounts v b deep t n phase-is word-is)
        marked-fates
        (bounds-flag (set_phase (Promote t n true) s) (phase-bounds (Promote t n true) tt) t n 2 (omega arith) (omega arith))
        g.none_open

    mark-next : After (plan_mark (page t) (page n) s.words)
    mark-next =
        by_cond After (links s.words (page t) (page n) header_flag)
        (λ k. marked_next (eqb-true _ _ k))
        (λ k.
        by_cond After (links s.words (page t) (page n) update_flag)
        (λ l. rephased (Promote t n false) (ap early phase-is) refl (λ p o. o) tt (shared-control v deep t n phase-is (eqb-true _ _ l)))
        (λ l. rephased phase.Want (ap early phase-is) refl (λ p o. o) tt (retry-control v deep t n phase-is)))

  -- ---- PROMOTE

  module _ (t n : ℕ) (own : Bool) (phase-is : (top s).phase ≡ Promote t n own) where
    abbrev then : WriterPhase
    then = after_promote (page t) (page n) own

    after-accounts : Accounts (set_phase then s) h g.L g.pc g.pt g.a g.r0 g.gap
    after-accounts =
        phase-accounts b deep v.depth then (ap early phase-is) (early-after own t n)
        (λ p o. subst (λ (ph : WriterPhase). Owns ph p) (sym phase-is) (own-after own t n p o))

    after-fates : FatesOf (set_phase then s) h
    after-fates = phase-fates then (ap early phase-is ∙ sym (early-after own t n))

    after-bounds : BoundsOf (set_phase then s)
    after-bounds = phase-bounds then (aim-after (N s) own t n)

    promote-by : (r : Option (PageNo × PageNo)) → Tells s.words (N s) (R s) r → After (promote_by r (page n) then)
    promote-by (Some (p, q)) k =
        holds_same g (standing-control v deep t n own phase-is (head_of v.flags p.0 k.0 k.1 k.2)) after-accounts after-fates after-bounds
        g.none_open
    promote-by None k =
        holds_same g
        (promoted-control v deep t n own phase-is k)
        (words-accounts after-accounts _)
        after-fates
        (bounds-flag (set_phase then s) after-bounds n (next_of s.words n) 1 (omega arith) refl)
        g.none_open

    promote-next : After (plan_promote s.size s.places (page t) (page n) own s.words)
    promote-next = promote-by (promote_look s.size s.places (page n) s.words) (search-tells s.words (N s) s.places.reader)

  -- ---- CLEAR

  module _ (t n : ℕ) (phase-is : (top s).phase ≡ Clear t n) where
    -- the mark is still there: only its owner clears it
    clear-word : get_or s.words t 0 ≡ 4 * n + 2
    clear-word =
        let r = top-ok v deep (Clear t n) phase-is in
        omega (arith, r.0.next, r.1)

    cleared-next : After (move.Clear (page t) (page n))
    cleared-next =
        holds_same g
        (cleared-control v deep t n phase-is)
        (words-accounts (phase-accounts b deep v.depth (Push t n) (ap early phase-is) refl (λ p o. absurd o)) _)
        (phase-fates (Push t n) (ap early phase-is))
        (bounds-flag (set_phase (Push t n) s) (phase-bounds (Push t n) tt) t n 0 (omega arith) (omega (arith, clear-word)))
        g.none_open

    clear_next : After (plan_clear (page t) (page n) s.words)
    clear_next = by_cond After (links s.words (page t) (page n) update_flag) (λ k. cleared-next) (λ k. absurd (eqb-false _ _ k clear-word))

  -- ---- PUSH

  module _ (t n : ℕ) (phase-is : (top s).phase ≡ Push t n) where
    pushed-next : T s ≡ t → After (move.Push (page n))
    pushed-next tail =
        let control = pushed-control v deep t n phase-is tail in
        let full : used_of s (T s) ≡ S s = ap (used_of s) tail ∙ (top-ok v deep (Push t n) phase-is).spot.full in
        let empty : used_of s n ≡ 0 = ap (used_of s) (sym control.order.tail_at) ∙ v.order.empty (suc g.pt) (omega arith) control.order.top in
        holds g.L g.pc (suc g.pt) g.a g.r0 g.gap control
        (tail-accounts (phase-accounts b deep v.depth phase.Want (ap early phase-is) refl (λ p o. absurd o)) n full empty)
        (phase-fates phase.Want (ap early phase-is))
        (phase-bounds phase.Want tt)
        g.none_open

    push-next : After (plan_push s.places (page t) (page n))
    push-next =
        by_cond After (same_page s.places.tail (page t))
        (λ k. pushed-next (eqb-true _ _ k))
        (λ k. rephased phase.Want (ap early phase-is) refl (λ p o. o) tt (passed-control v deep t n phase-is))

  -- ---- HELD and FILLED

  fill-next : (p j : ℕ) → (top s).phase ≡ Held p j → After (move.Fill (page p) j)
  fill-next p j held =
      holds_same g
      (filled-control v deep p j held)
      (filled-accounts v b deep p j held)
      (phase-fates phase.Filled (ap early held))
      (phase-bounds phase.Filled tt)
      g.none_open

  module _ (filled : (top s).phase ≡ phase.Filled) where
    finished-fates : FatesOf (pop s) (on_ended h)
    finished-fates = fates-ended g.fates deep (early-below no_writer) (ap early filled)

    commit-next : s.depth ≡ 1 → After move.Commit
    commit-next one =
        let none : s.depth - 1 ≡ 0 = omega arith in
        let control = finished-control v deep filled in
        holds g.L g.pt g.pt g.a g.r0 g.gap
        (commit-control control none)
        (commit-accounts control (finished-accounts b deep v.depth filled) none)
        (fates-committed finished-fates)
        (bounds-pop s g.bounds)
        (λ z. refl)

    pend-next : s.depth ≢ 1 → After move.Pend
    pend-next deeper =
        holds_same g
        (finished-control v deep filled)
        (finished-accounts b deep v.depth filled)
        finished-fates
        (bounds-pop s g.bounds)
        (λ none. absurd (omega arith))

    filled_next : After (plan_filled s.depth)
    filled_next =
        by_cond After (eqb s.depth 1) (λ k. commit-next (eqb-true s.depth 1 k)) (λ k. pend-next (eqb-false s.depth 1 k))

  -- ---- by the top record's phase

  phase-next : (ph : WriterPhase) → (top s).phase ≡ ph → After (plan_phase ph s.size s.places s.depth s.words s.used)
  phase-next phase.Want q =
      by_cond After (ltb (used_at s.used s.places.tail) s.size.slots)
      (λ t. reserve-next q (ltb-true _ _ t))
      (λ t. full-next q (ltb-false _ _ t))
  phase-next (phase.Mark t n) q = mark-next t.0 n.0 q
  phase-next (phase.Promote t n own) q = promote-next t.0 n.0 own q
  phase-next (phase.Clear t n) q = clear_next t.0 n.0 q
  phase-next (phase.Push t n) q = push-next t.0 n.0 q
  phase-next (phase.Held p j) q = fill-next p.0 j q
  phase-next phase.Filled q = filled_next q

-- refused by SHAPE or NOBODY, or else the step
pub write-next : (x : ℕ) (s : State) (h : History) → Invariant s h → Next x s h (write_rule s)
write-next x s h g =
    by_bool (in_shape s)
    (λ fits.
    by_bool (eqb s.depth 0)
    (λ d. rw (fits, d) g)
    (λ d.
    let some = eqb-false s.depth 0 d in
    rw (fits, d) (phase-next x g (omega arith) (top s).phase refl)))
    (λ fits. rw fits g)
