-- The move decided on a ring in shape names only pages and slots that the ring has room for.
-- Assumes nothing.
use Rattle.std.specs.Prelude.{Option, Some, None}
use mathlib.Core.Path.{◌≡◌}
use mathlib.Core.Bool.{true, ◌&&◌, ◌||◌}
use Prim.Native.Nat.{ℕ, ◌-◌, ◌≤◌}
use native.Mathlib.Omega.{arith}
use borrow.Author.Tests.{ltb-true}
use lib.Dec.{eqb, ltb}
use Rattle.rules.specs.Limits.{most_pages, stop_mode, header_flag, update_flag}
use Rattle.rules.specs.State.{word_at, used_at, top, State}
use Rattle.rules.specs.Words.{page_in, flag_in, same_page, reader_on_commit, links, find_header}
use Rattle.rules.specs.Shape.{pages_fit, writer_fits}
use Rattle.rules.specs.Write.{plan_drop, plan_full, promote_by, plan_phase, plan_write}
use Rattle.ring.specs.Pieces.{MovePrecondition}
use Rattle.rules.specs.declared.state.PageNo.{PageNo}
use Rattle.rules.specs.declared.state.WriterPhase.{WriterPhase}
use Rattle.rules.specs.declared.state.WriterPhase.TheVariants as phase
use Rattle.rules.proofs.Lists.{by_cond}
use Rattle.rules.proofs.shape.Laws.{InShape, pages-fit, held-fits}

-- a drop names nothing to store to
drop-precondition : (depth : ℕ) → MovePrecondition (plan_drop depth)
drop-precondition depth = by_cond MovePrecondition (eqb depth 1) (λ e. tt) (λ e. tt)

-- a full tail page leads to a drop or to another phase, which names nothing either
full-precondition : (r : State) (n : PageNo) (flag : ℕ) → MovePrecondition (plan_full r.size r.places r.depth n flag)
full-precondition r n flag =
    by_cond MovePrecondition (same_page r.places.tail r.places.reader) (λ e. tt) (λ e.
    by_cond MovePrecondition (same_page n r.places.commit) (λ e. drop-precondition r.depth) (λ e.
    by_cond MovePrecondition (eqb flag header_flag && reader_on_commit r.places) (λ e. drop-precondition r.depth) (λ e.
    by_cond MovePrecondition (eqb flag header_flag && eqb r.size.mode stop_mode) (λ e. drop-precondition r.depth) (λ e.
    by_cond MovePrecondition (eqb flag header_flag || eqb flag update_flag) (λ e. tt) (λ e. tt)))))

-- PROMOTE names n alone, whatever was found
promote-precondition : (found : Option (PageNo × PageNo)) (n : PageNo) (next : WriterPhase) → n.0 ≤ most_pages → MovePrecondition (promote_by found n next)
promote-precondition (Some (p, h)) n next le = tt
promote-precondition None n next le = le

module _ (r : State) (s : InShape r) where
  pages-room : (t n : PageNo) → pages_fit t n r.size.pages ≡ true → (t.0 ≤ most_pages) × (n.0 ≤ most_pages)
  pages-room t n h =
      let f = pages-fit t n r.size.pages h in
      (omega (arith, s), omega (arith, s))

  phase-precondition : (ph : WriterPhase) → writer_fits ph r.size ≡ true → MovePrecondition (plan_phase ph r.size r.places r.depth r.words r.used)
  phase-precondition phase.Want h =
      by_cond MovePrecondition (ltb (used_at r.used r.places.tail) r.size.slots)
      (λ e. (omega (arith, s), omega (arith, s, ltb-true (used_at r.used r.places.tail) r.size.slots e)))
      (λ e. full-precondition r (page_in (word_at r.words r.places.tail)) (flag_in (word_at r.words r.places.tail)))
  phase-precondition (phase.Mark t n) h =
      by_cond MovePrecondition (links r.words t n header_flag)
      (λ e. pages-room t n h)
      (λ e. by_cond MovePrecondition (links r.words t n update_flag) (λ e. tt) (λ e. tt))
  phase-precondition (phase.Promote t n own) h =
      promote-precondition (find_header r.words r.size.pages r.places.reader) n _ (pages-room t n h).1
  phase-precondition (phase.Clear t n) h = by_cond MovePrecondition (links r.words t n update_flag) (λ e. pages-room t n h) (λ e. tt)
  phase-precondition (phase.Push t n) h = by_cond MovePrecondition (same_page r.places.tail t) (λ e. (pages-room t n h).1) (λ e. tt)
  phase-precondition (phase.Held p slot) h =
      let f = held-fits p slot r.size h in
      (omega (arith, s), omega (arith, s))
  phase-precondition phase.Filled h = by_cond MovePrecondition (eqb r.depth 1) (λ e. tt) (λ e. tt)

  module _ (somebody : r.depth ≡ 0 → ⊥) where
    -- the top record's phase fits, and so does the move that it leads to
    pub top-fits : writer_fits (top r).phase r.size ≡ true
    top-fits = s.record_at (r.depth - 1) (omega arith)

    pub plan-precondition : MovePrecondition (plan_write r)
    plan-precondition = phase-precondition (top r).phase top-fits
