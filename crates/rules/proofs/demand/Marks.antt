-- The links and the marks: N moves meet each ring page once, as the order says; and there is one header mark, or none and an update mark whose writer is at work.
-- Assumes nothing.
use mathlib.Core.Path.{◌≡◌, refl, sym, ap, ◌∙◌, subst}
use mathlib.Core.Logic.{◌≢◌, ◌⊎◌, inl, inr}
use mathlib.Core.List.{List, [], ◌∷◌}
use Prim.Native.Nat.{ℕ, zero, suc, ◌-◌, ◌≤◌, ◌<◌}
use native.Mathlib.Omega.{arith}
use lib.ListN.{length, get_or}
use Rattle.rules.specs.History.{latest, run_at}
use Rattle.rules.specs.State.{page, top, State}
use Rattle.rules.specs.Remember.{By, History, unbegun}
use Rattle.rules.specs.Demand.{Some, RingPage, moves_from, Visits, OneHeader, NoHeader}
use Rattle.rules.specs.declared.state.PageNo.{PageNo}
use Rattle.rules.specs.declared.state.WriterPhase.{WriterPhase}
use Rattle.rules.specs.declared.state.WriterPhase.TheVariants.{Clear}
use Rattle.rules.proofs.invariant.Order.{N, S, R, T, next_of, phase_at, place}
use Rattle.rules.proofs.invariant.Control.{RecordOk, Owns, Headed, Headless, Flags, headed, headless, Control}
use Rattle.rules.proofs.invariant.Accounts.{Accounts}
use Rattle.rules.proofs.order.Places.{page-once}
use Rattle.rules.proofs.order.Walk.{walk, walks}

-- ---- moves and lists

-- k moves, by the numbers of the pages
moves_walk : (words : List ℕ) (k : ℕ) (p : PageNo) → (moves_from words k p).0 ≡ walk words k p.0
moves_walk words zero p = refl
moves_walk words (suc k) p = ap (next_of words) (moves_walk words k p)

-- B of the element at i
some_at : {A : Type 0} (B : A → Type 0) (xs : List A) (i : ℕ) (d : A) → i < length xs → B (get_or xs i d) → Some B xs
some_at B [] i d lt x = absurd (omega arith)
some_at B (y ∷ rest) zero d lt x = inl x
some_at B (y ∷ rest) (suc i) d lt x = inr (some_at B rest i d (omega arith) x)

module _ {s : State} {L : ℕ → ℕ} {pc pt : ℕ} (v : Control s L pc pt) where
  -- ---- ring pages, by their numbers

  off-reader : {p : PageNo} → RingPage s p → p.0 ≢ R s
  off-reader ring e = ring.apart (ap page e)

  ring-page : {p : PageNo} → p.0 ≤ N s → p.0 ≢ R s → RingPage s p
  ring-page le n = record { page = le; apart = λ e. n (page-once e) }

  -- the pages from place 1 on
  ring-at : (i : ℕ) → 1 ≤ i → RingPage s (page (place (R s) L i))
  ring-at zero h = absurd (omega arith)
  ring-at (suc i) h = ring-page (v.links.cycle.bound i) (v.links.cycle.off i)

  -- ---- the links

  pub visits : (p : PageNo) → RingPage s p → Visits s p
  visits p ring =
      let w = walks v.links p.0 ring.page (off-reader ring) in
      let same : (k : ℕ) → (moves_from s.words k p).0 ≡ walk s.words k p.0 = λ k. moves_walk s.words k p in
      record {
        stays = λ k. ring-page (rw (same k) (w.stays k).0) (rw (same k) (w.stays k).1);
        once = λ j k hj hk e. w.once j k hj hk (sym (same (suc j)) ∙ page-once e ∙ same (suc k));
        meets = λ q other.
            let o = w.meets q.0 other.page (off-reader other) in
            (o.0, o.1, ap page (same (suc o.0) ∙ o.2));
        back = ap page (same (N s) ∙ w.back);
      }

  -- ---- the marks

  one-header : Headed s.words (N s) (place (R s) L) → OneHeader s
  one-header f =
      record {
        page = page (place (R s) L (N s));
        ring = ring-at (N s) (omega (arith, v.links.cycle.two));
        marked = f.last;
        alone = λ p ring e. ap page (f.only p.0 ring.page (off-reader ring) e);
      }

  module _ {h : History} {a r0 gap : ℕ} (b : Accounts s h L pc pt a r0 gap) where
    -- the writer of a mark that a record owns is at work
    owner-works : (i p : ℕ) → i < s.depth → Owns (phase_at s.stack i) p → Some (λ w. h.marker (page p) ≡ By w.nth) h.working
    owner-works i p lt o =
        some_at (λ w. h.marker (page p) ≡ By w.nth) h.working i unbegun (omega (arith, b.work.many)) (b.work.marks i p lt o)

    no_header : Headless s.words (N s) (place (R s) L) (T s) pc s.stack s.depth → NoHeader (run_at s h)
    no_header f =
        let moving = subst (RecordOk s.words s.used (N s) (S s) (place (R s) L) pc pt) f.owner (v.records f.a f.below) in
        record {
          no = λ p ring. f.none p.0 ring.page (off-reader ring);
          page = page (place (R s) L (N s - 1));
          ring = ring-at (N s - 1) (omega (arith, v.links.cycle.two));
          marked = moving.1;
          at_work = owner-works f.a (place (R s) L (N s - 1)) f.below (rw f.owner refl);
        }

    marks-of : Flags s.words (N s) (place (R s) L) (T s) pc s.stack s.depth → OneHeader s ⊎ NoHeader (run_at s h)
    marks-of (headed f) = inl (one-header f)
    marks-of (headless f) = inr (no_header f)

    pub marks : OneHeader s ⊎ NoHeader (run_at s h)
    marks = marks-of v.flags

    -- the top record is the latest writer's, and it owns the mark that it is about to clear
    pub clears : (t n : PageNo) → 0 < s.depth → (top s).phase ≡ Clear t n → h.marker t ≡ By (latest h.working).nth
    clears t n deep q =
        let own : Owns (top s).phase t.0 = subst (λ (f : WriterPhase). Owns f t.0) (sym q) refl in
        b.work.marks (s.depth - 1) t.0 (omega arith) own
        ∙ ap (λ (k : ℕ). By (get_or h.working (k - 1) unbegun).nth) (sym b.work.many)
