-- CLEAR keeps control: the record clears the update mark that it owns, and no other record owns it.
-- Assumes nothing.
use mathlib.Core.Path.{◌≡◌, refl, sym, ap, ◌∙◌, subst}
use mathlib.Core.Logic.{◌≢◌, inr}
use mathlib.Core.Bool.{true}
use mathlib.Core.List.{List}
use Prim.Native.Nat.{ℕ, ◌+◌, ◌-◌, ◌*◌, ◌≤◌, ◌<◌}
use native.Mathlib.Omega.{arith}
use lib.ListN.{set, length-set}
use Rattle.rules.specs.State.{page, top, State}
use Rattle.rules.specs.Write.{clear}
use Rattle.rules.specs.declared.state.WriterPhase.{WriterPhase}
use Rattle.rules.specs.declared.state.Writer.{Writer}
use Rattle.rules.proofs.Lists.{by-eq}
use Rattle.rules.proofs.invariant.Order.{N, S, R, top_at, phase_at, rephase, Promote, Clear, Push, place}
use Rattle.rules.proofs.invariant.Control.{Moving, RecordOk, Owns, Owners, Above, Headed, headed, Joined, HeadedIn, Control}
use Rattle.rules.proofs.control.Phase.{headed-unless, owner-in, placed-le, top_below, top-ok}
use Rattle.rules.proofs.order.Places.{place-off}
use Rattle.rules.proofs.order.Records.{Reflag, reflag, flag-other, flag-apart, reflag-links, reflag-small, record-map, records-set, owners-set, reader-map}

module _ {s : State} {L : ℕ → ℕ} {pc pt : ℕ} (v : Control s L pc pt) (deep : 1 ≤ s.depth) (t n : ℕ) (phase-is : (top s).phase ≡ Clear t n) where
  abbrev P : ℕ → ℕ
  P = place (R s) L

  abbrev words' : List ℕ
  words' = set s.words t (4 * n + 0)

  abbrev pushing : Writer
  pushing = rephase s.stack (top_at s) (Push t n)

  moving : Moving s.words s.used (N s) (S s) P pc pt t n
  moving = (top-ok v deep (Clear t n) phase-is).0

  t≤N : t ≤ N s
  t≤N = placed-le v moving.spot.k t moving.spot.is

  -- t is the reader page only while the commit page is
  t≢R : 1 ≤ pc → t ≢ R s
  t≢R h q =
      place-off v.links.cycle moving.spot.k (omega (arith, moving.spot.lo)) (moving.spot.is ∙ q)

  reflagged : Reflag s.words words' t 0
  reflagged = reflag s.words t n 0 (omega (arith, v.links.linked.room, t≤N)) (omega arith) moving.next

  -- without a header mark this record would be in PROMOTE, or above one that is, where no CLEAR stands
  head : HeadedIn s L
  head =
      headed-unless v.flags
      (λ o.
      by-eq o.a (top_at s)
      (λ q.
      let same : Promote (P (N s - 1)) (P (N s)) true ≡ Clear t n = sym o.owner ∙ ap (phase_at s.stack) q ∙ phase-is in
      cc)
      (λ q. subst (Above (P (N s - 1)) (P (N s))) phase-is (o.above (top_at s) (omega (arith, o.below)) (omega arith))))

  moving-kept : (x y : ℕ) → Moving s.words s.used (N s) (S s) P pc pt x y → Moving words' s.used (N s) (S s) P pc pt x y
  moving-kept x y m = record { spot = m.spot; next = reflagged.next x ∙ m.next; not_last = m.not_last }

  -- no other record owns t's mark
  alone : (i p : ℕ) → i < s.depth → i ≢ top_at s → Owns (phase_at s.stack i) p → p ≢ t
  alone i p hi ne o q =
      ne (v.owners.one i (top_at s) t hi (omega arith) (subst (Owns (phase_at s.stack i)) q o) (subst (λ (x : WriterPhase). Owns x t) (sym phase-is) refl))

  record-kept : (i : ℕ) → i < s.depth → i ≢ top_at s → RecordOk words' s.used (N s) (S s) P pc pt (phase_at s.stack i)
  record-kept i hi ne =
      record-map moving-kept (λ x m. m) (phase_at s.stack i)
      (λ p o. flag-other reflagged p (alone i p hi ne o) ∙ (owner-in v i p hi o).2)
      (v.records i hi)

  joined-kept : pc ≡ 0 → Joined words' P
  joined-kept z =
      record {
        next = reflagged.next (R s) ∙ (v.joined z).next;
        flag = λ f. (v.joined z).flag (sym (flag-other reflagged (R s) (flag-apart reflagged (R s) 1 (λ q. omega arith) f)) ∙ f);
      }

  headed-kept : Headed words' (N s) P
  headed-kept =
      record {
        last = flag-other reflagged (P (N s)) (λ q. moving.not_last (sym q)) ∙ head.last;
        only = λ p hp pr f. head.only p hp pr (sym (flag-other reflagged p (flag-apart reflagged p 1 (λ q. omega arith) f)) ∙ f);
      }

  owners-kept : Owners words' (N s) (set s.stack (top_at s) pushing) s.depth
  owners-kept =
      owners-set s.stack (top_at s) pushing v.owners (omega arith) (top_below v deep)
      (reflag-small reflagged (omega arith) v.owners.small)
      (λ p hp f.
      let apart = flag-apart reflagged p 2 (λ q. omega arith) f in
      inr (sym (flag-other reflagged p apart) ∙ f, subst (λ (x : WriterPhase). ¬ Owns x p) (sym phase-is) (λ q. apart (sym q))))
      (λ p j hj nj o u. o)

  pub cleared-control : Control (clear (page t) (page n) s) L pc pt
  cleared-control =
      record {
        links = reflag-links reflagged v.links;
        order = v.order;
        joined = joined-kept;
        flags = headed headed-kept;
        owners = owners-kept;
        depth = rw (length-set s.stack (top_at s) pushing) v.depth;
        records =
            records-set (RecordOk words' s.used (N s) (S s) P pc pt) s.stack s.depth (top_at s) pushing (top_below v deep) record-kept (moving-kept t n moving);
        reader =
            reader-map s.words words' (N s) (R s) pc pc (λ h. h) (λ h. reflagged.other (R s) (λ q. t≢R h (sym q))) reflagged.next s.reader v.reader;
      }
